-- The bytes of a number by quotients, and the number by a sum, as `to_be_bytes` and `from_be_bytes` have them.
use Rattle.std.proofs.Common.{◌≡◌, ℕ, zero, suc, ◌+◌, ◌*◌, ◌/◌, ◌%◌, ◌^◌, List, [], ◌∷◌, ◌++◌, get_or, sym, refl, ap, ◌∙◌, ap₂, arith}
use native.Mathlib.Nat.{div-div-eq-div-mul, pow-succ'}
use Rattle.number_bytes.specs.BigEndian.{big_endian, from_big_endian, Octets}
use Rattle.number_bytes.proofs.BigEndian.{written_read}
use Rattle.number_bytes.proofs.Listing.{listing, octets_listing}

-- the k lowest bytes of n, each by its place
abbrev pub quotients : ℕ → ℕ → List ℕ
quotients zero n = []
quotients (suc zero) n = n % 256 ∷ []
quotients (suc (suc k)) n = (n / 256 ^ suc k % 256) ∷ quotients (suc k) n

-- with the lowest byte taken off
quotients_more : (k n : ℕ) → quotients k (n / 256) ++ (n % 256 ∷ []) ≡ quotients (suc k) n
quotients_more zero n = refl
quotients_more (suc zero) n = refl
quotients_more (suc (suc k)) n =
    ap₂ (λ (m : ℕ) (l : List ℕ). m % 256 ∷ l)
    (div-div-eq-div-mul n 256 (256 ^ suc k) ∙ ap (λ (m : ℕ). n / m) (sym (pow-succ' 256 (suc k))))
    (quotients_more (suc k) n)

pub big_endian_quotients : (k n : ℕ) → big_endian k n ≡ quotients k n
unfolding big_endian
big_endian_quotients zero n = refl
big_endian_quotients (suc k) n =
    ap (λ (l : List ℕ). l ++ (n % 256 ∷ [])) (big_endian_quotients k (n / 256)) ∙ quotients_more k n

pub big_endian_two : (n : ℕ) → big_endian 2 n ≡ (n / 256 % 256) ∷ (n % 256) ∷ []
big_endian_two = big_endian_quotients 2

pub big_endian_four : (n : ℕ) → big_endian 4 n ≡ (n / 16777216 % 256) ∷ (n / 65536 % 256) ∷ (n / 256 % 256) ∷ (n % 256) ∷ []
big_endian_four = big_endian_quotients 4

pub big_endian_eight : (n : ℕ) → big_endian 8 n
    ≡ (n / 72057594037927936 % 256) ∷ (n / 281474976710656 % 256) ∷ (n / 1099511627776 % 256) ∷ (n / 4294967296 % 256)
    ∷ (n / 16777216 % 256) ∷ (n / 65536 % 256) ∷ (n / 256 % 256) ∷ (n % 256) ∷ []
big_endian_eight = big_endian_quotients 8

-- what 2, 4 and 8 bytes write, from the i-th of the list on
pub from_two : (l : List ℕ) (i : ℕ) → from_big_endian (listing 2 i l) ≡ get_or l i 0 * 256 + get_or l (suc i) 0
from_two l i = omega arith

pub from_four : (l : List ℕ) (i : ℕ)
    → from_big_endian (listing 4 i l)
    ≡ get_or l i 0 * 16777216 + get_or l (suc i) 0 * 65536 + get_or l (suc (suc i)) 0 * 256 + get_or l (suc (suc (suc i))) 0
from_four l i = omega arith

pub from_eight : (l : List ℕ)
    → from_big_endian (listing 8 0 l)
    ≡ get_or l 0 0 * 72057594037927936 + get_or l 1 0 * 281474976710656 + get_or l 2 0 * 1099511627776 + get_or l 3 0 * 4294967296
    + get_or l 4 0 * 16777216 + get_or l 5 0 * 65536 + get_or l 6 0 * 256 + get_or l 7 0
from_eight l = omega arith

-- writing that number gives the bytes back
pub written_two : (l : List ℕ) (i : ℕ) → Octets l → big_endian 2 (get_or l i 0 * 256 + get_or l (suc i) 0) ≡ listing 2 i l
written_two l i o = ap (big_endian 2) (sym (from_two l i)) ∙ written_read 2 (listing 2 i l) refl (octets_listing 2 i l o)

pub written_four : (l : List ℕ) (i : ℕ) → Octets l
    → big_endian 4 (get_or l i 0 * 16777216 + get_or l (suc i) 0 * 65536 + get_or l (suc (suc i)) 0 * 256 + get_or l (suc (suc (suc i))) 0)
    ≡ listing 4 i l
written_four l i o = ap (big_endian 4) (sym (from_four l i)) ∙ written_read 4 (listing 4 i l) refl (octets_listing 4 i l o)

pub written_eight : (l : List ℕ) → Octets l
    → big_endian 8 (get_or l 0 0 * 72057594037927936 + get_or l 1 0 * 281474976710656 + get_or l 2 0 * 1099511627776 + get_or l 3 0 * 4294967296
    + get_or l 4 0 * 16777216 + get_or l 5 0 * 65536 + get_or l 6 0 * 256 + get_or l 7 0)
    ≡ listing 8 0 l
written_eight l o = ap (big_endian 8) (sym (from_eight l)) ∙ written_read 8 (listing 8 0 l) refl (octets_listing 8 0 l o)
