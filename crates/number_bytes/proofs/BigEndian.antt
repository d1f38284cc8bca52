-- The bytes of a number: how many they are, that each is a byte, and both ways between a number and its bytes.
use Rattle.std.proofs.Common.{◌≡◌, ℕ, zero, suc, ◌+◌, ◌*◌, ◌/◌, ◌%◌, ◌^◌, ◌<◌, ◌≤◌, List, [], ◌∷◌, ◌++◌, length, take, drop, sym, refl, ap, ◌∙◌, ap₂, append_assoc, append-nil, add-zero, div-lt_iff_lt-mul, pow-suc, arith, take-append-drop}
use native.Mathlib.Nat.{pow-zero, pow-le-pow_right}
use Rattle.std.proofs.lemmas.Int.Digits.{number_push, number_lt, number_after_append, number_after_ge}
use Rattle.std.proofs.lemmas.List.{length_push}
use Rattle.std.specs.Int.Digits.{number_from_digits_after}
use Rattle.number_bytes.specs.BigEndian.{big_endian, from_big_endian, Octets}
use Rattle.number_bytes.proofs.Octets.{octets_nil, octets_cons, octets_append, under_octets}

-- one byte more is the lowest, behind the others
pub big_endian_more : (k n : ℕ) → big_endian (suc k) n ≡ big_endian k (n / 256) ++ (n % 256 ∷ [])
unfolding big_endian
big_endian_more k n = refl

pub length_big_endian : (k n : ℕ) → length (big_endian k n) ≡ k
unfolding big_endian
length_big_endian zero n = refl
length_big_endian (suc k) n = omega (arith, length_push (big_endian k (n / 256)) (n % 256), length_big_endian k (n / 256))

pub octets_big_endian : (k n : ℕ) → Octets (big_endian k n)
unfolding big_endian
octets_big_endian zero n = octets_nil
octets_big_endian (suc k) n =
    octets_append (big_endian k (n / 256)) (n % 256 ∷ []) (octets_big_endian k (n / 256)) (octets_cons (n % 256) [] (omega arith) octets_nil)

-- dividing by 256 takes the lowest place off
div_below : (k n : ℕ) → n < 256 ^ suc k → n / 256 < 256 ^ k
div_below k n h = (div-lt_iff_lt-mul (omega arith)).1 (omega (arith, pow-suc 256 k))

-- reading what was written
pub read_written : (k n : ℕ) → n < 256 ^ k → from_big_endian (big_endian k n) ≡ n
unfolding big_endian
read_written zero n h = omega (arith, pow-zero 256)
read_written (suc k) n h =
    omega (arith, number_push 256 (big_endian k (n / 256)) (n % 256), read_written k (n / 256) (div_below k n h))

-- numbers below 256 ^ k with the same k bytes are the same
pub same_from_bytes : (k m n : ℕ) → m < 256 ^ k → n < 256 ^ k → big_endian k m ≡ big_endian k n → m ≡ n
same_from_bytes k m n p q e = sym (read_written k m p) ∙ ap from_big_endian e ∙ read_written k n q

-- bytes read on top of a number are written behind it
written_after : (bytes : List ℕ) (k n : ℕ) → Octets bytes
    → big_endian (k + length bytes) (number_from_digits_after 256 n bytes) ≡ big_endian k n ++ bytes
unfolding big_endian
written_after [] k n o = ap (λ (m : ℕ). big_endian m n) (add-zero k) ∙ sym (append-nil (big_endian k n))
written_after (b ∷ bytes) k n o =
    let h = o 0 in
    let high : (n * 256 + b) / 256 ≡ n = omega arith in
    let low : (n * 256 + b) % 256 ≡ b = omega arith in
    let more : k + suc (length bytes) ≡ suc k + length bytes = omega arith in
    ap (λ (m : ℕ). big_endian m (number_from_digits_after 256 (n * 256 + b) bytes)) more
    ∙ written_after bytes (suc k) (n * 256 + b) (λ i. o (suc i))
    ∙ ap₂ (λ (x y : ℕ). (big_endian k x ++ (y ∷ [])) ++ bytes) high low
    ∙ append_assoc (big_endian k n) (b ∷ []) bytes

-- writing what was read
pub written_read : (k : ℕ) (bytes : List ℕ) → length bytes ≡ k → Octets bytes → big_endian k (from_big_endian bytes) ≡ bytes
unfolding big_endian
written_read k bytes e o =
    let all : k ≡ 0 + length bytes = omega arith in
    ap (λ (m : ℕ). big_endian m (from_big_endian bytes)) all ∙ written_after bytes 0 0 o

-- k bytes write a number below 256 ^ k
pub from_big_endian_lt : (bytes : List ℕ) → Octets bytes → from_big_endian bytes < 256 ^ length bytes
from_big_endian_lt bytes o = number_lt 256 bytes (under_octets bytes o)

-- up to 8 bytes write a number of 64 bits
pub eight_bytes_fit : (bytes : List ℕ) → Octets bytes → length bytes ≤ 8 → from_big_endian bytes < 2 ^ 64
eight_bytes_fit bytes o h = omega (arith, from_big_endian_lt bytes o, pow-le-pow_right {n = 256} (omega arith) h)

-- the first k bytes write no more than all do
pub from_big_endian_take_le : (k : ℕ) (bytes : List ℕ) → from_big_endian (take k bytes) ≤ from_big_endian bytes
from_big_endian_take_le k bytes =
    let whole = ap from_big_endian (take-append-drop k bytes) in
    omega (arith, whole, number_after_append 256 0 (take k bytes) (drop k bytes), number_after_ge 256 (from_big_endian (take k bytes)) (drop k bytes) (omega arith))
