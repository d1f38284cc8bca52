-- Lists of bytes: each element is below 256.
use Rattle.std.proofs.Common.{ℕ, zero, suc, ◌<◌, List, [], ◌∷◌, ◌++◌, arith}
use Rattle.std.specs.Int.Digits.{AllBelowBase}
use Rattle.number_bytes.specs.BigEndian.{Octets}

pub octets_nil : Octets []
octets_nil i = omega arith

pub octets_cons : (b : ℕ) (bytes : List ℕ) → b < 256 → Octets bytes → Octets (b ∷ bytes)
octets_cons b bytes h o zero = h
octets_cons b bytes h o (suc i) = o i

pub octets_append : (xs ys : List ℕ) → Octets xs → Octets ys → Octets (xs ++ ys)
octets_append [] ys p q = q
octets_append (x ∷ xs) ys p q = octets_cons x (xs ++ ys) (p 0) (octets_append xs ys (λ i. p (suc i)) q)

-- in the library's words: digits of base 256
pub under_octets : (bytes : List ℕ) → Octets bytes → AllBelowBase 256 bytes
under_octets [] o = tt
under_octets (b ∷ bytes) o = (o 0, under_octets bytes (λ i. o (suc i)))
