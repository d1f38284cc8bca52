-- Which number a word spells.
use Rattle.std.specs.Prelude.{ℕ, ◌+◌, ◌-◌, ◌*◌, ◌<◌, Bool, cond, ◌&&◌, List, [], ◌∷◌, Some, None, Option, nat_le}
use Rattle.std.proofs.Math.Decide.{dec_lt}

-- a digit is a byte from `0` to `9`
abbrev pub digit : ℕ → Bool
digit b = nat_le 48 b && nat_le b 57

-- the number n with the digits of a text written after it; none where a byte of the text is no digit
unfoldable pub numeral : ℕ → List ℕ → Option ℕ
numeral n [] = Some n
numeral n (b ∷ bs) = cond (digit b) (numeral (n * 10 + (b - 48)) bs) None

-- a number that fits a field: it is below the limit
pub record Below (limit : ℕ) : Type 0 where
  pub value : ℕ
  pub fits : value < limit

-- a number that was held against the limit
abbrev pub tested : {limit n : ℕ} → Dec (n < limit) → Option (Below limit)
tested {limit} {n} (yes h) = Some (record { value = n; fits = h })
tested (no h) = None

-- a number, where it fits
unfoldable pub below : (limit : ℕ) → Option ℕ → Option (Below limit)
below limit None = None
below limit (Some n) = tested (dec_lt n limit)

-- the number alone
abbrev pub plain : {limit : ℕ} → Option (Below limit) → Option ℕ
plain None = None
plain (Some n) = Some n.value
