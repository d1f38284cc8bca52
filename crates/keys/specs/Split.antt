-- The split of two keys, the one word for prefixes: keys agree in their first p places where p ≤ split a b.
use Rattle.std.specs.Prelude.{◌≡◌, ℕ, zero, suc, cond, Some, None, Option}
use Rattle.std.specs.Bool.{beq}
use Rattle.keys.specs.Model.{KeyModel, FirstDifference}

-- the first of the n places from p on in which a and b differ, or p + n where they differ in none
unfoldable pub split_from : {K : Type 0} → KeyModel K → ℕ → ℕ → K → K → ℕ
split_from κ zero p a b = p
split_from κ (suc n) p a b = cond (beq (κ.bit a p) (κ.bit b p)) (split_from κ n (suc p) a b) p

-- the first place in which a and b differ, or the number of places where they are one key
unfoldable pub split : {K : Type 0} → KeyModel K → K → K → ℕ
split κ a b = split_from κ κ.PLACES 0 a b

-- what an answer says of the first difference of a and b: they are one key, or this is the first place in which they differ;
-- either way the answer names their split
abbrev pub DifferFirst : {K : Type 0} → KeyModel K → K → K → Option ℕ → Type 0
DifferFirst κ a b None = (a ≡ b) × (split κ a b ≡ κ.PLACES)
DifferFirst κ a b (Some p) = FirstDifference κ a b p × (split κ a b ≡ p)
