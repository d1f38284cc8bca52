-- Of two values, the one of the larger rank.
use Rattle.std.specs.Prelude.{ℕ, cond, nat_lt}

-- b where its rank is larger than a's, else a
abbrev pub larger : {T : Type 0} → (T → ℕ) → T → T → T
larger rank a b = cond (nat_lt (rank a) (rank b)) b a
