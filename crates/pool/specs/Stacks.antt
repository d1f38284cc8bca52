-- What a stack holds.
use Rattle.std.specs.Prelude.{ℕ, List, reverse, take}

-- the items of a stack, the newest first
abbrev pub stacked : {T : Type 0} → List T → ℕ → List T
stacked items height = reverse (take height items)
