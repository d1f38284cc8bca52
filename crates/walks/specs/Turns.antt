-- How a bound stands to all that is below a branch at a place p, of which k carries the prefix.
use Rattle.std.specs.Prelude.{◌≡◌, ℕ, ◌<◌, ◌≤◌, true, false}
use Rattle.keys.specs.Model.{KeyModel}
use Rattle.keys.specs.Split.{split}
use Rattle.walks.specs.declared.turn.Turn.{Turn}
use Rattle.walks.specs.declared.turn.Turn.TheVariants.{After, Before, Along}

-- a bound that splits from the prefix above the place has all below on one side of it, by its bit there;
-- else it goes along with the prefix, to the side that its bit at the place names
abbrev pub Turns : {K : Type 0} → KeyModel K → K → K → ℕ → Turn → Type 0
Turns κ bound k p After = (split κ bound k < p) × (κ.bit bound (split κ bound k) ≡ false)
Turns κ bound k p Before = (split κ bound k < p) × (κ.bit bound (split κ bound k) ≡ true)
Turns κ bound k p (Along one) = (p < κ.PLACES → p ≤ split κ bound k) × (κ.bit bound p ≡ one)
