use Rattle.std.proofs.Common.{◌≡◌, ℕ, ◌-◌, Bool}
use Rattle.walks.specs.declared.step.Reach.TheVariants.{OwnPlaces}
use Rattle.walks.specs.Ways.{OwnWayTo}
use Rattle.walks.proofs.Descending.{Onward}
use Rattle.walks.proofs.descent.descend.Given as goal

abbrev pub invariant-loop-bit : goal.invariant-loop-bit
invariant-loop-bit g l = ((goes : ℕ → Bool) → ((p : ℕ) (b : Bool) → goal.F-post g l.bit p b → b ≡ goes p)
    → Onward g.K.KeyKind l.nodes goes l.top l.least l.at l.parent)
    × (l.reach ≡ OwnPlaces → OwnWayTo g.K.KeyKind l.nodes l.top l.at)

abbrev pub decreases-loop-bit : goal.decreases-loop-bit
decreases-loop-bit g l = 256 - l.least
