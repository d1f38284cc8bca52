use Rattle.std.proofs.Common.{◌≡◌}
use Rattle.keys.specs.Bits.{binary}
use Rattle.keys.proofs.kind.KeyKind.number.Given as goal

abbrev pub invariant-loop-p : goal.invariant-loop-p
invariant-loop-p g l = l.n ≡ binary l.p (g.Self.KeyKind.bit l.self)
