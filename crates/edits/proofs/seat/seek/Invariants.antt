use Rattle.std.proofs.Common.{◌-◌}
use Rattle.edits.proofs.Seeking.{Onward}
use Rattle.edits.proofs.seat.seek.Given as goal

abbrev pub invariant-loop-node : goal.invariant-loop-node
invariant-loop-node g l = Onward g.K.KeyKind l.nodes l.key l.top l.least l.at

abbrev pub decreases-loop-node : goal.decreases-loop-node
decreases-loop-node g l = 256 - l.least
