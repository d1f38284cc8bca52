use Rattle.std.proofs.Common.{◌-◌}
use Rattle.walks.proofs.Following.{Onward}
use Rattle.walks.proofs.order.entry_after.Given as goal

abbrev pub invariant-loop-key : goal.invariant-loop-key
invariant-loop-key g l = Onward g.K.KeyKind l.nodes l.bound l.top l.least l.at l.later

abbrev pub decreases-loop-key : goal.decreases-loop-key
decreases-loop-key g l = 256 - l.least
