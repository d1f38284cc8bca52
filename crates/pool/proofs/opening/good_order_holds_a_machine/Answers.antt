use Rattle.pool.proofs.Opened.{held_machine}
use Rattle.pool.proofs.opening.good_order_holds_a_machine.Goals as goal

pub returns : goal.returns
returns g c = record { some_machine = held_machine g.K.KeyKind }
