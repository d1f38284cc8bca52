use Rattle.keys.proofs.Order.{ordered}
use Rattle.keys.proofs.compare.first_difference_decides_order.Goals as goal

pub returns : goal.returns
returns g c = record { order_is_by_first_difference = ordered g.K.KeyKind }
