use Rattle.trees.proofs.Rising.{map_rises}
use Rattle.trees.proofs.entries_rise.Goals as goal

pub returns : goal.returns
returns g c = record { keys_rise = map_rises g.K.KeyKind }
