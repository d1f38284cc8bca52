use Rattle.keys.proofs.Laws.{key_laws}
use Rattle.trees.proofs.Unique.{maps_alike}
use Rattle.trees.proofs.one_tree_for_a_map.Goals as goal

pub returns : goal.returns
returns g c =
    let law = key_laws g.K.KeyKind g.met.K.KeyKind.places_bounded.1 g.met.K.KeyKind.same_bits in
    record { same_finds_same_tree = maps_alike g.K.KeyKind law }
