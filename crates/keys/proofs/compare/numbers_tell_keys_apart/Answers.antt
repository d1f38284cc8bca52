use Rattle.keys.specs.Binary.{binary_same}
use Rattle.keys.proofs.compare.numbers_tell_keys_apart.Goals as goal

pub returns : goal.returns
returns g c =
    let κ = g.K.KeyKind in
    record { same_number_same_key = λ a b e. g.met.K.KeyKind.same_bits a b (binary_same κ.PLACES (κ.bit a) (κ.bit b) e) }
