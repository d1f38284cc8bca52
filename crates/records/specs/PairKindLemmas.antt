-- A pair as a function of its parts, for the proof that pairs written alike are the same.
use Rattle.records.specs.declared.values.Pair.{Pair}

unfoldable pub pair : {X Y : Type 0} → X → Y → Pair X Y
pair x y = record { first = x; second = y }
