-- Where the walk before an insertion ends: the seat of a key.
use Rattle.std.specs.Prelude.{◌≡◌, ◌<◌, List, length, Some, None, Option}
use Rattle.keys.specs.Model.{KeyModel}
use Rattle.trees.specs.Tree.{Tree, entries}
use Rattle.trees.specs.Find.{lookup}
use Rattle.trees.specs.Insert.{Spot}
use Rattle.pool.specs.declared.node.Node.{Node}
use Rattle.pool.specs.declared.node.Node.TheVariants.{Leaf}
use Rattle.pool.specs.Slice.{At}
use Rattle.edits.specs.declared.seat.Seat.{Seat}
use Rattle.edits.specs.declared.seat.Seat.TheVariants.{Taken, Open}

module _ {K V : Type 0} (κ : KeyModel K) (ns : List (Node K V)) (x : K) where
  -- a seat is where x belongs in a tree: the leaf there has the key, or x splits from the node there at the place
  abbrev pub Seated : Seat K V → Tree K V → Type 0
  Seated (Taken i k v) t = At ns i (Leaf k v) × Spot κ x i κ.PLACES t
  Seated (Open gap) t = (gap.at < length ns) × (gap.place < κ.PLACES) × Spot κ x gap.at gap.place t

  -- the same of a map, which must have a tree; an open seat is that of a key that the map has not
  abbrev pub SeatedIfAny : Seat K V → Option (Tree K V) → Type 0
  SeatedIfAny seat None = ⊥
  SeatedIfAny (Taken i k v) (Some t) = Seated (Taken i k v) t
  SeatedIfAny (Open gap) (Some t) = (lookup κ (entries t) x ≡ None) × Seated (Open gap) t
