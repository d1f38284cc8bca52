-- How trees and the free chain stand in a slice of nodes.
use Rattle.std.specs.Prelude.{◌≡◌, ℕ, ◌<◌, List, [], ◌∷◌, length, Some, None, Option, slice_index_or}
use Rattle.trees.specs.Tree.{Tree, leaf, branch, root}
use Rattle.pool.specs.declared.node.Node.{Node}
use Rattle.pool.specs.declared.node.Node.TheVariants.{Free, Leaf, Branch}

module _ {K V : Type 0} (ns : List (Node K V)) where
  -- node i of the slice is x
  abbrev pub At : ℕ → Node K V → Type 0
  At i x = (i < length ns) × (slice_index_or ns i x ≡ x)

  -- the tree stands in the slice: each of its nodes is there, at its index
  abbrev pub Stands : Tree K V → Type 0
  Stands (leaf i k v) = At i (Leaf k v)
  Stands (branch i p k l r) = At i (Branch p k (root l) (root r)) × Stands l × Stands r

  -- the same of a map, which may have no tree
  abbrev pub StandsIfAny : Option (Tree K V) → Type 0
  StandsIfAny None = Unit {0}
  StandsIfAny (Some t) = Stands t

  -- the free chain: from the node h on, each free node names the next
  abbrev pub Chain : ℕ → List ℕ → Type 0
  Chain h [] = Unit {0}
  Chain h (i ∷ is) = (h ≡ i) × ((n : ℕ) × At i (Free n) × Chain n is)
