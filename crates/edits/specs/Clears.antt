-- The order in which a tree's nodes are given back.
use Rattle.std.specs.Prelude.{◌≡◌, ℕ, ◌≤◌, List, [], ◌∷◌, ◌++◌, length, None, Ok, Err, Option, Result}
use Rattle.std.specs.Option.{option_to_list}
use Rattle.pool.specs.declared.node.Node.{Node}
use Rattle.pool.specs.declared.node.Node.TheVariants.{Free, Leaf, Branch}
use Rattle.pool.specs.declared.outoforder.OutOfOrder.{OutOfOrder}

module _ {K V : Type 0} where
  -- the nodes that a node names: the two sides of a branch
  abbrev pub sides : Node K V → List ℕ
  sides (Free n) = []
  sides (Leaf k v) = []
  sides (Branch p k zero one) = zero ∷ (one ∷ [])

  -- why the sides of a node may not be put off: it is free, or 64 nodes wait already
  abbrev pub Stuck : Node K V → List ℕ → Type 0
  Stuck (Free n) waiting = Unit {0}
  Stuck (Leaf k v) waiting = ⊥
  Stuck (Branch p k zero one) waiting = 64 ≤ length waiting

  -- after a node come its sides, then those that waited before; the first of them is answered, the others wait
  abbrev pub Queued : Node K V → List ℕ → List ℕ → Result (Option ℕ) OutOfOrder → Type 0
  Queued x waiting waiting' (Ok next) = (sides x ++ waiting ≡ option_to_list next ++ waiting') × (next ≡ None → waiting' ≡ [])
  Queued x waiting waiting' (Err e) = Stuck x waiting
