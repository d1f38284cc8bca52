-- Where walks down a tree lead: what an answer must be for every tree in order at an index.
use Rattle.std.specs.Prelude.{◌≡◌, ℕ, ◌<◌, ◌≤◌, List, Some, Ok, Option, Result}
use Rattle.keys.specs.Model.{KeyModel}
use Rattle.trees.specs.Tree.{Tree, root, entries, first_entry}
use Rattle.trees.specs.Order.{Ordered}
use Rattle.trees.specs.Find.{first_after}
use Rattle.pool.specs.Slice.{At, Stands}
use Rattle.pool.specs.declared.node.Node.{Node}
use Rattle.pool.specs.declared.node.Node.TheVariants as node
use Rattle.walks.specs.declared.step.Step.{Step}
use Rattle.walks.specs.declared.step.Step.TheVariants as step
use Rattle.pool.specs.declared.outoforder.OutOfOrder.{OutOfOrder}

module _ {K V : Type 0} (ns : List (Node K V)) where
  -- what a walk meets at the node `at`, with no place before `least`
  abbrev pub Stepped : ℕ → ℕ → Step K V → Type 0
  Stepped least at (step.Leaf k v) = At ns at (node.Leaf k v)
  Stepped least at (step.Branch p k zero one) = At ns at (node.Branch p k zero one) × (least ≤ p)

-- a step that is a leaf, or a branch at a place that the kind has
abbrev pub Within : {K V : Type 0} → KeyModel K → Step K V → Type 0
Within κ (step.Leaf k v) = Unit {0}
Within κ (step.Branch p k zero one) = p < κ.PLACES

module _ {K V : Type 0} (κ : KeyModel K) (ns : List (Node K V)) where
  -- t stands in order at the node `at`, with no place before `least`
  pub record Grows (least at : ℕ) (t : Tree K V) : Type 0 where
    pub stands : Stands ns t
    pub rooted : root t ≡ at
    pub ordered : Ordered κ least t

  -- no tree in order begins there
  abbrev pub NoneGrows : ℕ → ℕ → Type 0
  NoneGrows least at = (t : Tree K V) → Grows least at t → ⊥

  -- r answers the first entry of the tree at `top`
  abbrev pub FindsFirst : ℕ → Result (K × V) OutOfOrder → Type 0
  FindsFirst top r = (t : Tree K V) → Grows 0 top t → r ≡ Ok (first_entry t)

  -- r answers the first entry after the bound in the tree at `top`
  abbrev pub FindsAfter : K → ℕ → Result (Option (K × V)) OutOfOrder → Type 0
  FindsAfter bound top r = (t : Tree K V) → Grows 0 top t → r ≡ Ok (first_after κ (Some bound) (entries t))
