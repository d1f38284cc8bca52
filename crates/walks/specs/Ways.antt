-- The way of a walk through the nodes, whatever stands in them: also where they make no tree in order.
use Rattle.std.specs.Prelude.{◌≡◌, ℕ, ◌<◌, ◌⊎◌, List, [], ◌∷◌, Some, Option}
use Rattle.keys.specs.Model.{KeyModel}
use Rattle.pool.specs.Slice.{At}
use Rattle.pool.specs.declared.node.Node.{Node}
use Rattle.pool.specs.declared.node.Node.TheVariants.{Leaf, Branch}
use Rattle.walks.specs.declared.descent.Landing.{Landing}

module _ {K V : Type 0} (κ : KeyModel K) (ns : List (Node K V)) where
  -- node i is a branch at a place that the kind has, and one of its sides begins at the node `side`
  pub record OwnBranch (i side : ℕ) : Type 0 where
    pub place : ℕ
    pub prefix : K
    pub zero : ℕ
    pub one : ℕ
    pub branch : At ns i (Branch place prefix zero one)
    pub own : place < κ.PLACES
    pub begins : (side ≡ zero) ⊎ (side ≡ one)

  -- the branches of a walk from the node `top` down to the node `at`, the last one first: each is at a place that the kind has
  abbrev pub OwnWay : ℕ → ℕ → List ℕ → Type 0
  OwnWay top at [] = at ≡ top
  OwnWay top at (i ∷ is) = OwnBranch i at × OwnWay top i is

  -- a walk from `top` comes to `at` by such branches alone
  pub record OwnWayTo (top at : ℕ) : Type 0 where
    pub passed : List ℕ
    pub way : OwnWay top at passed

  -- and ends there, at the leaf of k and v
  pub record OwnWayEnds (top at : ℕ) (k : K) (v : V) : Type 0 where
    pub comes : OwnWayTo top at
    pub leaf : At ns at (Leaf k v)

  -- the same of a landing
  abbrev pub LandsByOwnWay : ℕ → Landing K V → Type 0
  LandsByOwnWay top d = OwnWayEnds top d.at d.own d.held

  -- the same of a map by its root: v is what a walk into it finds at the leaf of k
  pub record FoundByOwnWay (root : Option ℕ) (k : K) (v : V) : Type 0 where
    pub top : ℕ
    pub is_root : root ≡ Some top
    pub at : ℕ
    pub ends : OwnWayEnds top at k v
