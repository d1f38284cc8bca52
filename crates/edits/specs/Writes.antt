-- What the steps of a change write.
use Rattle.std.specs.Prelude.{◌≡◌, ℕ, ◌+◌, ◌<◌, ◌≤◌, cond, ◌⊎◌, List, length, Option, slice_set}
use Rattle.keys.specs.Model.{KeyModel}
use Rattle.trees.specs.Tree.{Tree}
use Rattle.pool.specs.declared.node.Node.{Node}
use Rattle.pool.specs.declared.node.Node.TheVariants.{Free, Leaf, Branch}
use Rattle.pool.specs.declared.account.Account.{Account}
use Rattle.pool.specs.Nodes.{Took}
use Rattle.pool.specs.Walks.{Beside}
use Rattle.walks.specs.declared.descent.Parent.{Parent}
use Rattle.walks.specs.declared.sides.Sides.{Sides}
use Rattle.edits.specs.declared.seat.Gap.{Gap}

-- two nodes taken from the free chain, one after the other
pub record TookTwo {K V : Type 0} (ns : List (Node K V)) (before : Account) (first second : ℕ) (after : Account) : Type 0 where
  pub between : Account
  pub one : Took ns before first between
  pub two : Took ns between second after

-- the free chain beside a map has not two nodes
abbrev pub NotTwoFree : {K V : Type 0} → List (Node K V) → Account → Type 0
NotTwoFree {K} {V} ns account = (map : Option (Tree K V)) (chain : List ℕ) → Beside ns account map chain → 2 ≤ account.free → ⊥

-- a fork in a gap for a leaf of x and v: what stood at the gap's node moves to the far node, the leaf takes the near one, and
-- a branch takes their place, the leaf on the side that the bit of x names
abbrev pub Forked : {K V : Type 0} → KeyModel K → K → V → List (Node K V) → List (Node K V) → Gap → Node K V → Sides → Type 0
Forked κ x v ns ns' gap old sides = gap.at < length ns → sides.far < length ns → sides.near < length ns
    → ns' ≡ slice_set (slice_set (slice_set ns sides.far old) sides.near (Leaf x v)) gap.at
    (Branch gap.place x (cond (κ.bit x gap.place) sides.far sides.near) (cond (κ.bit x gap.place) sides.near sides.far))

-- a branch closed up over the leaf at node i: what stood at the leaf's sibling takes the branch's node, and the nodes of
-- the leaf and of the sibling are the first free ones
pub record ClosedUp {K V : Type 0} (ns ns' : List (Node K V)) (before : Account) (parent : Parent) (content : Node K V) (i : ℕ) (after : Account) : Type 0 where
  pub written : parent.at < length ns → ns' ≡ slice_set (slice_set (slice_set ns parent.at content) parent.sibling (Free before.head)) i (Free parent.sibling)
  pub first : after.head ≡ i
  pub more : after.free ≡ before.free + 2
  pub capacity : after.capacity ≡ before.capacity

-- the two nodes cannot both be given back: one is past the end, or the account counts too many as free already
abbrev pub NoRoomForTwo : {K V : Type 0} → List (Node K V) → Account → Parent → ℕ → Type 0
NoRoomForTwo ns account parent i = (length ns ≤ parent.sibling) ⊎ ((length ns ≤ i) ⊎ (account.capacity ≤ account.free + 1))
