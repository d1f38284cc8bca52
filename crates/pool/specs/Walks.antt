-- What the walks over one tree find and leave: the words that stand between trees in a slice and the calls on shelves.
use Rattle.std.specs.Prelude.{◌≡◌, ℕ, ◌+◌, ◌≤◌, List, length, Some, None, Option}
use Rattle.keys.specs.Model.{KeyModel}
use Rattle.trees.specs.Tree.{Tree, entries_if_any, size_if_any, uses_if_any, root_if_any, times}
use Rattle.trees.specs.Order.{OrderedIfAny}
use Rattle.trees.specs.Find.{lookup}
use Rattle.pool.specs.declared.node.Node.{Node}
use Rattle.pool.specs.declared.account.Account.{Account}
use Rattle.pool.specs.Slice.{At, StandsIfAny, Chain}

-- the nodes that a new key needs: one in an empty map, else two
abbrev pub new_key_takes : {K V : Type 0} → Option (Tree K V) → ℕ
new_key_takes None = 1
new_key_takes (Some t) = 2

-- the map of one shelf stands in order at `root`
pub record Rooted {K V : Type 0} (κ : KeyModel K) (ns : List (Node K V)) (root : Option ℕ) (map : Option (Tree K V)) : Type 0 where
  pub rooted : root ≡ root_if_any map
  pub stands : StandsIfAny ns map
  pub ordered : OrderedIfAny κ map

-- beside it the free chain, as the account says, with no node in both and none used twice
pub record Beside {K V : Type 0} (ns : List (Node K V)) (account : Account) (map : Option (Tree K V)) (chain : List ℕ) : Type 0 where
  pub linked : Chain ns account.head chain
  pub counted : length chain ≡ account.free
  pub once : (j : ℕ) → uses_if_any j map + times j chain ≤ 1
  pub few : size_if_any map + length chain ≤ account.capacity

-- the maps of two shelves beside the free chain, with no node in two of them and none used twice
pub record BesideBoth {K V : Type 0} (ns : List (Node K V)) (account : Account) (map other : Option (Tree K V)) (chain : List ℕ) : Type 0 where
  pub linked : Chain ns account.head chain
  pub counted : length chain ≡ account.free
  pub once : (j : ℕ) → uses_if_any j map + uses_if_any j other + times j chain ≤ 1
  pub few : size_if_any map + size_if_any other + length chain ≤ account.capacity

-- what a call leaves of one shelf's map and the free chain: a map that finds `finds`, of the nodes that `mine` counts and
-- no other, with every other node of the slice as it was
pub record Left {K V : Type 0} (κ : KeyModel K) (ns ns' : List (Node K V)) (finds : K → Option V) (mine : ℕ → ℕ)
    (before after : Account) (root : Option ℕ) : Type 0 where
  pub map : Option (Tree K V)
  pub chain : List ℕ
  pub standing : Rooted κ ns' root map
  pub found : (k : K) → lookup κ (entries_if_any map) k ≡ finds k
  pub linked : Chain ns' after.head chain
  pub counted : length chain ≡ after.free
  pub capacity : after.capacity ≡ before.capacity
  pub used : (j : ℕ) → uses_if_any j map + times j chain ≡ mine j
  pub kept : (j : ℕ) → mine j ≡ 0 → (x : Node K V) → At ns j x → At ns' j x
