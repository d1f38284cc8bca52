-- The number of a tree's nodes, and of its entries.
use Rattle.std.proofs.Common.{◌≡◌, ◌+◌, ◌-◌, ◌*◌, ◌≤◌, length, Some, None, Option, arith, length-append}
use Rattle.trees.specs.Tree.{Tree, leaf, branch, entries, size, entries_if_any, size_if_any}

module _ {K V : Type 0} where
  -- a tree of n keys has n leaves and n - 1 branches
  pub size_entries : (t : Tree K V) → size t + 1 ≡ 2 * length (entries t)
  size_entries (leaf i k v) = omega arith
  size_entries (branch i p k l r) = omega (arith, size_entries l, size_entries r, length-append (entries l) (entries r))

  pub size_pos : (t : Tree K V) → 1 ≤ size t
  size_pos (leaf i k v) = omega arith
  size_pos (branch i p k l r) = omega arith

  -- no tree is empty
  pub entries_pos : (t : Tree K V) → 1 ≤ length (entries t)
  entries_pos t = omega (arith, size_entries t, size_pos t)

  -- the same of a map
  pub size_entries_if_any : (o : Option (Tree K V)) → size_if_any o ≡ 2 * length (entries_if_any o) - 1
  size_entries_if_any None = omega arith
  size_entries_if_any (Some t) = omega (arith, size_entries t)

  -- maps of as many entries have as many nodes
  pub sizes_from_entries : (o q : Option (Tree K V)) → length (entries_if_any o) ≡ length (entries_if_any q) → size_if_any o ≡ size_if_any q
  sizes_from_entries o q e = omega (arith, size_entries_if_any o, size_entries_if_any q)
