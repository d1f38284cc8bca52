-- Good order: a slice of nodes and its book are what calls alone can have made of a newly opened pool.
use Rattle.std.specs.Prelude.{◌≡◌, ℕ, ◌+◌, ◌<◌, cond, List, [], ◌∷◌, length, None, Option, nat_lt, slice_index_or}
use Rattle.keys.specs.Model.{KeyModel}
use Rattle.trees.specs.Tree.{Tree, entries_if_any, uses_if_any, root_if_any, times}
use Rattle.trees.specs.Order.{OrderedIfAny}
use Rattle.pool.specs.declared.node.Node.{Node}
use Rattle.pool.specs.declared.shelf.Shelf.{Shelf}
use Rattle.pool.specs.declared.book.Book.{Book}
use Rattle.pool.specs.Slice.{StandsIfAny, Chain}

-- a row states a map: where its tree begins and its true number of keys; the tree stands in the slice and is in order
pub record States {K V : Type 0} (κ : KeyModel K) (ns : List (Node K V)) (row : Shelf) (map : Option (Tree K V)) : Type 0 where
  pub rooted : row.root ≡ root_if_any map
  pub counted : row.keys ≡ length (entries_if_any map)
  pub stands : StandsIfAny ns map
  pub ordered : OrderedIfAny κ map

-- how often the maps use node j
abbrev pub total : {K V : Type 0} → ℕ → List (Option (Tree K V)) → ℕ
total j [] = 0
total j (o ∷ os) = uses_if_any j o + total j os

-- the row of a shelf that no one has
abbrev pub empty_row : Shelf
empty_row = record { root = None; keys = 0 }

-- good order, with the eight maps and the free chain that it is about
pub record Arranged {K V : Type 0} (κ : KeyModel K) (ns : List (Node K V)) (book : Book) (maps : List (Option (Tree K V))) (chain : List ℕ) : Type 0 where
  -- the slice has the length that it had at opening
  pub whole : length ns ≡ book.account.capacity
  -- there are eight maps, and each row states its own
  pub eight : length maps ≡ 8
  pub each : (s : ℕ) → s < 8 → States κ ns (slice_index_or book.shelves s empty_row) (slice_index_or maps s None)
  -- the free chain begins where the account says, and is as long as it says
  pub linked : Chain ns book.account.head chain
  pub counted : length chain ≡ book.account.free
  -- the eight trees and the free chain use every node of the slice exactly once, and no other
  pub once : (j : ℕ) → total j maps + times j chain ≡ cond (nat_lt j (length ns)) 1 0

-- a slice and its book are in good order where there are such maps and such a chain
abbrev pub GoodOrder : {K V : Type 0} → KeyModel K → List (Node K V) → Book → Type 0
GoodOrder {K} {V} κ ns book = (maps : List (Option (Tree K V))) × ((chain : List ℕ) × Arranged κ ns book maps chain)
