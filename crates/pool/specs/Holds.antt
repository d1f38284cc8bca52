-- The relation that ties a pool to the machine.
use Rattle.std.specs.Prelude.{◌≡◌, ℕ, ◌<◌, List, length, None, Option, slice_index_or}
use Rattle.keys.specs.Model.{KeyModel}
use Rattle.trees.specs.Tree.{Tree, entries_if_any}
use Rattle.trees.specs.Find.{lookup}
use Rattle.pool.specs.declared.node.Node.{Node}
use Rattle.pool.specs.declared.book.Book.{Book}
use Rattle.pool.specs.GoodOrder.{Arranged}
use Rattle.pool.specs.Machine.{Machine, list_of, record_at}

-- a slice with its book holds a machine: it is in good order, has the machine's capacity, and at every shelf and key the
-- tree finds the record at that key
pub record Holds {K V : Type 0} (κ : KeyModel K) (join : V → V → V) (ns : List (Node K V)) (book : Book) (m : Machine K V) : Type 0 where
  pub maps : List (Option (Tree K V))
  pub chain : List ℕ
  pub order : Arranged κ ns book maps chain
  pub capacity : m.capacity ≡ book.account.capacity
  pub eight : length m.heard ≡ 8
  pub found : (s : ℕ) → s < 8 → (k : K) → lookup κ (entries_if_any (slice_index_or maps s None)) k ≡ record_at κ join (list_of m s) k
