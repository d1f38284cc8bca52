-- What the questions that are answered from the book alone promise.
use Rattle.std.specs.Prelude.{◌≡◌, ℕ, ◌<◌, List, Ok, Err, Result}
use Rattle.keys.specs.Model.{KeyModel}
use Rattle.pool.specs.declared.node.Node.{Node}
use Rattle.pool.specs.declared.book.Book.{Book}
use Rattle.pool.specs.declared.refusal.CountRefusal.{CountRefusal}
use Rattle.pool.specs.declared.refusal.CountRefusal.TheVariants.{NoSuchShelf}
use Rattle.pool.specs.Machine.{Machine, list_of, count_of, free_in}
use Rattle.pool.specs.Holds.{Holds}

module _ {K V : Type 0} (κ : KeyModel K) (join : V → V → V) (book : Book) where
  -- the number of keys of a shelf, for every slice with which the book holds a machine
  abbrev pub Counted : ℕ → Result ℕ CountRefusal → Type 0
  Counted shelf (Ok n) = (shelf < 8) × ((ns : List (Node K V)) (m : Machine K V) → Holds κ join ns book m → n ≡ count_of κ (list_of m shelf))
  Counted shelf (Err NoSuchShelf) = 7 < shelf

  -- the number of free nodes, likewise
  abbrev pub FreeTold : ℕ → Type 0
  FreeTold n = (ns : List (Node K V)) (m : Machine K V) → Holds κ join ns book m → n ≡ free_in κ m
