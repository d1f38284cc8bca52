-- What every call promises, by its answer, for all inputs: one case for each variant. The number beside a refusal is its
-- cause's. `named` lists the shelves that the call names.
use Rattle.std.specs.Prelude.{◌≡◌, ℕ, ◌<◌, Bool, true, false, List, [], ◌∷◌, length, Ok, Err, Result}
use Rattle.keys.specs.Model.{KeyModel}
use Rattle.pool.specs.declared.node.Node.{Node}
use Rattle.pool.specs.declared.book.Book.{Book}
use Rattle.pool.specs.declared.refusal.WalkRefusal.{WalkRefusal}
use Rattle.pool.specs.declared.refusal.WalkRefusal.TheVariants as walk
use Rattle.pool.specs.declared.refusal.GrowRefusal.{GrowRefusal}
use Rattle.pool.specs.declared.refusal.GrowRefusal.TheVariants as grow
use Rattle.pool.specs.Machine.{Machine}
use Rattle.pool.specs.Holds.{Holds}
use Rattle.pool.specs.Books.{OtherRowsSame}

-- every shelf named is one of the eight
abbrev pub Known : List ℕ → Type 0
Known [] = Unit {0}
Known (s ∷ ss) = (s < 8) × Known ss

module _ {K V : Type 0} where
  -- the slice has the length that it had at opening
  abbrev pub Whole : List (Node K V) → Book → Type 0
  Whole ns book = length ns ≡ book.account.capacity

  -- slice and book are as they were
  abbrev pub Unchanged : List (Node K V) → List (Node K V) → Book → Book → Type 0
  Unchanged ns ns' book book' = (ns' ≡ ns) × (book' ≡ book)

module _ {K V : Type 0} (κ : KeyModel K) (join : V → V → V) (ns : List (Node K V)) (book : Book) where
  -- the slice with its book holds no machine: it is out of good order
  abbrev pub Unheld : Type 0
  Unheld = (m : Machine K V) → Holds κ join ns book m → ⊥

module _ {K V A : Type 0} (κ : KeyModel K) (join : V → V → V) (ns : List (Node K V)) (book : Book) (named : List ℕ) where
  -- a question: its answer is that of every machine held
  abbrev pub Asked : (Machine K V → A) → Result A WalkRefusal → Type 0
  Asked answer (Ok a) = Known named × Whole ns book × ((m : Machine K V) → Holds κ join ns book m → a ≡ answer m)
  Asked answer (Err walk.NoSuchShelf) = Known named → ⊥
  Asked answer (Err walk.OutOfOrder) = Known named × Unheld κ join ns book

module _ {K V A : Type 0} (κ : KeyModel K) (join : V → V → V) (ns ns' : List (Node K V)) (book book' : Book) (named : List ℕ) where
  -- a call that never lacks nodes: for every machine held at entry the answer is the machine's, and the pool then holds
  -- the machine after the call; rows of other shelves stay; a refusal for want of a shelf or of the right length changes nothing
  abbrev pub Called : (Machine K V → A) → (Machine K V → Machine K V) → Result A WalkRefusal → Type 0
  Called answer after (Ok a) = Known named × Whole ns book × OtherRowsSame book book' named
      × ((m : Machine K V) → Holds κ join ns book m → (a ≡ answer m) × Holds κ join ns' book' (after m))
  Called answer after (Err walk.NoSuchShelf) = (Known named → ⊥) × Unchanged ns ns' book book'
  Called answer after (Err walk.OutOfOrder) = Known named × Unheld κ join ns book × ((Whole ns book → ⊥) → Unchanged ns ns' book book')

  -- a call that may lack nodes: refused for want of them exactly where the machine says, and then nothing changes
  abbrev pub Grown : (Machine K V → Bool) → (Machine K V → A) → (Machine K V → Machine K V) → Result A GrowRefusal → Type 0
  Grown fits answer after (Ok a) = Known named × Whole ns book × OtherRowsSame book book' named
      × ((m : Machine K V) → Holds κ join ns book m → (fits m ≡ true) × (a ≡ answer m) × Holds κ join ns' book' (after m))
  Grown fits answer after (Err grow.NoSuchShelf) = (Known named → ⊥) × Unchanged ns ns' book book'
  Grown fits answer after (Err grow.OutOfOrder) = Known named × Unheld κ join ns book × ((Whole ns book → ⊥) → Unchanged ns ns' book book')
  Grown fits answer after (Err grow.TooFewNodes) = Known named × Whole ns book
      × ((m : Machine K V) → Holds κ join ns book m → (fits m ≡ false) × Unchanged ns ns' book book')
