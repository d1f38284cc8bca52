-- What a walk from a row may assume, for every machine held.
use Rattle.std.proofs.Common.{◌≡◌, ℕ, ◌<◌, List, get_or, None, Ok, Result, sym, subst}
use Rattle.keys.specs.Model.{KeyModel, KeyLaws}
use Rattle.pool.specs.declared.node.Node.{Node}
use Rattle.pool.specs.declared.shelf.Shelf.{Shelf}
use Rattle.pool.specs.declared.book.Book.{Book}
use Rattle.pool.specs.GoodOrder.{empty_row}
use Rattle.pool.specs.Machine.{Machine}
use Rattle.pool.specs.Holds.{Holds}
use Rattle.pool.specs.Walks.{Rooted}
use Rattle.pool.proofs.After.{rooted_at}

pub ok_same : {A E : Type 0} (a b : A) → ◌≡◌ {A = Result A E} (Ok a) (Ok b) → a ≡ b
ok_same a b e = cc

module _ {K V : Type 0} (κ : KeyModel K) (law : KeyLaws κ) (join : V → V → V) (ns : List (Node K V)) (book : Book) (m : Machine K V) (h : Holds κ join ns book m) (s : ℕ) (l8 : s < 8) (row : Shelf) (is : row ≡ get_or book.shelves s empty_row) where
  pub rooted_row : Rooted κ ns row.root (get_or h.maps s None)
  rooted_row = subst (λ (x : Shelf). Rooted κ ns x.root (get_or h.maps s None)) (sym is) (rooted_at κ law join ns book m h s l8)
