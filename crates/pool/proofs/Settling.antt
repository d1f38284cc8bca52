-- Once the book is settled: rows of other shelves are as they were, and the pool holds the machine with one list rewritten.
use Rattle.std.proofs.Common.{◌≡◌, ℕ, ◌+◌, ◌<◌, List, [], ◌∷◌, length, get_or, set, None, Option, ap, ◌∙◌, get_or-set_other}
use Rattle.keys.specs.Model.{KeyModel, KeyLaws}
use Rattle.trees.specs.Tree.{times, uses_if_any}
use Rattle.pool.specs.declared.node.Node.{Node}
use Rattle.pool.specs.declared.account.Account.{Account}
use Rattle.pool.specs.declared.shelf.Shelf.{Shelf}
use Rattle.pool.specs.declared.book.Book.{Book}
use Rattle.pool.specs.GoodOrder.{empty_row}
use Rattle.pool.specs.Machine.{Machine, rewritten, record_at}
use Rattle.pool.specs.Holds.{Holds}
use Rattle.pool.specs.Walks.{Left}
use Rattle.pool.specs.Books.{OtherRowsSame, Settled}
use Rattle.pool.proofs.After.{keys_counted, holds_after}

pub others_same : (book book' : Book) (s : ℕ) (row : Shelf) → book'.shelves ≡ set book.shelves s row → OtherRowsSame book book' (s ∷ [])
others_same book book' s row e t out = ap (λ rows. get_or rows t empty_row) e ∙ get_or-set_other book.shelves s t row empty_row out.0

module _ {K V : Type 0} (κ : KeyModel K) (law : KeyLaws κ) (join : V → V → V) (ns : List (Node K V)) (book : Book) (m : Machine K V) (h : Holds κ join ns book m) (s : ℕ) (l8 : s < 8)
    (ns' : List (Node K V)) (book' : Book) (finds : K → Option V) (after : Account) (root : Option ℕ)
    (left : Left κ ns ns' finds (λ j. uses_if_any j (get_or h.maps s None) + times j h.chain) book.account after root) (len : length ns' ≡ length ns)
    (settled : Settled book book' s root after) where
  pub holds_settled : (us : List (K × V)) → ((k : K) → finds k ≡ record_at κ join us k) → Holds κ join ns' book' (rewritten m s us)
  holds_settled us same =
      holds_after κ law join ns book m h s l8 ns' book' finds after root left len settled.account
      (settled.rows ∙ ap (λ n. set book.shelves s (record { root = root; keys = n })) (keys_counted κ law join ns book m h s l8 ns' book' finds after root left len))
      us same
