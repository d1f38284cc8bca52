-- What a put owes that ends early, by the fault of the insertion below it.
use Rattle.std.proofs.Common.{◌≡◌, ℕ, ◌<◌, List, [], ◌∷◌, get_or, None, Err, Option, refl, arith}
use Rattle.keys.specs.Model.{KeyModel, KeyLaws}
use Rattle.trees.specs.Tree.{Tree, entries_if_any}
use Rattle.trees.specs.Find.{lookup}
use Rattle.pool.specs.declared.node.Node.{Node}
use Rattle.pool.specs.declared.shelf.Shelf.{Shelf}
use Rattle.pool.specs.declared.book.Book.{Book}
use Rattle.pool.specs.GoodOrder.{empty_row}
use Rattle.pool.specs.Machine.{put_fits, after_put}
use Rattle.pool.specs.Walks.{Rooted, Beside, new_key_takes}
use Rattle.pool.specs.Promises.{Whole, Grown}
use Rattle.pool.proofs.After.{beside_at}
use Rattle.pool.proofs.Fitting.{put_refused}
use Rattle.edits.specs.Faults.{as_refusal}
use Rattle.edits.specs.declared.fault.InsertFault.{InsertFault}
use Rattle.edits.specs.declared.fault.InsertFault.TheVariants.{OutOfOrder, TooFewNodes}
use Rattle.maps.proofs.Rooting.{rooted_row}

module _ {K V : Type 0} (κ : KeyModel K) (law : KeyLaws κ) (join : V → V → V) (ns ns' : List (Node K V)) (book : Book) (s : ℕ) (l8 : s < 8) (whole : Whole ns book)
    (row : Shelf) (is : row ≡ get_or book.shelves s empty_row) (key : K) (v : V) where
  pub put_ends : (f : InsertFault)
      → ((map : Option (Tree K V)) (chain : List ℕ) → Rooted κ ns row.root map → Beside ns book.account map chain
      → (f ≡ TooFewNodes) × (lookup κ (entries_if_any map) key ≡ None) × (book.account.free < new_key_takes map) × (ns' ≡ ns))
      → Grown {A = Unit {0}} κ join ns ns' book book (s ∷ []) (λ m. put_fits κ m s key) (λ m. tt) (λ m. after_put κ m s key v) (Err (as_refusal f))
  put_ends OutOfOrder told = (
    (l8, tt),
    (λ m h. let e = (told (get_or h.maps s None) h.chain (rooted_row κ law join ns book m h s l8 row is) (beside_at κ law join ns book m h s l8)).0 in
        let z : ◌≡◌ {A = ℕ} 0 1 = cc in omega arith),
    λ other. absurd (other whole),
  )
  put_ends TooFewNodes told = (
    (l8, tt),
    whole,
    λ m h.
        let e = told (get_or h.maps s None) h.chain (rooted_row κ law join ns book m h s l8 row is) (beside_at κ law join ns book m h s l8) in
        (put_refused κ law join ns book m h s l8 key e.1 e.2, (e.3, refl)),
  )
