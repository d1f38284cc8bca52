-- The row that a call works on.
use Rattle.std.specs.Prelude.{◌≡◌, ℕ, ◌<◌, List, Ok, Err, Result, slice_index_or}
use Rattle.pool.specs.declared.node.Node.{Node}
use Rattle.pool.specs.declared.shelf.Shelf.{Shelf}
use Rattle.pool.specs.declared.book.Book.{Book}
use Rattle.pool.specs.declared.refusal.WalkRefusal.{WalkRefusal}
use Rattle.pool.specs.declared.refusal.WalkRefusal.TheVariants.{NoSuchShelf, OutOfOrder}
use Rattle.pool.specs.GoodOrder.{empty_row}
use Rattle.pool.specs.Promises.{Whole}

-- the row of a shelf, where there is such a shelf and the slice has the length that it had at opening
abbrev pub RowOf : {K V : Type 0} → List (Node K V) → Book → ℕ → Result Shelf WalkRefusal → Type 0
RowOf ns book shelf (Ok row) = (shelf < 8) × Whole ns book × (row ≡ slice_index_or book.shelves shelf empty_row)
RowOf ns book shelf (Err NoSuchShelf) = 7 < shelf
RowOf ns book shelf (Err OutOfOrder) = (shelf < 8) × (Whole ns book → ⊥)
