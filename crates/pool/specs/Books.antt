-- Rows of the book, and what a refusal is called outside.
use Rattle.std.specs.Prelude.{◌≡◌, ℕ, ◌+◌, ◌-◌, ◌*◌, ◌/◌, ◌≤◌, min, List, [], ◌∷◌, get_or, Some, None, Option, ◌≢◌, slice_index_or, slice_set}
use Rattle.causes.specs.declared.cause.Cause.{Cause}
use Rattle.causes.specs.declared.cause.Cause.TheVariants.{TooManyNodes, NoSuchShelf, OutOfOrder, TooFewNodes}
use Rattle.pool.specs.declared.account.Account.{Account}
use Rattle.pool.specs.declared.book.Book.{Book}
use Rattle.pool.specs.declared.refusal.OpenRefusal.{OpenRefusal}
use Rattle.pool.specs.declared.refusal.OpenRefusal.TheVariants as open'
use Rattle.pool.specs.declared.refusal.CountRefusal.{CountRefusal}
use Rattle.pool.specs.declared.refusal.CountRefusal.TheVariants as count
use Rattle.pool.specs.declared.refusal.WalkRefusal.{WalkRefusal}
use Rattle.pool.specs.declared.refusal.WalkRefusal.TheVariants as walk
use Rattle.pool.specs.declared.refusal.GrowRefusal.{GrowRefusal}
use Rattle.pool.specs.declared.refusal.GrowRefusal.TheVariants as grow
use Rattle.pool.specs.GoodOrder.{empty_row}

-- s is none of the shelves named
abbrev pub Outside : ℕ → List ℕ → Type 0
Outside s [] = Unit {0}
Outside s (d ∷ ds) = (s ≢ d) × Outside s ds

-- the rows of all shelves but those named are as they were
abbrev pub OtherRowsSame : Book → Book → List ℕ → Type 0
OtherRowsSame before after named = (s : ℕ) → Outside s named → slice_index_or after.shelves s empty_row ≡ slice_index_or before.shelves s empty_row

-- the number of keys after a call, from that before it and the free nodes before and after: a map of k keys has 2 k - 1 nodes
abbrev pub keys_after : ℕ → ℕ → ℕ → ℕ
keys_after keys free free' = min (((2 * keys - 1) + free - free' + 1) / 2) 4096

-- the book after a call on one shelf: the account is as the walk left it, and the shelf's row states where its tree begins
-- now and how many keys it has
pub record Settled (before after : Book) (shelf : ℕ) (root : Option ℕ) (left : Account) : Type 0 where
  pub account : after.account ≡ left
  pub rows : after.shelves ≡ slice_set before.shelves shelf
      (record { root = root; keys = keys_after (get_or before.shelves shelf empty_row).keys before.account.free left.free })

-- the book after a call that moved one shelf's map over to another: the shelf `from` is empty, and the row of `into` states
-- the map that the nodes of both are now
pub record SettledOver (before after : Book) (into from : ℕ) (root : Option ℕ) (left : Account) : Type 0 where
  pub account : after.account ≡ left
  pub rows : after.shelves ≡ slice_set (slice_set before.shelves from empty_row) into (record {
    root = root;
    keys = keys_after (get_or before.shelves into empty_row).keys (before.account.free + (2 * (get_or before.shelves from empty_row).keys - 1)) left.free;
  })

-- the cause of each refusal
abbrev pub walk_cause : WalkRefusal → Cause
walk_cause walk.NoSuchShelf = NoSuchShelf
walk_cause walk.OutOfOrder = OutOfOrder

abbrev pub grow_cause : GrowRefusal → Cause
grow_cause grow.NoSuchShelf = NoSuchShelf
grow_cause grow.OutOfOrder = OutOfOrder
grow_cause grow.TooFewNodes = TooFewNodes

abbrev pub open_cause : OpenRefusal → Cause
open_cause open'.TooManyNodes = TooManyNodes

abbrev pub count_cause : CountRefusal → Cause
count_cause count.NoSuchShelf = NoSuchShelf

-- a walk's refusal as that of a call that may need nodes
abbrev pub as_growing : WalkRefusal → GrowRefusal
as_growing walk.NoSuchShelf = grow.NoSuchShelf
as_growing walk.OutOfOrder = grow.OutOfOrder

-- an account has these numbers, where they keep its bounds; else there is none
abbrev pub AccountOf : ℕ → ℕ → ℕ → Option Account → Type 0
AccountOf capacity head free None = (free ≤ capacity) × (capacity ≤ 4096) → ⊥
AccountOf capacity head free (Some a) = (a.capacity ≡ capacity) × (a.head ≡ head) × (a.free ≡ free)
