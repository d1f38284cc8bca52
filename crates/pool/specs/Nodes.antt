-- Taking a node from the free chain and giving one back.
use Rattle.std.specs.Prelude.{◌≡◌, ℕ, ◌+◌, ◌<◌, List, length, slice_set}
use Rattle.pool.specs.declared.node.Node.{Node}
use Rattle.pool.specs.declared.node.Node.TheVariants.{Free}
use Rattle.pool.specs.declared.account.Account.{Account}
use Rattle.pool.specs.Slice.{At}

-- the first free node is `at`, and the account is of those after it
pub record Took {K V : Type 0} (ns : List (Node K V)) (before : Account) (at : ℕ) (after : Account) : Type 0 where
  pub first : at ≡ before.head
  pub free : At ns at (Free after.head)
  pub fewer : after.free + 1 ≡ before.free
  pub capacity : after.capacity ≡ before.capacity

-- the node `at` is the first free one now, before those that were free
pub record Released {K V : Type 0} (ns ns' : List (Node K V)) (before : Account) (at : ℕ) (after : Account) : Type 0 where
  pub within : at < length ns
  pub written : ns' ≡ slice_set ns at (Free before.head)
  pub first : after.head ≡ at
  pub more : after.free ≡ before.free + 1
  pub capacity : after.capacity ≡ before.capacity
