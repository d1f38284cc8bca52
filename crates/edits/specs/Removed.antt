-- What a removal from one map promises.
use Rattle.std.specs.Prelude.{◌≡◌, ℕ, cond, List, None, Option, Result, MatchResult, IfSome}
use Rattle.keys.specs.Model.{KeyModel}
use Rattle.trees.specs.Tree.{Tree, entries_if_any}
use Rattle.trees.specs.Find.{same_key, lookup}
use Rattle.pool.specs.declared.node.Node.{Node}
use Rattle.pool.specs.declared.account.Account.{Account}
use Rattle.pool.specs.declared.outoforder.OutOfOrder.{OutOfOrder}
use Rattle.pool.specs.Walks.{Rooted, Beside, Left}
use Rattle.walks.specs.Ways.{FoundByOwnWay}
use Rattle.edits.specs.declared.removal.Removal.{Removal}
use Rattle.edits.specs.Owned.{owned}

module _ {K V : Type 0} (κ : KeyModel K) (x : K) where
  -- what each key finds in a map once x is taken from it
  abbrev pub without_key : Option (Tree K V) → K → Option V
  without_key map y = cond (same_key κ x y) None (lookup κ (entries_if_any map) y)

  -- what a removal of x answers and leaves: the record that was at x, and the map without x
  abbrev pub Removed : List (Node K V) → List (Node K V) → Account → Option (Tree K V) → List ℕ → Result (Removal V) OutOfOrder → Type 0
  Removed ns ns' account map chain r = MatchResult r
      (λ a. (a.held ≡ lookup κ (entries_if_any map) x) × Left κ ns ns' (without_key map) (owned map chain) account a.account a.root)
      (λ _. ⊥)

  -- so it is whatever map begins at `root`, beside whatever free chain the account is of
  abbrev pub Removes : List (Node K V) → List (Node K V) → Account → Option ℕ → Result (Removal V) OutOfOrder → Type 0
  Removes ns ns' account root r = (map : Option (Tree K V)) (chain : List ℕ) → Rooted κ ns root map → Beside ns account map chain
      → Removed ns ns' account map chain r

  -- what a removal takes it has found by a walk that passes branches at places of the kind alone, in any slice of nodes
  abbrev pub TakesByOwnWay : List (Node K V) → Option ℕ → Result (Removal V) OutOfOrder → Type 0
  TakesByOwnWay ns root r = MatchResult r (λ a. IfSome a.held (FoundByOwnWay κ ns root x)) (λ _. Unit {0})
