-- What an insertion into one map promises.
use Rattle.std.specs.Prelude.{◌≡◌, ℕ, ◌<◌, cond, List, Some, None, Option, Result, MatchResult}
use Rattle.keys.specs.Model.{KeyModel}
use Rattle.trees.specs.Tree.{Tree, entries_if_any}
use Rattle.trees.specs.Find.{same_key, lookup}
use Rattle.trees.specs.Insert.{added}
use Rattle.pool.specs.declared.node.Node.{Node}
use Rattle.pool.specs.declared.account.Account.{Account}
use Rattle.pool.specs.Walks.{Rooted, Beside, Left, new_key_takes}
use Rattle.edits.specs.declared.fault.InsertFault.{InsertFault}
use Rattle.edits.specs.declared.fault.InsertFault.TheVariants.{TooFewNodes}
use Rattle.edits.specs.declared.seat.Seat.{Seat}
use Rattle.edits.specs.Owned.{owned}
use Rattle.edits.specs.Seats.{SeatedIfAny}

module _ {K V : Type 0} (κ : KeyModel K) (join : V → V → V) (x : K) (v : V) where
  -- what each key finds in a map once v is told at x
  abbrev pub with_update : Option (Tree K V) → K → Option V
  with_update map y = cond (same_key κ x y) (Some (added join v (lookup κ (entries_if_any map) x))) (lookup κ (entries_if_any map) y)

  -- what an insertion of v at x answers and leaves: the map with the update; or, where x is new and the free nodes are too
  -- few for it, a refusal and all as it was
  abbrev pub Inserted : List (Node K V) → List (Node K V) → Account → Option (Tree K V) → List ℕ → Result (ℕ × Account) InsertFault → Type 0
  Inserted ns ns' account map chain r = MatchResult r
      (λ a. Left κ ns ns' (with_update map) (owned map chain) account a.1 (Some a.0))
      (λ e. (e ≡ TooFewNodes) × (lookup κ (entries_if_any map) x ≡ None) × (account.free < new_key_takes map) × (ns' ≡ ns))

  -- so it is whatever map begins at `root`, beside whatever free chain the account is of
  abbrev pub Inserts : List (Node K V) → List (Node K V) → Account → Option ℕ → Result (ℕ × Account) InsertFault → Type 0
  Inserts ns ns' account root r = (map : Option (Tree K V)) (chain : List ℕ) → Rooted κ ns root map → Beside ns account map chain
      → Inserted ns ns' account map chain r

  -- the same where the seat of x in the map is known
  abbrev pub InsertsAt : Seat K V → List (Node K V) → List (Node K V) → Account → Option ℕ → Result (ℕ × Account) InsertFault → Type 0
  InsertsAt seat ns ns' account root r = (map : Option (Tree K V)) (chain : List ℕ) → Rooted κ ns root map → Beside ns account map chain → SeatedIfAny κ ns x seat map
      → Inserted ns ns' account map chain r
