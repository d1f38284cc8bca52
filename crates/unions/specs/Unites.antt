-- What the union of two maps promises.
use Rattle.std.specs.Prelude.{◌≡◌, ℕ, ◌+◌, List, Some, None, Option, Result, MatchResult}
use Rattle.keys.specs.Model.{KeyModel}
use Rattle.trees.specs.Tree.{Tree, entries_if_any, uses_if_any, times}
use Rattle.trees.specs.Find.{lookup}
use Rattle.trees.specs.Union.{both}
use Rattle.pool.specs.declared.node.Node.{Node}
use Rattle.pool.specs.declared.account.Account.{Account}
use Rattle.pool.specs.Walks.{Rooted, BesideBoth, Left}
use Rattle.edits.specs.declared.fault.InsertFault.{InsertFault}
use Rattle.edits.specs.declared.fault.InsertFault.TheVariants.{TooFewNodes}

-- both maps hold something
abbrev pub BothHold : {K V : Type 0} → Option (Tree K V) → Option (Tree K V) → Type 0
BothHold None s = ⊥
BothHold (Some t) None = ⊥
BothHold (Some t) (Some u) = Unit {0}

module _ {K V : Type 0} (κ : KeyModel K) (join : V → V → V) where
  -- what each key finds in two maps, joined where both have it
  abbrev pub in_either : Option (Tree K V) → Option (Tree K V) → K → Option V
  in_either d s k = both join (lookup κ (entries_if_any d) k) (lookup κ (entries_if_any s) k)

  -- whatever maps begin at the two roots, beside whatever free chain: one map of both, of the nodes of both and of the chain;
  -- or, where both hold something and no node is free, a refusal and all as it was
  abbrev pub Unites : List (Node K V) → List (Node K V) → Account → Option ℕ → Option ℕ → Result (Option ℕ × Account) InsertFault → Type 0
  Unites ns ns' account root other r =
      (d s : Option (Tree K V)) (chain : List ℕ) → Rooted κ ns root d → Rooted κ ns other s → BesideBoth ns account d s chain
      → MatchResult r
      (λ a. Left κ ns ns' (in_either d s) (λ j. uses_if_any j d + uses_if_any j s + times j chain) account a.1 a.0)
      (λ e. (e ≡ TooFewNodes) × (account.free ≡ 0) × BothHold d s × (ns' ≡ ns))
