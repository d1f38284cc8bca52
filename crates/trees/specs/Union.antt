-- The union of two trees, in the place of the first.
use Rattle.std.specs.Prelude.{◌≡◌, ℕ, ◌⊎◌, Some, None, Option}
use Rattle.keys.specs.Model.{KeyModel}
use Rattle.trees.specs.Tree.{Tree, leaf, branch, root, entries, AllKeys}
use Rattle.trees.specs.Order.{Ordered}
use Rattle.trees.specs.Find.{lookup}

-- the record at a key of which each of two maps may have one
abbrev pub both : {V : Type 0} → (V → V → V) → Option V → Option V → Option V
both join None o = o
both join (Some u) None = Some u
both join (Some u) (Some v) = Some (join u v)

-- j is a key of the tree
abbrev pub In : {K V : Type 0} → K → Tree K V → Type 0
In j (leaf i k v) = j ≡ k
In j (branch i p k l r) = In j l ⊎ In j r

-- r is the union of t and u: it stands at t's first node, is in order, has no other keys, and finds what both found, joined
pub record Union {K V : Type 0} (κ : KeyModel K) (join : V → V → V) (least : ℕ) (t u r : Tree K V) : Type 0 where
  pub rooted : root r ≡ root t
  pub ordered : Ordered κ least r
  pub found : (x : K) → lookup κ (entries r) x ≡ both join (lookup κ (entries t) x) (lookup κ (entries u) x)
  pub keys : AllKeys (λ j. In j t ⊎ In j u) r
