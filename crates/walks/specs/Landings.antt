-- Where a walk down a tree ends, of which a bit at each place names the side.
use Rattle.std.specs.Prelude.{◌≡◌, ℕ, Bool, cond, Some, None, Option, ◌≢◌}
use Rattle.keys.specs.Model.{KeyModel}
use Rattle.trees.specs.Tree.{Tree, leaf, branch, root, entries}
use Rattle.trees.specs.Find.{lookup}
use Rattle.walks.specs.declared.descent.Parent.{Parent}
use Rattle.walks.specs.declared.descent.Landing.{Landing}

module _ {K V : Type 0} (goes : ℕ → Bool) where
  -- the leaf of a tree to which the bits lead, and the branch right above it; above the tree itself is `above`
  abbrev pub landing : Option Parent → Tree K V → Landing K V
  landing above (leaf i k v) = record { at = i; own = k; held = v; parent = above }
  landing above (branch i p k l r) =
      cond (goes p) (landing (Some (record { at = i; sibling = root l })) r) (landing (Some (record { at = i; sibling = root r })) l)

module _ {K V : Type 0} (κ : KeyModel K) (x : K) where
  -- a walk down a tree by the bits of x ends at d, and so x finds what the leaf there holds, or, if the leaf has another
  -- key, nothing
  pub record Lands (d : Landing K V) (t : Tree K V) : Type 0 where
    pub leads : d ≡ landing (κ.bit x) None t
    pub hit : d.own ≡ x → lookup κ (entries t) x ≡ Some d.held
    pub miss : (d.own ≢ x) → lookup κ (entries t) x ≡ None

  -- the same of a map, which must have a tree
  abbrev pub LandsIfAny : Landing K V → Option (Tree K V) → Type 0
  LandsIfAny d None = ⊥
  LandsIfAny d (Some t) = Lands d t
