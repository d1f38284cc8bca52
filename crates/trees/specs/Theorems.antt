-- Theorems on trees in order, in the subject's words.
use Rattle.std.specs.Prelude.{◌≡◌, Some, None, Option}
use Rattle.keys.specs.Model.{KeyModel}
use Rattle.trees.specs.Tree.{Tree, leaf, branch, entries_if_any}
use Rattle.trees.specs.Order.{OrderedIfAny}
use Rattle.trees.specs.Find.{lookup, Rising}

module _ {K V : Type 0} where
  -- two trees are the same but for the nodes that store them and the key that a branch carries
  abbrev pub Alike : Tree K V → Tree K V → Type 0
  Alike (leaf i k v) (leaf j k' v') = (k ≡ k') × (v ≡ v')
  Alike (leaf i k v) (branch j q k' l' r') = ⊥
  Alike (branch i p k l r) (leaf j k' v') = ⊥
  Alike (branch i p k l r) (branch j q k' l' r') = (p ≡ q) × Alike l l' × Alike r r'

  abbrev pub AlikeIfAny : Option (Tree K V) → Option (Tree K V) → Type 0
  AlikeIfAny None None = Unit {0}
  AlikeIfAny None (Some u) = ⊥
  AlikeIfAny (Some t) None = ⊥
  AlikeIfAny (Some t) (Some u) = Alike t u

module _ {K : Type 0} (V : Type 0) (κ : KeyModel K) where
  -- the tree of a map is one tree: two trees in order that find the same are the same but for nodes and branch keys
  abbrev pub OneTree : Type 0
  OneTree = (t u : Option (Tree K V)) → OrderedIfAny κ t → OrderedIfAny κ u
      → ((k : K) → lookup κ (entries_if_any t) k ≡ lookup κ (entries_if_any u) k) → AlikeIfAny t u

  -- the entries of a tree in order rise
  abbrev pub EntriesRise : Type 0
  EntriesRise = (t : Option (Tree K V)) → OrderedIfAny κ t → Rising κ (entries_if_any t)
