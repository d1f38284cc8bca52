-- What the node at an index says of any tree that stands there.
use Rattle.std.proofs.Common.{◌≡◌, ℕ, ◌<◌, ◌≤◌, List, length, Some, None, Option, sym, ◌∙◌, subst, arith}
use Rattle.keys.specs.Model.{KeyModel}
use Rattle.trees.specs.Tree.{Tree, leaf, branch, root}
use Rattle.pool.specs.declared.node.Node.{Node}
use Rattle.pool.specs.declared.node.Node.TheVariants.{Free, Leaf, Branch}
use Rattle.pool.specs.Slice.{At, Stands}
use Rattle.pool.specs.Walks.{Rooted}
use Rattle.pool.proofs.Reading.{one_node}

module _ {K V : Type 0} (ns : List (Node K V)) where
  -- a tree that stands begins within the slice
  pub root_within : (t : Tree K V) → Stands ns t → root t < length ns
  root_within (leaf i k v) s = s.0
  root_within (branch i p k l r) s = s.0.0

module _ {K V : Type 0} (ns : List (Node K V)) (at : ℕ) (t : Tree K V) (stands : Stands ns t) (rooted : root t ≡ at) where
  pub none_past_end : length ns ≤ at → ⊥
  none_past_end past = omega (arith, root_within ns t stands)

module _ {K V : Type 0} (ns : List (Node K V)) (at : ℕ) where
  pub none_at_free : (n : ℕ) → At ns at (Free n) → (t : Tree K V) → Stands ns t → root t ≡ at → ⊥
  none_at_free n a (leaf i k v) s e =
      let q = one_node ns i at _ _ e s a in
      let z : ◌≡◌ {A = ℕ} 0 1 = cc in omega arith
  none_at_free n a (branch i p k l r) s e =
      let q = one_node ns i at _ _ e s.0 a in
      let z : ◌≡◌ {A = ℕ} 0 1 = cc in omega arith

  -- at a leaf stands that leaf alone: what holds of it holds of any tree there
  pub only_leaf : (P : Tree K V → Type 0) (k : K) (v : V) → At ns at (Leaf k v) → P (leaf at k v)
      → (t : Tree K V) → Stands ns t → root t ≡ at → P t
  only_leaf P k v a h (leaf i k' v') s e =
      let q = one_node ns i at _ _ e s a in
      let w : leaf at k v ≡ leaf i k' v' = cc in
      subst P w h
  only_leaf P k v a h (branch i p k' l r) s e =
      let q = one_node ns i at _ _ e s.0 a in
      absurd (let z : ◌≡◌ {A = ℕ} 0 1 = cc in omega arith)

  -- at a branch stands a branch over trees at its two sides
  pub only_branch : (P : Tree K V → Type 0) (p : ℕ) (k : K) (left right : ℕ) → At ns at (Branch p k left right)
      → ((l r : Tree K V) → Stands ns l → Stands ns r → root l ≡ left → root r ≡ right → P (branch at p k l r))
      → (t : Tree K V) → Stands ns t → root t ≡ at → P t
  only_branch P p k left right a h (leaf i k' v) s e =
      let q = one_node ns i at _ _ e s a in
      absurd (let z : ◌≡◌ {A = ℕ} 0 1 = cc in omega arith)
  only_branch P p k left right a h (branch i p' k' l r) s e =
      let q = one_node ns i at _ _ e s.0 a in
      let w : branch at p k l r ≡ branch i p' k' l r = cc in
      let el : root l ≡ left = cc in
      let er : root r ≡ right = cc in
      subst P w (h l r s.1 s.2 el er)

-- a map with a root is a tree there
pub rooted_tree : {K V : Type 0} (κ : KeyModel K) (ns : List (Node K V)) (P : Option (Tree K V) → Type 0) {top : ℕ} {root : Option ℕ} → root ≡ Some top
    → ((t : Tree K V) → Rooted κ ns (Some top) (Some t) → P (Some t)) → (map : Option (Tree K V)) → Rooted κ ns root map → P map
rooted_tree κ ns P is holds None h = let e = h.rooted in absurd (let z : ◌≡◌ {A = ℕ} 0 1 = cc in omega arith)
rooted_tree κ ns P is holds (Some t) h = holds t (record { rooted = sym is ∙ h.rooted; stands = h.stands; ordered = h.ordered })
