-- What the first nodes of a job's two trees tell of the trees.
use Rattle.std.proofs.Common.{◌≡◌, ℕ, ◌+◌, ◌<◌, ◌≤◌, Bool, List, sym, ap, ◌∙◌, subst, arith}
use Rattle.keys.specs.Model.{KeyModel}
use Rattle.trees.specs.Tree.{Tree, leaf, branch, root, key, uses, AllKeys}
use Rattle.trees.specs.Order.{Agree, Side, Ordered, place}
use Rattle.trees.proofs.AllKeys.{all_keys_both, some_key}
use Rattle.trees.proofs.Move.{uses_root}
use Rattle.trees.proofs.Order.{keys_agree, side_agrees}
use Rattle.pool.specs.declared.node.Node.{Node}
use Rattle.pool.specs.Slice.{At, Stands}
use Rattle.pool.proofs.Reading.{one_node}
use Rattle.unions.specs.Meets.{Shows, Vacant}

module _ {K V : Type 0} (κ : KeyModel K) (ns : List (Node K V)) (x : ℕ) (n : Node K V) (at : At ns x n) where
  -- a tree has the place and the key that its first node shows
  pub shown : (t : Tree K V) (p : ℕ) (k : K) → Stands ns t → root t ≡ x → Shows κ n p k → (place κ t ≡ p) × (key t ≡ k)
  shown (leaf i k' v) p k s e f =
      let g = subst (λ m. Shows κ m p k) (sym (one_node ns i x _ n e s at)) f in (sym g.0, sym g.1)
  shown (branch i p' k' l r) p k s e f =
      let g = subst (λ m. Shows κ m p k) (sym (one_node ns i x _ n e s.0 at)) f in (sym g.0, sym g.1)

  pub not_vacant : (t : Tree K V) → Stands ns t → root t ≡ x → Vacant n → ⊥
  not_vacant (leaf i k v) s e f = subst Vacant (sym (one_node ns i x _ n e s at)) f
  not_vacant (branch i p k l r) s e f = subst Vacant (sym (one_node ns i x _ n e s.0 at)) f

module _ {K V : Type 0} (κ : KeyModel K) where
  -- the node that a tree begins with is one of its own
  pub uses_rooted : (x j : ℕ) (t : Tree K V) → root t ≡ x → j ≡ x → 1 ≤ uses j t
  uses_rooted x j t e f = omega (arith, ap (λ n. uses n t) (e ∙ sym f), uses_root t)

  -- all keys on one side of a place share that place too
  pub shared_side : (p : ℕ) (b : Bool) (k : K) (t u : Tree K V) → AllKeys (Side κ p b k) t → AllKeys (Side κ p b k) u
      → (c : K) × AllKeys (λ j. Agree κ (p + 1) j c) t × AllKeys (λ j. Agree κ (p + 1) j c) u
  shared_side p b k t u ht hu =
      let c = some_key _ t ht in (c.0, side_agrees κ p b k c.0 t c.1 ht, side_agrees κ p b k c.0 u c.1 hu)

  -- trees part no earlier than their keys agree
  pub parts_later : (least m : ℕ) (t u : Tree K V) → Ordered κ least t → Ordered κ least u
      → (c : K) × AllKeys (λ j. Agree κ least j c) t × AllKeys (λ j. Agree κ least j c) u
      → m < place κ t → m < place κ u → (κ.bit (key u) m ≡ κ.bit (key t) m → ⊥) → m < least → ⊥
  parts_later least m t u ot ou shared mt mu differ lt =
      let (z, zz) = some_key _ t (all_keys_both _ _ t (keys_agree κ least t ot) shared.1) in
      let (w, ww) = some_key _ u (all_keys_both _ _ u (keys_agree κ least u ou) shared.2) in
      differ (sym (ww.0 m mu) ∙ ww.1 m lt ∙ sym (zz.1 m lt) ∙ zz.0 m mt)
