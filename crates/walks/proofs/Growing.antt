-- What the node at an index says of any tree in order there.
use Rattle.std.proofs.Common.{◌≡◌, ℕ, ◌+◌, ◌<◌, ◌≤◌, List, length, Some, Option, sym, ap, subst, arith}
use Rattle.keys.specs.Model.{KeyModel}
use Rattle.trees.specs.Tree.{Tree, leaf, branch}
use Rattle.trees.specs.Order.{Ordered}
use Rattle.trees.proofs.Order.{ordered_lower}
use Rattle.pool.specs.Slice.{At}
use Rattle.pool.specs.Walks.{Rooted}
use Rattle.pool.specs.declared.node.Node.{Node}
use Rattle.pool.specs.declared.node.Node.TheVariants.{Free, Branch}
use Rattle.pool.proofs.Standing
use Rattle.walks.specs.declared.step.Step.{Step}
use Rattle.walks.specs.declared.step.Step.TheVariants as step
use Rattle.walks.specs.Leads.{Stepped, NoneGrows, Grows}

module _ {K V : Type 0} (κ : KeyModel K) (ns : List (Node K V)) (least at : ℕ) where
  pub none_past_end : length ns ≤ at → NoneGrows κ ns least at
  none_past_end past t h = Standing.none_past_end ns at t h.stands h.rooted past

  pub none_at_free : {n : ℕ} {x : Node K V} → At ns at x → x ≡ Free n → NoneGrows κ ns least at
  none_at_free {n} a is t h = Standing.none_at_free ns at n (subst (At ns at) is a) t h.stands h.rooted

  -- at a leaf the tree is that leaf
  pub grown_leaf : (P : Tree K V → Type 0) {k : K} {v : V} {s : Step K V} → Stepped ns least at s → s ≡ step.Leaf k v → P (leaf at k v)
      → (t : Tree K V) → Grows κ ns least at t → P t
  grown_leaf P {k} {v} a is holds t h = Standing.only_leaf ns at P k v (subst (Stepped ns least at) is a) holds t h.stands h.rooted

  -- at a branch it has trees in order on its sides
  pub grown_branch : (P : Tree K V → Type 0) {p : ℕ} {k : K} {left right : ℕ} {s : Step K V} → Stepped ns least at s → s ≡ step.Branch p k left right
      → ((l r : Tree K V) → Grows κ ns (p + 1) left l → Grows κ ns (p + 1) right r → Ordered κ least (branch at p k l r) → P (branch at p k l r))
      → (t : Tree K V) → Grows κ ns least at t → P t
  grown_branch P {p} {k} {left} {right} a is holds t h =
      Standing.only_branch ns at (λ (t : Tree K V). Ordered κ least t → P t) p k left right (subst (Stepped ns least at) is a).0
      (λ l r sl sr el er o.
      holds l r (record { stands = sl; rooted = el; ordered = o.4 }) (record { stands = sr; rooted = er; ordered = o.5 }) o)
      t h.stands h.rooted h.ordered

  pub none_out_of_place : {p : ℕ} {k : K} {left right : ℕ} {x : Node K V} → At ns at x → x ≡ Branch p k left right
      → (least ≤ p → p < κ.PLACES → ⊥) → NoneGrows κ ns least at
  none_out_of_place {p} {k} {left} {right} a is out t h =
      Standing.only_branch ns at (λ (t : Tree K V). Ordered κ least t → ⊥) p k left right (subst (At ns at) is a)
      (λ l r sl sr el er o. out o.0 o.1) t h.stands h.rooted h.ordered

module _ {K V : Type 0} (κ : KeyModel K) (ns : List (Node K V)) where
  -- a map with a root is a tree in order there
  pub rooted_grows : (P : Option (Tree K V) → Type 0) {top : ℕ} {root : Option ℕ} → root ≡ Some top
      → ((t : Tree K V) → Grows κ ns 0 top t → P (Some t)) → (map : Option (Tree K V)) → Rooted κ ns root map → P map
  rooted_grows P is holds =
      Standing.rooted_tree κ ns P is (λ t h. let e = h.rooted in holds t (record { stands = h.stands; rooted = cc; ordered = h.ordered }))

  -- a tree in order at an index is a map with that root
  pub grows_rooted : (least at : ℕ) (t : Tree K V) → Grows κ ns least at t → Rooted κ ns (Some at) (Some t)
  grows_rooted least at t h = record {
    rooted = ap Some (sym h.rooted);
    stands = h.stands;
    ordered = ordered_lower κ least 0 t (omega arith) h.ordered;
  }
