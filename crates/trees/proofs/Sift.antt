-- A sifted tree is in order, finds what the rule keeps, and uses no node that the tree did not use.
use Rattle.std.proofs.Common.{◌≡◌, ℕ, ◌+◌, ◌≤◌, Bool, true, false, cond, ◌++◌, Some, None, Option, sym, refl, ap, ◌∙◌, arith, eqb-true}
use Rattle.keys.specs.Model.{KeyModel, KeyLaws, number}
use Rattle.trees.specs.Tree.{Tree, leaf, branch, one, root, entries, entries_if_any, size, size_if_any, uses, uses_if_any, move, AllKeys}
use Rattle.trees.specs.Order.{Ordered}
use Rattle.trees.specs.Find.{same_key, lookup}
use Rattle.trees.specs.Remove.{move_if_any, glue, AllKeysIfAny, OrderedFromIfAny}
use Rattle.trees.specs.Sift.{leaf_if_any, sift, kept}
use Rattle.trees.proofs.Move.{uses_move, size_move, one_root}
use Rattle.trees.proofs.Lookup.{lookup_side}
use Rattle.trees.proofs.Glue.{root_glue, all_keys_glue, ordered_glue, lookup_glue}

module _ {K V : Type 0} (rule : K → V → Option V) where
  -- what is left stands at the tree's first node
  pub root_sift : (t u : Tree K V) → sift rule t ≡ Some u → root u ≡ root t
  root_sift (leaf i k v) u e = of_leaf (rule k v) e where
    of_leaf : (o : Option V) → leaf_if_any i k o ≡ Some u → root u ≡ i
    of_leaf None h = let z : ◌≡◌ {A = ℕ} 0 1 = cc in absurd (omega arith)
    of_leaf (Some w) h = let same : leaf i k w ≡ u = cc in ap root (sym same)
  root_sift (branch i p k l r) u e = root_glue i p k (sift rule l) (sift rule r) u e

  -- a tree moved and then sifted is the sifted tree moved
  pub sift_move : (a : ℕ) (t : Tree K V) → sift rule (move a t) ≡ move_if_any a (sift rule t)
  sift_move a (leaf i k v) = elim (rule k v) as (λ o. leaf_if_any a k o ≡ move_if_any a (leaf_if_any i k o)) [ None ↦ refl | Some w ↦ refl ]
  sift_move a (branch i p k l r) = glued (sift rule l) (sift rule r) where
    moved_twice : (t : Tree K V) → move a t ≡ move a (move i t)
    moved_twice (leaf j k' v) = refl
    moved_twice (branch j q k' l' r') = refl

    glued : (x y : Option (Tree K V)) → glue a p k x y ≡ move_if_any a (glue i p k x y)
    glued None None = refl
    glued None (Some y) = ap Some (moved_twice y)
    glued (Some x) None = ap Some (moved_twice x)
    glued (Some x) (Some y) = refl

  pub all_keys_sift : (P : K → Type 0) (t : Tree K V) → AllKeys P t → AllKeysIfAny P (sift rule t)
  all_keys_sift P (leaf i k v) h = elim (rule k v) as (λ o. AllKeysIfAny P (leaf_if_any i k o)) [ None ↦ tt | Some w ↦ h ]
  all_keys_sift P (branch i p k l r) h = all_keys_glue P i p k (sift rule l) (sift rule r) (all_keys_sift P l h.0) (all_keys_sift P r h.1)

  pub uses_sift : (j : ℕ) (t : Tree K V) → uses_if_any j (sift rule t) ≤ uses j t
  uses_sift j (leaf i k v) = elim (rule k v) as (λ o. uses_if_any j (leaf_if_any i k o) ≤ one i j) [ None ↦ omega arith | Some w ↦ omega arith ]
  uses_sift j (branch i p k l r) = glued (sift rule l) (sift rule r) (uses_sift j l) (uses_sift j r) where
    glued : (x y : Option (Tree K V)) → uses_if_any j x ≤ uses j l → uses_if_any j y ≤ uses j r
        → uses_if_any j (glue i p k x y) ≤ one i j + uses j l + uses j r
    glued None None h g = omega arith
    glued None (Some y) h g = omega (arith, uses_move j i y, one_root j y)
    glued (Some x) None h g = omega (arith, uses_move j i x, one_root j x)
    glued (Some x) (Some y) h g = omega arith

  pub size_sift : (t : Tree K V) → size_if_any (sift rule t) ≤ size t
  size_sift (leaf i k v) = elim (rule k v) as (λ o. size_if_any (leaf_if_any i k o) ≤ 1) [ None ↦ omega arith | Some w ↦ omega arith ]
  size_sift (branch i p k l r) = glued (sift rule l) (sift rule r) (size_sift l) (size_sift r) where
    glued : (x y : Option (Tree K V)) → size_if_any x ≤ size l → size_if_any y ≤ size r → size_if_any (glue i p k x y) ≤ 1 + size l + size r
    glued None None h g = omega arith
    glued None (Some y) h g = omega (arith, size_move i y)
    glued (Some x) None h g = omega (arith, size_move i x)
    glued (Some x) (Some y) h g = omega arith

module _ {K V : Type 0} (κ : KeyModel K) (rule : K → V → Option V) where
  pub ordered_sift : (least : ℕ) (t : Tree K V) → Ordered κ least t → OrderedFromIfAny κ least (sift rule t)
  ordered_sift least (leaf i k v) o = elim (rule k v) as (λ z. OrderedFromIfAny κ least (leaf_if_any i k z)) [ None ↦ tt | Some w ↦ tt ]
  ordered_sift least (branch i p k l r) o =
      ordered_glue κ least i p k (sift rule l) (sift rule r) o.0 o.1 (all_keys_sift rule _ l o.2) (all_keys_sift rule _ r o.3)
      (ordered_sift (p + 1) l o.4) (ordered_sift (p + 1) r o.5)

  -- each key finds what the rule keeps of what it found
  module _ (law : KeyLaws κ) (x : K) where
    lookup_sift_leaf : (i : ℕ) (k : K) (v : V) (z : Bool) → same_key κ k x ≡ z → (o : Option V) → o ≡ rule k v
        → lookup κ (entries_if_any (leaf_if_any i k o)) x ≡ kept rule x (cond z (Some v) None)
    lookup_sift_leaf i k v true e None h = h ∙ ap (λ y. rule y v) (law.same_number k x (eqb-true (number κ k) (number κ x) e))
    lookup_sift_leaf i k v true e (Some w) h =
        ap (λ z. cond z (Some w) None) e ∙ h ∙ ap (λ y. rule y v) (law.same_number k x (eqb-true (number κ k) (number κ x) e))
    lookup_sift_leaf i k v false e None h = refl
    lookup_sift_leaf i k v false e (Some w) h = ap (λ z. cond z (Some w) None) e

    pub lookup_sift : (least : ℕ) (t : Tree K V) → Ordered κ least t
        → lookup κ (entries_if_any (sift rule t)) x ≡ kept rule x (lookup κ (entries t) x)
    lookup_sift least (leaf i k v) o = lookup_sift_leaf i k v (same_key κ k x) refl (rule k v) refl
    lookup_sift least (branch i p k l r) o =
        let hl = all_keys_sift rule _ l o.2 in
        let hr = all_keys_sift rule _ r o.3 in
        (elim (κ.bit x p) as (λ b. κ.bit x p ≡ b → lookup κ (entries_if_any (glue i p k (sift rule l) (sift rule r))) x ≡ kept rule x
        (lookup κ (entries l ++ entries r) x)) [
          | true ↦ (λ e. lookup_glue κ x true i p k (sift rule l) (sift rule r) o.1 hl hr e ∙ lookup_sift (p + 1) r o.5
              ∙ ap (kept rule x) (sym (lookup_side κ x least i p k l r o true e)))
          | false ↦ (λ e. lookup_glue κ x false i p k (sift rule l) (sift rule r) o.1 hl hr e ∙ lookup_sift (p + 1) l o.4
              ∙ ap (kept rule x) (sym (lookup_side κ x least i p k l r o false e)))
        ]) refl
