-- A key taken from a tree: what is left is in order, finds all but the key, and uses all but the nodes given back.
use Rattle.std.proofs.Common.{◌≡◌, ℕ, ◌+◌, Bool, true, false, cond, eqb, List, [], ◌∷◌, ◌++◌, length, Some, None, Option, sym, refl, ap, ◌∙◌, true≢false, arith, length-append, eqb-true}
use mathlib.Core.Bool.{false≢true}
use Rattle.keys.specs.Model.{KeyModel, number}
use Rattle.trees.specs.Tree.{Tree, leaf, branch, one, times, root, entries, entries_if_any, size, size_if_any, uses, uses_if_any, move, AllKeys}
use Rattle.trees.specs.Order.{Ordered}
use Rattle.trees.specs.Find.{same_key, lookup}
use Rattle.trees.specs.Remove.{glue, AllKeysIfAny, with_sibling, OrderedFromIfAny, removed, freed}
use Rattle.trees.proofs.Move.{uses_move, size_move}
use Rattle.trees.proofs.Lookup.{same_key_true, same_key_false, numbers_differ, lookup_side}
use Rattle.trees.proofs.Glue.{root_glue, length_glue, all_keys_glue, ordered_glue, lookup_glue}

none_of_none : (is : List ℕ) → length is ≡ 0 → is ≡ []
none_of_none [] e = refl
none_of_none (i ∷ is) e = absurd (omega arith)

module _ {K V : Type 0} (κ : KeyModel K) (x : K) where
  -- at a branch the side that x's bit names is what changes
  module _ (i p : ℕ) (k : K) (l r : Tree K V) where
    pub removed_side : (b : Bool) → κ.bit x p ≡ b
        → removed κ x (branch i p k l r) ≡ cond b (glue i p k (Some l) (removed κ x r)) (glue i p k (removed κ x l) (Some r))
    removed_side b e = ap (λ z. cond z (glue i p k (Some l) (removed κ x r)) (glue i p k (removed κ x l) (Some r))) e

    freed_side : (b : Bool) → κ.bit x p ≡ b
        → freed κ x (branch i p k l r) ≡ cond b (with_sibling (removed κ x r) l (freed κ x r)) (with_sibling (removed κ x l) r (freed κ x l))
    freed_side b e = ap (λ z. cond z (with_sibling (removed κ x r) l (freed κ x r)) (with_sibling (removed κ x l) r (freed κ x l))) e

    -- a side of which something is left stays a side
    pub removed_keeps : (b : Bool) (c : Tree K V) → κ.bit x p ≡ b → removed κ x (cond b r l) ≡ Some c
        → removed κ x (branch i p k l r) ≡ Some (branch i p k (cond b l c) (cond b c r))
    removed_keeps true c e h = removed_side true e ∙ ap (glue i p k (Some l)) h
    removed_keeps false c e h = removed_side false e ∙ ap (λ o. glue i p k o (Some r)) h

    pub freed_keeps : (b : Bool) (c : Tree K V) → κ.bit x p ≡ b → removed κ x (cond b r l) ≡ Some c
        → freed κ x (branch i p k l r) ≡ freed κ x (cond b r l)
    freed_keeps true c e h = freed_side true e ∙ ap (λ o. with_sibling o l (freed κ x r)) h
    freed_keeps false c e h = freed_side false e ∙ ap (λ o. with_sibling o r (freed κ x l)) h

    -- a side that is gone leaves its sibling in the branch's place
    pub removed_loses : (b : Bool) → κ.bit x p ≡ b → removed κ x (cond b r l) ≡ None
        → removed κ x (branch i p k l r) ≡ Some (move i (cond b l r))
    removed_loses true e h = removed_side true e ∙ ap (glue i p k (Some l)) h
    removed_loses false e h = removed_side false e ∙ ap (λ o. glue i p k o (Some r)) h

    pub freed_loses : (b : Bool) → κ.bit x p ≡ b → removed κ x (cond b r l) ≡ None
        → freed κ x (branch i p k l r) ≡ root (cond b l r) ∷ freed κ x (cond b r l)
    freed_loses true e h = freed_side true e ∙ ap (λ o. with_sibling o l (freed κ x r)) h
    freed_loses false e h = freed_side false e ∙ ap (λ o. with_sibling o r (freed κ x l)) h

  -- a leaf goes where it has the key, and stays where it has another
  module _ (i : ℕ) (k : K) (v : V) where
    pub removed_leaf : number κ k ≡ number κ x → removed κ x (leaf i k v) ≡ None
    removed_leaf e = ap (λ z. cond z None (Some (leaf i k v))) (same_key_true κ k x e)

    pub freed_leaf : number κ k ≡ number κ x → freed κ x (leaf i k v) ≡ i ∷ []
    freed_leaf e = ap (λ z. cond z (i ∷ []) []) (same_key_true κ k x e)

    pub removed_other_leaf : (number κ k ≡ number κ x → ⊥) → removed κ x (leaf i k v) ≡ Some (leaf i k v)
    removed_other_leaf d = ap (λ z. cond z None (Some (leaf i k v))) (same_key_false κ k x d)

    pub freed_other_leaf : (number κ k ≡ number κ x → ⊥) → freed κ x (leaf i k v) ≡ []
    freed_other_leaf d = ap (λ z. cond z (i ∷ []) []) (same_key_false κ k x d)

  pub all_keys_removed : (P : K → Type 0) (t : Tree K V) → AllKeys P t → AllKeysIfAny P (removed κ x t)
  all_keys_removed P (leaf i k v) h = elim (same_key κ k x) as (λ z. AllKeysIfAny P (cond z None (Some (leaf i k v)))) [ true ↦ tt | false ↦ h ]
  all_keys_removed P (branch i p k l r) h =
      elim (κ.bit x p) as (λ z. AllKeysIfAny P (cond z (glue i p k (Some l) (removed κ x r)) (glue i p k (removed κ x l) (Some r)))) [
        | true ↦ all_keys_glue P i p k (Some l) (removed κ x r) h.0 (all_keys_removed P r h.1)
        | false ↦ all_keys_glue P i p k (removed κ x l) (Some r) (all_keys_removed P l h.0) h.1
      ]

  pub ordered_removed : (least : ℕ) (t : Tree K V) → Ordered κ least t → OrderedFromIfAny κ least (removed κ x t)
  ordered_removed least (leaf i k v) o =
      elim (same_key κ k x) as (λ z. OrderedFromIfAny κ least (cond z None (Some (leaf i k v)))) [ true ↦ tt | false ↦ tt ]
  ordered_removed least (branch i p k l r) o =
      elim (κ.bit x p) as (λ z. OrderedFromIfAny κ least (cond z (glue i p k (Some l) (removed κ x r)) (glue i p k (removed κ x l) (Some r)))) [
        | true ↦ ordered_glue κ least i p k (Some l) (removed κ x r) o.0 o.1 o.2 (all_keys_removed _ r o.3) o.4
            (ordered_removed (p + 1) r o.5)
        | false ↦ ordered_glue κ least i p k (removed κ x l) (Some r) o.0 o.1 (all_keys_removed _ l o.2) o.3
            (ordered_removed (p + 1) l o.4) o.5
      ]

  -- what is left stands at the tree's first node
  pub root_removed : (t u : Tree K V) → removed κ x t ≡ Some u → root u ≡ root t
  root_removed (leaf i k v) u e = of_leaf (same_key κ k x) e where
    of_leaf : (z : Bool) → cond z None (Some (leaf i k v)) ≡ Some u → root u ≡ i
    of_leaf true h = let z : ◌≡◌ {A = ℕ} 0 1 = cc in absurd (omega arith)
    of_leaf false h = let same : leaf i k v ≡ u = cc in ap root (sym same)
  root_removed (branch i p k l r) u e = of_branch (κ.bit x p) e where
    of_branch : (z : Bool) → cond z (glue i p k (Some l) (removed κ x r)) (glue i p k (removed κ x l) (Some r)) ≡ Some u → root u ≡ i
    of_branch true h = root_glue i p k (Some l) (removed κ x r) u h
    of_branch false h = root_glue i p k (removed κ x l) (Some r) u h

  -- at a branch the nodes of what is left and of what is given back are those of its sides and its own
  uses_right : (j i p : ℕ) (k : K) (l : Tree K V) (o : Option (Tree K V)) (is : List ℕ)
      → uses_if_any j (glue i p k (Some l) o) + times j (with_sibling o l is) ≡ one i j + uses j l + (uses_if_any j o + times j is)
  uses_right j i p k l None is = omega (arith, uses_move j i l)
  uses_right j i p k l (Some r) is = omega arith

  uses_left : (j i p : ℕ) (k : K) (r : Tree K V) (o : Option (Tree K V)) (is : List ℕ)
      → uses_if_any j (glue i p k o (Some r)) + times j (with_sibling o r is) ≡ one i j + uses j r + (uses_if_any j o + times j is)
  uses_left j i p k r None is = omega (arith, uses_move j i r)
  uses_left j i p k r (Some l) is = omega arith

  pub uses_removed : (j : ℕ) (t : Tree K V) → uses_if_any j (removed κ x t) + times j (freed κ x t) ≡ uses j t
  uses_removed j (leaf i k v) =
      elim (same_key κ k x) as (λ z. uses_if_any j (cond z None (Some (leaf i k v))) + times j (cond z (i ∷ []) []) ≡ one i j) [
        | true ↦ omega arith
        | false ↦ omega arith
      ]
  uses_removed j (branch i p k l r) =
      elim (κ.bit x p) as (λ z. uses_if_any j (cond z (glue i p k (Some l) (removed κ x r)) (glue i p k (removed κ x l) (Some r)))
      + times j (cond z (with_sibling (removed κ x r) l (freed κ x r)) (with_sibling (removed κ x l) r (freed κ x l)))
      ≡ one i j + uses j l + uses j r) [
        | true ↦ omega (arith, uses_right j i p k l (removed κ x r) (freed κ x r), uses_removed j r)
        | false ↦ omega (arith, uses_left j i p k r (removed κ x l) (freed κ x l), uses_removed j l)
      ]

  size_right : (i p : ℕ) (k : K) (l : Tree K V) (o : Option (Tree K V)) (is : List ℕ)
      → size_if_any (glue i p k (Some l) o) + length (with_sibling o l is) ≡ 1 + size l + (size_if_any o + length is)
  size_right i p k l None is = omega (arith, size_move i l)
  size_right i p k l (Some r) is = omega arith

  size_left : (i p : ℕ) (k : K) (r : Tree K V) (o : Option (Tree K V)) (is : List ℕ)
      → size_if_any (glue i p k o (Some r)) + length (with_sibling o r is) ≡ 1 + size r + (size_if_any o + length is)
  size_left i p k r None is = omega (arith, size_move i r)
  size_left i p k r (Some l) is = omega arith

  pub size_removed : (t : Tree K V) → size_if_any (removed κ x t) + length (freed κ x t) ≡ size t
  size_removed (leaf i k v) =
      elim (same_key κ k x) as (λ z. size_if_any (cond z None (Some (leaf i k v))) + length (cond z (i ∷ []) []) ≡ 1) [
        | true ↦ omega arith
        | false ↦ omega arith
      ]
  size_removed (branch i p k l r) =
      elim (κ.bit x p) as (λ z. size_if_any (cond z (glue i p k (Some l) (removed κ x r)) (glue i p k (removed κ x l) (Some r)))
      + length (cond z (with_sibling (removed κ x r) l (freed κ x r)) (with_sibling (removed κ x l) r (freed κ x l))) ≡ 1 + size l + size r) [
        | true ↦ omega (arith, size_right i p k l (removed κ x r) (freed κ x r), size_removed r)
        | false ↦ omega (arith, size_left i p k r (removed κ x l) (freed κ x l), size_removed l)
      ]

  -- what y finds in o, once x is taken from t
  abbrev pub FindsOthers : K → Tree K V → Option (Tree K V) → Type 0
  FindsOthers y t o = lookup κ (entries_if_any o) y ≡ cond (same_key κ x y) None (lookup κ (entries t) y)

  lookup_removed_leaf : (y : K) (i : ℕ) (k : K) (v : V) (z w : Bool) → same_key κ k x ≡ z → same_key κ x y ≡ w
      → FindsOthers y (leaf i k v) (cond z None (Some (leaf i k v)))
  lookup_removed_leaf y i k v true true e f = rw f refl
  lookup_removed_leaf y i k v false true e f =
      let other : same_key κ k y ≡ false = ap (λ n. eqb (number κ k) n) (sym (eqb-true (number κ x) (number κ y) f)) ∙ e in
      rw (f, other) refl
  lookup_removed_leaf y i k v true false e f =
      let other : same_key κ k y ≡ false = ap (λ n. eqb n (number κ y)) (eqb-true (number κ k) (number κ x) e) ∙ f in
      rw (f, other) refl
  lookup_removed_leaf y i k v false false e f = rw f refl

  module _ (y : K) (least i p : ℕ) (k : K) (l r : Tree K V) (o : Ordered κ least (branch i p k l r)) where
    lookup_removed_side : (b z : Bool) → κ.bit x p ≡ b → κ.bit y p ≡ z → FindsOthers y (cond b r l) (removed κ x (cond b r l))
        → FindsOthers y (branch i p k l r) (cond b (glue i p k (Some l) (removed κ x r)) (glue i p k (removed κ x l) (Some r)))
    lookup_removed_side true true ex ey found =
        lookup_glue κ y true i p k (Some l) (removed κ x r) o.1 o.2 (all_keys_removed _ r o.3) ey
        ∙ rw (lookup_side κ y least i p k l r o true ey) found
    lookup_removed_side false false ex ey found =
        lookup_glue κ y false i p k (removed κ x l) (Some r) o.1 (all_keys_removed _ l o.2) o.3 ey
        ∙ rw (lookup_side κ y least i p k l r o false ey) found
    lookup_removed_side true false ex ey found =
        let differ : same_key κ x y ≡ false = same_key_false κ x y (numbers_differ κ x y p o.1 (λ e. true≢false (sym ex ∙ e ∙ ey))) in
        lookup_glue κ y false i p k (Some l) (removed κ x r) o.1 o.2 (all_keys_removed _ r o.3) ey
        ∙ rw (differ, lookup_side κ y least i p k l r o false ey) refl
    lookup_removed_side false true ex ey found =
        let differ : same_key κ x y ≡ false = same_key_false κ x y (numbers_differ κ x y p o.1 (λ e. false≢true (sym ex ∙ e ∙ ey))) in
        lookup_glue κ y true i p k (removed κ x l) (Some r) o.1 (all_keys_removed _ l o.2) o.3 ey
        ∙ rw (differ, lookup_side κ y least i p k l r o true ey) refl

  -- every key finds what it found, but x finds nothing
  pub lookup_removed : (y : K) (least : ℕ) (t : Tree K V) → Ordered κ least t → FindsOthers y t (removed κ x t)
  lookup_removed y least (leaf i k v) o = lookup_removed_leaf y i k v (same_key κ k x) (same_key κ x y) refl refl
  lookup_removed y least (branch i p k l r) o =
      lookup_removed_side y least i p k l r o (κ.bit x p) (κ.bit y p) refl refl
      (elim (κ.bit x p) as (λ b. FindsOthers y (cond b r l) (removed κ x (cond b r l))) [
        | true ↦ lookup_removed y (p + 1) r o.5
        | false ↦ lookup_removed y (p + 1) l o.4
      ])

  -- a key that is absent takes nothing away
  pub removed_absent : (least : ℕ) (t : Tree K V) → Ordered κ least t → lookup κ (entries t) x ≡ None → removed κ x t ≡ Some t
  removed_absent least (leaf i k v) o e = of_leaf (same_key κ k x) e where
    of_leaf : (z : Bool) → cond z (Some v) None ≡ None → cond z None (Some (leaf i k v)) ≡ Some (leaf i k v)
    of_leaf true h = let z : ◌≡◌ {A = ℕ} 0 1 = cc in absurd (omega arith)
    of_leaf false h = refl
  removed_absent least (branch i p k l r) o e =
      (elim (κ.bit x p) as (λ b. κ.bit x p ≡ b → removed κ x (branch i p k l r) ≡ Some (branch i p k l r)) [
        | true ↦ (λ q. removed_keeps i p k l r true r q (removed_absent (p + 1) r o.5 (sym (lookup_side κ x least i p k l r o true q) ∙ e)))
        | false ↦ (λ q. removed_keeps i p k l r false l q (removed_absent (p + 1) l o.4 (sym (lookup_side κ x least i p k l r o false q) ∙ e)))
      ]) refl

  pub freed_absent : (least : ℕ) (t : Tree K V) → Ordered κ least t → lookup κ (entries t) x ≡ None → freed κ x t ≡ []
  freed_absent least t o e =
      let same : size_if_any (removed κ x t) ≡ size t = ap size_if_any (removed_absent least t o e) in
      none_of_none (freed κ x t) (omega (arith, size_removed t))

  -- one that is there takes one entry away
  pub length_removed : (least : ℕ) (t : Tree K V) (v : V) → Ordered κ least t → lookup κ (entries t) x ≡ Some v
      → length (entries_if_any (removed κ x t)) + 1 ≡ length (entries t)
  length_removed least (leaf i k u) v o e = of_leaf (same_key κ k x) e where
    of_leaf : (z : Bool) → cond z (Some u) None ≡ Some v → length (entries_if_any (cond z None (Some (leaf i k u)))) + 1 ≡ 1
    of_leaf true h = omega arith
    of_leaf false h = let z : ◌≡◌ {A = ℕ} 0 1 = cc in absurd (omega arith)
  length_removed least (branch i p k l r) v o e =
      (elim (κ.bit x p) as (λ b. κ.bit x p ≡ b
      → length (entries_if_any (cond b (glue i p k (Some l) (removed κ x r)) (glue i p k (removed κ x l) (Some r)))) + 1 ≡ length
      (entries l ++ entries r)) [
        | true ↦ (λ q. omega (
          arith,
          length_glue i p k (Some l) (removed κ x r),
          length-append (entries l) (entries r),
          length_removed (p + 1) r v o.5 (sym (lookup_side κ x least i p k l r o true q) ∙ e),
        ))
        | false ↦ (λ q. omega (
          arith,
          length_glue i p k (removed κ x l) (Some r),
          length-append (entries l) (entries r),
          length_removed (p + 1) l v o.4 (sym (lookup_side κ x least i p k l r o false q) ∙ e),
        ))
      ]) refl
