-- A map has one tree: what is found at every key decides the tree, but for its nodes and the keys that branches carry.
use Rattle.std.proofs.Common.{◌≡◌, ℕ, ◌+◌, ◌<◌, ◌≤◌, Bool, true, false, cond, ◌++◌, Some, None, Option, sym, refl, ap, ◌∙◌, ap₂, ⊎_elim, arith, eqb-true}
use mathlib.Core.Bool.{false≢true}
use Rattle.std.specs.Option.{option_or}
use Rattle.std.proofs.ByRecursion.{all-has}
use Rattle.std.proofs.lemmas.Bool.{cases_lt}
use Rattle.keys.specs.Model.{KeyModel, KeyLaws, number}
use Rattle.keys.proofs.Laws.{number_bits}
use Rattle.trees.specs.Tree.{Tree, leaf, branch, key, entries, entries_if_any, size, size_if_any, first_entry, AllKeys}
use Rattle.trees.specs.Order.{Agree, Side, Ordered, OrderedIfAny, place}
use Rattle.trees.specs.Find.{same_key, lookup}
use Rattle.trees.specs.Theorems.{Alike, AlikeIfAny}
use Rattle.trees.proofs.AllKeys.{first_key, all_keys_entries}
use Rattle.trees.proofs.Order.{keys_agree, place_within}
use Rattle.trees.proofs.Lookup.{same_key_true, lookup_append, lookup_side, lookup_other_side}
use Rattle.trees.proofs.Distinct.{some_is_not_none, found_has}

module _ {K V : Type 0} (κ : KeyModel K) where
  -- a tree finds its first entry's record at that entry's key
  pub first_found : (t : Tree K V) → lookup κ (entries t) (first_entry t).0 ≡ Some (first_entry t).1
  first_found (leaf i k v) = ap (λ z. cond z (Some v) None) (same_key_true κ k k refl)
  first_found (branch i p k l r) =
      lookup_append κ (first_entry l).0 (entries l) (entries r) ∙ ap (λ o. option_or o (lookup κ (entries r) (first_entry l).0)) (first_found l)

  -- what holds of all keys of a tree holds of one with the number of any key found there
  pub found_key : (P : K → Type 0) (t : Tree K V) (x : K) (v : V) → AllKeys P t → lookup κ (entries t) x ≡ Some v
      → (j : K) × P j × (number κ j ≡ number κ x)
  found_key P t x v h e =
      let found = found_has κ (entries t) x v e in
      (found.0, all-has (λ (f : K × V). P f.0) (entries t) (found.0, v) (all_keys_entries P t h) found.2, found.1)

  -- a key found in a tree agrees with the tree's own key before the tree's place
  pub found_agrees : (least : ℕ) (t : Tree K V) (x : K) (v : V) → Ordered κ least t → lookup κ (entries t) x ≡ Some v
      → Agree κ (place κ t) x (key t)
  found_agrees least t x v o e q l =
      let found = found_key (λ j. Agree κ (place κ t) j (key t)) t x v (keys_agree κ least t o) e in
      sym (number_bits κ found.0 x found.2 q (omega (arith, place_within κ least t o))) ∙ found.1 q l

  -- a tree that finds what a branch finds parts no lower than the branch
  parts_as_high : (least least' i p : ℕ) (t : Tree K V) (k : K) (l r : Tree K V) → Ordered κ least t → Ordered κ least' (branch i p k l r)
      → ((x : K) → lookup κ (entries t) x ≡ lookup κ (entries (branch i p k l r)) x) → place κ t ≤ p
  parts_as_high least least' i p t k l r o o' f =
      ⊎_elim (λ h. absurd (false≢true (at_left h ∙ sym (at_right h)))) (λ h. h) (cases_lt p (place κ t)) where
        left_bit : κ.bit (first_entry l).0 p ≡ false
        left_bit = (first_key (Side κ p false k) l o'.2).1

        right_bit : κ.bit (first_entry r).0 p ≡ true
        right_bit = (first_key (Side κ p true k) r o'.3).1

        at_left : p < place κ t → false ≡ κ.bit (key t) p
        at_left h =
            sym left_bit ∙ found_agrees least t (first_entry l).0 (first_entry l).1 o
            (f (first_entry l).0 ∙ lookup_side κ (first_entry l).0 least' i p k l r o' false left_bit ∙ first_found l) p h

        at_right : p < place κ t → true ≡ κ.bit (key t) p
        at_right h =
            sym right_bit ∙ found_agrees least t (first_entry r).0 (first_entry r).1 o
            (f (first_entry r).0 ∙ lookup_side κ (first_entry r).0 least' i p k l r o' true right_bit ∙ first_found r) p h

  -- the sides of two branches at one place that find the same find the same
  sides_find_same : (least least' i i' p q : ℕ) (k k' : K) (l r l' r' : Tree K V) → p ≡ q → Ordered κ least (branch i p k l r)
      → Ordered κ least' (branch i' q k' l' r')
      → (x : K) → lookup κ (entries (branch i p k l r)) x ≡ lookup κ (entries (branch i' q k' l' r')) x
      → (lookup κ (entries l) x ≡ lookup κ (entries l') x) × (lookup κ (entries r) x ≡ lookup κ (entries r') x)
  sides_find_same least least' i i' p q k k' l r l' r' same o o' x f =
      (elim (κ.bit x p) as (λ b. κ.bit x p ≡ b
      → (lookup κ (entries l) x ≡ lookup κ (entries l') x) × (lookup κ (entries r) x ≡ lookup κ (entries r') x)) [
        | true ↦ (λ e. let e' : κ.bit x q ≡ true = ap (κ.bit x) (sym same) ∙ e in (
          lookup_other_side κ x p false k l o.1 o.2 e ∙ sym (lookup_other_side κ x q false k' l' o'.1 o'.2 e'),
          sym (lookup_side κ x least i p k l r o true e) ∙ f ∙ lookup_side κ x least' i' q k' l' r' o' true e',
        ))
        | false ↦ (λ e. let e' : κ.bit x q ≡ false = ap (κ.bit x) (sym same) ∙ e in (
          sym (lookup_side κ x least i p k l r o false e) ∙ f ∙ lookup_side κ x least' i' q k' l' r' o' false e',
          lookup_other_side κ x p true k r o.1 o.3 e ∙ sym (lookup_other_side κ x q true k' r' o'.1 o'.3 e'),
        ))
      ]) refl

  -- one tree for what is found
  pub trees_alike : KeyLaws κ → (least least' : ℕ) (t u : Tree K V) → Ordered κ least t → Ordered κ least' u
      → ((x : K) → lookup κ (entries t) x ≡ lookup κ (entries u) x) → Alike t u
  trees_alike law least least' (leaf i k v) (leaf j k' v') o o' f = same_leaf (same_key κ k' k) refl (sym (f k) ∙ first_found (leaf i k v)) where
    same_leaf : (z : Bool) → same_key κ k' k ≡ z → cond z (Some v') None ≡ Some v → (k ≡ k') × (v ≡ v')
    same_leaf true e h = (law.same_number k k' (sym (eqb-true (number κ k') (number κ k) e)), cc)
    same_leaf false e h = absurd (some_is_not_none None v h refl)
  trees_alike law least least' (leaf i k v) (branch j q k' l' r') o o' f =
      omega (arith, parts_as_high least least' j q (leaf i k v) k' l' r' o o' f, o'.1)
  trees_alike law least least' (branch i p k l r) (leaf j k' v') o o' f =
      omega (arith, parts_as_high least' least i p (leaf j k' v') k l r o' o (λ x. sym (f x)), o.1)
  trees_alike law least least' (branch i p k l r) (branch j q k' l' r') o o' f =
      let lower : p ≤ q = parts_as_high least least' j q (branch i p k l r) k' l' r' o o' f in
      let higher : q ≤ p = parts_as_high least' least i p (branch j q k' l' r') k l r o' o (λ x. sym (f x)) in
      let same : p ≡ q = omega arith in
      let sides = λ (x : K). sides_find_same least least' i j p q k k' l r l' r' same o o' x (f x) in (
        same,
        trees_alike law (p + 1) (q + 1) l l' o.4 o'.4 (λ x. (sides x).0),
        trees_alike law (p + 1) (q + 1) r r' o.5 o'.5 (λ x. (sides x).1),
      )

  pub maps_alike : KeyLaws κ → (t u : Option (Tree K V)) → OrderedIfAny κ t → OrderedIfAny κ u
      → ((x : K) → lookup κ (entries_if_any t) x ≡ lookup κ (entries_if_any u) x) → AlikeIfAny t u
  maps_alike law None None o o' f = tt
  maps_alike law None (Some u) o o' f =
      some_is_not_none (lookup κ (entries u) (first_entry u).0) (first_entry u).1 (first_found u) (sym (f (first_entry u).0))
  maps_alike law (Some t) None o o' f =
      some_is_not_none (lookup κ (entries t) (first_entry t).0) (first_entry t).1 (first_found t) (f (first_entry t).0)
  maps_alike law (Some t) (Some u) o o' f = trees_alike law 0 0 t u o o' f

module _ {K V : Type 0} where
  -- trees that are alike have the same entries, and as many nodes
  pub alike_entries : (t u : Tree K V) → Alike t u → entries t ≡ entries u
  alike_entries (leaf i k v) (leaf j k' v') h = let e = h.0 in let f = h.1 in cc
  alike_entries (leaf i k v) (branch j q k' l' r') h = absurd h
  alike_entries (branch i p k l r) (leaf j k' v') h = absurd h
  alike_entries (branch i p k l r) (branch j q k' l' r') h = ap₂ ◌++◌ (alike_entries l l' h.1) (alike_entries r r' h.2)

  pub alike_entries_if_any : (t u : Option (Tree K V)) → AlikeIfAny t u → entries_if_any t ≡ entries_if_any u
  alike_entries_if_any None None h = refl
  alike_entries_if_any None (Some u) h = absurd h
  alike_entries_if_any (Some t) None h = absurd h
  alike_entries_if_any (Some t) (Some u) h = alike_entries t u h

  pub alike_size : (t u : Tree K V) → Alike t u → size t ≡ size u
  alike_size (leaf i k v) (leaf j k' v') h = refl
  alike_size (leaf i k v) (branch j q k' l' r') h = absurd h
  alike_size (branch i p k l r) (leaf j k' v') h = absurd h
  alike_size (branch i p k l r) (branch j q k' l' r') h = omega (arith, alike_size l l' h.1, alike_size r r' h.2)

  pub alike_size_if_any : (t u : Option (Tree K V)) → AlikeIfAny t u → size_if_any t ≡ size_if_any u
  alike_size_if_any None None h = refl
  alike_size_if_any None (Some u) h = absurd h
  alike_size_if_any (Some t) None h = absurd h
  alike_size_if_any (Some t) (Some u) h = alike_size t u h
