-- No key stands twice in a tree in order, so each entry is what its key finds.
use Rattle.std.proofs.Common.{◌≡◌, ℕ, ◌<◌, Bool, true, false, cond, List, [], ◌∷◌, length, get_or, Some, None, Option, sym, refl, ap, ◌∙◌, subst, arith, eqb-true}
use Rattle.std.specs.List.{ContainsAt, AllByRecursion}
use Rattle.std.proofs.ByRecursion.{All-weaker, all-has, All-get_or, has_append_right}
use Rattle.keys.specs.Model.{KeyModel, KeyLaws, number}
use Rattle.trees.specs.Tree.{Tree, entries, entries_if_any}
use Rattle.trees.specs.Order.{Ordered, OrderedIfAny}
use Rattle.trees.specs.Find.{same_key, lookup, Rising}
use Rattle.trees.proofs.Lookup.{same_key_true, lookup_none, lookup_same_number}
use Rattle.trees.proofs.Rising.{rising_after_first, rising_tail, tree_rises, map_rises}

pub some_is_not_none : {A : Type 0} (o : Option A) (a : A) → o ≡ Some a → o ≡ None → ⊥
some_is_not_none o a e f = let z : ◌≡◌ {A = ℕ} 0 1 = cc in omega arith

has_first : {A : Type 0} (x : A) (xs : List A) → ContainsAt (x ∷ xs) x
has_first x xs = (0, omega arith, λ d. refl)

module _ {K V : Type 0} (κ : KeyModel K) where
  -- no key stands twice in a list
  abbrev pub Distinct : List (K × V) → Type 0
  Distinct [] = Unit {0}
  Distinct (e ∷ es) = (lookup κ es e.0 ≡ None) × Distinct es

  pub rising_distinct : (es : List (K × V)) → Rising κ es → Distinct es
  rising_distinct [] h = tt
  rising_distinct (e ∷ es) h =
      (lookup_none κ e.0 es (All-weaker _ _ (λ f l same. omega arith) es (rising_after_first κ e es h)), rising_distinct es (rising_tail κ e es h))

  -- each entry is found by its own key
  pub all_found : (es : List (K × V)) → Distinct es → AllByRecursion (λ (e : K × V). lookup κ es e.0 ≡ Some e.1) es
  all_found [] d = tt
  all_found (e ∷ es) d = (
    ap (λ b. cond b (Some e.1) (lookup κ es e.0)) (same_key_true κ e.0 e.0 refl),
    All-weaker _ _ (λ f h. step f h (same_key κ e.0 f.0) refl) es (all_found es d.1),
  )
    where
      step : (f : K × V) → lookup κ es f.0 ≡ Some f.1 → (b : Bool) → same_key κ e.0 f.0 ≡ b
          → cond b (Some e.1) (lookup κ es f.0) ≡ Some f.1
      step f h false q = h
      step f h true q =
          absurd (some_is_not_none (lookup κ es f.0) f.1 h
          (lookup_same_number κ es f.0 e.0 (sym (eqb-true (number κ e.0) (number κ f.0) q)) ∙ d.0))

  -- the same by place, and by membership
  pub lookup_at : (es : List (K × V)) → Distinct es → (i : ℕ) (d : K × V) → i < length es
      → lookup κ es (get_or es i d).0 ≡ Some (get_or es i d).1
  lookup_at es h i d l = All-get_or (λ (e : K × V). lookup κ es e.0 ≡ Some e.1) es i d l (all_found es h)

  pub lookup_has : (es : List (K × V)) → Distinct es → (k : K) (v : V) → ContainsAt es (k, v) → lookup κ es k ≡ Some v
  lookup_has es h k v m = all-has (λ (e : K × V). lookup κ es e.0 ≡ Some e.1) es (k, v) (all_found es h) m

  -- what a key finds is the record of an entry with its number
  pub found_has : (es : List (K × V)) (x : K) (v : V) → lookup κ es x ≡ Some v → (k : K) × (number κ k ≡ number κ x) × ContainsAt es (k, v)
  found_has [] x v h = absurd (some_is_not_none None v h refl)
  found_has (e ∷ es) x v h = step (same_key κ e.0 x) refl (found_has es x v) h where
    step : (b : Bool) → same_key κ e.0 x ≡ b → (lookup κ es x ≡ Some v → (k : K) × (number κ k ≡ number κ x) × ContainsAt es (k, v))
        → cond b (Some e.1) (lookup κ es x) ≡ Some v → (k : K) × (number κ k ≡ number κ x) × ContainsAt (e ∷ es) (k, v)
    step true q rest f =
        let same : e.1 ≡ v = cc in
        (e.0, eqb-true (number κ e.0) (number κ x) q, subst (λ w. ContainsAt (e ∷ es) (e.0, w)) same (has_first e es))
    step false q rest f = let later = rest f in (later.0, later.1, has_append_right (e ∷ []) es (later.0, v) later.2)

  -- and, by the laws of keys, of the entry with that key
  pub found_entry : KeyLaws κ → (es : List (K × V)) (x : K) (v : V) → lookup κ es x ≡ Some v → ContainsAt es (x, v)
  found_entry law es x v h =
      let found = found_has es x v h in
      subst (λ (k : K). ContainsAt es (k, v)) (law.same_number found.0 x found.1) found.2

  -- no key stands twice in a tree in order, nor in a map
  pub tree_distinct : (least : ℕ) (t : Tree K V) → Ordered κ least t → Distinct (entries t)
  tree_distinct least t o = rising_distinct (entries t) (tree_rises κ least t o)

  pub map_distinct : (o : Option (Tree K V)) → OrderedIfAny κ o → Distinct (entries_if_any o)
  map_distinct o h = rising_distinct (entries_if_any o) (map_rises κ o h)
