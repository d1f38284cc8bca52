-- The next entry of a tree is the next of every list of updates that the tree finds.
use Rattle.std.proofs.Common.{◌≡◌, ℕ, ◌<◌, ◌≤◌, Bool, true, false, cond, ltb, List, [], ◌∷◌, Some, None, Option, sym, refl, ap, ◌∙◌, subst, arith, ltb-false, ltb-true, eq-eqb, eqb-true}
use Rattle.std.specs.Option.{option_map}
use Rattle.std.specs.List.{AllByRecursion}
use Rattle.keys.specs.Model.{KeyModel, KeyLaws, number}
use Rattle.trees.specs.Find.{same_key, after, lookup, Rising, first_after}
use Rattle.trees.proofs.Rising.{rising_after_first, rising_tail}
use Rattle.pool.specs.Machine.{record_at, listed, lesser, least_after, entry_of, next_of}
use Rattle.pool.proofs.Counts.{any, never, listed_lookup, listed_record}

or_true : (b c : Bool) → c ≡ true → cond b true c ≡ true
or_true true c e = refl
or_true false c e = e

after_number : {K : Type 0} (κ : KeyModel K) (bound : Option K) (x y : K) → number κ x ≡ number κ y → after κ bound x ≡ after κ bound y
after_number κ None x y e = refl
after_number κ (Some b) x y e = ap (λ n. ltb (number κ b) n) e

module _ {K V : Type 0} (κ : KeyModel K) where
  -- o is the least of the listed keys after a bound, or there is none
  abbrev pub Least : Option K → List (K × V) → Option K → Type 0
  Least bound us None = (x : K) → listed κ us x ≡ true → after κ bound x ≡ true → ⊥
  Least bound us (Some k) = (listed κ us k ≡ true) × (after κ bound k ≡ true) × ((x : K) → listed κ us x ≡ true → after κ bound x ≡ true → number κ k ≤ number κ x)

  listed_first : (u : K × V) (us : List (K × V)) → listed κ (u ∷ us) u.0 ≡ true
  listed_first u us = ap (λ b. cond b true (listed κ us u.0)) (eq-eqb (number κ u.0) (number κ u.0) refl)

  listed_rest : (u : K × V) (us : List (K × V)) (x : K) → listed κ us x ≡ true → listed κ (u ∷ us) x ≡ true
  listed_rest u us x e = or_true (same_key κ u.0 x) (listed κ us x) e

  -- a listed key is the first, by number, or listed behind it
  by_listed : (P : Type 0) (u : K × V) (us : List (K × V)) (x : K) → listed κ (u ∷ us) x ≡ true → (number κ u.0 ≡ number κ x → P) → (listed κ us x ≡ true → P) → P
  by_listed P u us x h here there = step (same_key κ u.0 x) refl h where
    step : (b : Bool) → same_key κ u.0 x ≡ b → cond b true (listed κ us x) ≡ true → P
    step true e q = here (eqb-true (number κ u.0) (number κ x) e)
    step false e q = there q

  least_more : (bound : Option K) (u : K × V) (us : List (K × V)) (o : Option K) → Least bound us o → Least bound (u ∷ us) (lesser κ (cond (after κ bound u.0) (Some u.0) None) o)
  least_more bound u us o h = step (after κ bound u.0) refl o h where
    not_before : (x : K) → after κ bound u.0 ≡ false → number κ u.0 ≡ number κ x → after κ bound x ≡ true → ⊥
    not_before x a e q = never (sym q ∙ sym (after_number κ bound u.0 x e) ∙ a)

    step : (b : Bool) → after κ bound u.0 ≡ b → (o : Option K) → Least bound us o → Least bound (u ∷ us) (lesser κ (cond b (Some u.0) None) o)
    step false a None h = λ x l q. by_listed ⊥ u us x l (λ e. not_before x a e q) (λ l'. h x l' q)
    step false a (Some k) h =
        (listed_rest u us k h.0, h.1, λ x l q. by_listed (number κ k ≤ number κ x) u us x l (λ e. absurd (not_before x a e q)) (λ l'. h.2 x l' q))
    step true a None h =
        (listed_first u us, a, λ x l q. by_listed (number κ u.0 ≤ number κ x) u us x l (λ e. omega (arith, e)) (λ l'. absurd (h x l' q)))
    step true a (Some k) h = pick (ltb (number κ k) (number κ u.0)) refl where
      pick : (b : Bool) → ltb (number κ k) (number κ u.0) ≡ b → Least bound (u ∷ us) (cond b (Some k) (Some u.0))
      pick true e = (
        listed_rest u us k h.0,
        h.1,
        λ x l q. by_listed (number κ k ≤ number κ x) u us x l (λ s. omega (arith, s, ltb-true (number κ k) (number κ u.0) e)) (λ l'. h.2 x l' q),
      )
      pick false e = (
        listed_first u us,
        a,
        λ x l q. by_listed (number κ u.0 ≤ number κ x) u us x l (λ s. omega (arith, s)) (λ l'. omega (arith, h.2 x l' q, ltb-false (number κ k) (number κ u.0) e)),
      )

  pub least_is : (bound : Option K) (us : List (K × V)) → Least bound us (least_after κ bound us)
  least_is bound [] = λ x l q. never (sym l)
  least_is bound (u ∷ us) = least_more bound u us (least_after κ bound us) (least_is bound us)

  -- lists with the same keys have the same least
  pub least_same_keys : (bound : Option K) (us es : List (K × V)) → ((x : K) → listed κ us x ≡ listed κ es x) → (o : Option K) → Least bound us o → Least bound es o
  least_same_keys bound us es same None h = λ x l q. h x (same x ∙ l) q
  least_same_keys bound us es same (Some k) h = (sym (same k) ∙ h.0, h.1, λ x l q. h.2 x (same x ∙ l) q)

  pub least_unique : KeyLaws κ → (bound : Option K) (us : List (K × V)) (o q : Option K) → Least bound us o → Least bound us q → o ≡ q
  least_unique law bound us None None h g = refl
  least_unique law bound us None (Some k) h g = absurd (h k g.0 g.1)
  least_unique law bound us (Some k) None h g = absurd (g k h.0 h.1)
  least_unique law bound us (Some k) (Some j) h g = ap Some (law.same_number k j (omega (arith, h.2 j g.0 g.1, g.2 k h.0 h.1)))

  -- the key of an entry
  abbrev pub key_of : Option (K × V) → Option K
  key_of None = None
  key_of (Some e) = Some e.0

  all_above : (k : K) (es : List (K × V)) → AllByRecursion (λ (e : K × V). number κ k < number κ e.0) es → (x : K) → listed κ es x ≡ true → number κ k < number κ x
  all_above k [] h x l = absurd (never (sym l))
  all_above k (e ∷ es) h x l = by_listed (number κ k < number κ x) e es x l (λ s. omega (arith, s, h.0)) (λ l'. all_above k es h.1 x l')

  -- in a rising list the first after a bound is the least after it
  pub first_is_least : (bound : Option K) (es : List (K × V)) → Rising κ es → Least bound es (key_of (first_after κ bound es))
  first_is_least bound [] h = λ x l q. never (sym l)
  first_is_least bound (e ∷ es) h = step (after κ bound e.0) refl (first_after κ bound es) (first_is_least bound es (rising_tail κ e es h)) where
    step : (b : Bool) → after κ bound e.0 ≡ b → (o : Option (K × V)) → Least bound es (key_of o) → Least bound (e ∷ es) (key_of (cond b (Some e) o))
    step true a o g = (
      listed_first e es,
      a,
      λ x l q. by_listed (number κ e.0 ≤ number κ x) e es x l (λ s. omega (arith, s)) (λ l'. omega (arith, all_above e.0 es (rising_after_first κ e es h) x l')),
    )
    step false a None g = λ x l q. by_listed ⊥ e es x l (λ s. never (sym q ∙ sym (after_number κ bound e.0 x s) ∙ a)) (λ l'. g x l' q)
    step false a (Some f) g = (
      listed_rest e es f.0 g.0,
      g.1,
      λ x l q. by_listed (number κ f.0 ≤ number κ x) e es x l (λ s. absurd (never (sym q ∙ sym (after_number κ bound e.0 x s) ∙ a))) (λ l'. g.2 x l' q),
    )

  -- and its key finds its record
  first_found : (bound : Option K) (es : List (K × V)) → Rising κ es → (e : K × V) → first_after κ bound es ≡ Some e → lookup κ es e.0 ≡ Some e.1
  first_found bound [] h e q = let z : ◌≡◌ {A = ℕ} 0 1 = cc in absurd (omega arith)
  first_found bound (f ∷ es) h e q = step (after κ bound f.0) q (first_found bound es (rising_tail κ f es h) e) where
    step : (b : Bool) → cond b (Some f) (first_after κ bound es) ≡ Some e → (first_after κ bound es ≡ Some e → lookup κ es e.0 ≡ Some e.1) → lookup κ (f ∷ es) e.0 ≡ Some e.1
    step true q ih =
        let same : f ≡ e = cc in
        subst (λ (x : K × V). lookup κ (f ∷ es) x.0 ≡ Some x.1) same (ap (λ b. cond b (Some f.1) (lookup κ es f.0)) (eq-eqb (number κ f.0) (number κ f.0) refl))
    step false q ih = other (same_key κ f.0 e.0) refl where
      later : listed κ es e.0 ≡ true
      later = listed_lookup κ es e.0 ∙ ap any (ih q)

      other : (b : Bool) → same_key κ f.0 e.0 ≡ b → cond b (Some f.1) (lookup κ es e.0) ≡ Some e.1
      other true s = absurd (omega (arith, all_above f.0 es (rising_after_first κ f es h) e.0 later, eqb-true (number κ f.0) (number κ e.0) s))
      other false s = ih q

  pub next_told : KeyLaws κ → (join : V → V → V) (bound : Option K) (es us : List (K × V)) → Rising κ es → ((k : K) → lookup κ es k ≡ record_at κ join us k) → first_after κ bound es ≡ next_of κ join us bound
  next_told law join bound es us rising found = step (first_after κ bound es) refl where
    same_keys : (x : K) → listed κ us x ≡ listed κ es x
    same_keys x = listed_record κ join us x ∙ ap any (sym (found x)) ∙ sym (listed_lookup κ es x)

    least : key_of (first_after κ bound es) ≡ least_after κ bound us
    least = least_unique law bound es _ _ (first_is_least bound es rising) (least_same_keys bound us es same_keys (least_after κ bound us) (least_is bound us))

    step : (o : Option (K × V)) → first_after κ bound es ≡ o → o ≡ next_of κ join us bound
    step None e = ap (entry_of κ join us) (sym (ap key_of e) ∙ least)
    step (Some f) e =
        let record_is : record_at κ join us f.0 ≡ Some f.1 = sym (found f.0) ∙ first_found bound es rising f e in
        sym (ap (option_map (λ v. (f.0, v))) record_is) ∙ ap (entry_of κ join us) (sym (ap key_of e) ∙ least)
