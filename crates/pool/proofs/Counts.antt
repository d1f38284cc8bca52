-- The keys of a list of updates: which are listed, how many different ones there are, and that a tree which finds the
-- same keys has as many entries.
use Rattle.std.proofs.Common.{◌≡◌, ℕ, suc, ◌+◌, ◌≤◌, Bool, true, false, cond, eqb, List, [], ◌∷◌, ◌++◌, length, Some, None, Option, sym, refl, ap, ◌∙◌, subst, arith, eq-eqb, ne_eqb, eqb-true}
use borrow.Author.Tests.{eqb-false}
use Rattle.keys.specs.Model.{KeyModel, KeyLaws, number}
use Rattle.trees.specs.Find.{lookup}
use Rattle.trees.proofs.Distinct.{Distinct}
use Rattle.trees.specs.Union.{both}
use Rattle.pool.specs.Machine.{record_at, listed, count_of, dropped}

pub never : true ≡ false → ⊥
never e = let z : ◌≡◌ {A = ℕ} 0 1 = cc in omega arith

abbrev pub any : {V : Type 0} → Option V → Bool
any None = false
any (Some v) = true

-- no key of the list is listed again behind it
abbrev pub NoRepeats : {K V : Type 0} → KeyModel K → List (K × V) → Type 0
NoRepeats κ [] = Unit {0}
NoRepeats κ (e ∷ es) = (listed κ es e.0 ≡ false) × NoRepeats κ es

or_assoc : (b : Bool) (c d : Bool) → cond b true (cond c true d) ≡ cond (cond b true c) true d
or_assoc true c d = refl
or_assoc false c d = refl

eqb_same : (a b c : ℕ) → eqb a b ≡ true → eqb a c ≡ eqb b c
eqb_same a b c e = ap (λ z. eqb z c) (eqb-true a b e)

gone : (b : Bool) → cond b false false ≡ false
gone true = refl
gone false = refl

zero_plus : {a b : ℕ} → a ≡ b → a ≡ 0 + b
zero_plus e = omega (arith, e)

all_true : (b : Bool) → cond b true true ≡ true
all_true true = refl
all_true false = refl

or_false : (b : Bool) → cond b true false ≡ b
or_false true = refl
or_false false = refl

module _ {K V : Type 0} (κ : KeyModel K) where
  any_cond : (b : Bool) (v : V) (o : Option V) → any (cond b (Some v) o) ≡ cond b true (any o)
  any_cond true v o = refl
  any_cond false v o = refl

  pub listed_lookup : (es : List (K × V)) (x : K) → listed κ es x ≡ any (lookup κ es x)
  listed_lookup [] x = refl
  listed_lookup (e ∷ es) x = ap (cond (eqb (number κ e.0) (number κ x)) true) (listed_lookup es x) ∙ sym (any_cond (eqb (number κ e.0) (number κ x)) e.1 (lookup κ es x))

  any_both : (join : V → V → V) (b : Bool) (v : V) (o : Option V) → any (both join (cond b (Some v) None) o) ≡ cond b true (any o)
  any_both join true v None = refl
  any_both join true v (Some w) = refl
  any_both join false v o = refl

  pub listed_record : (join : V → V → V) (es : List (K × V)) (x : K) → listed κ es x ≡ any (record_at κ join es x)
  listed_record join [] x = refl
  listed_record join (e ∷ es) x = ap (cond (eqb (number κ e.0) (number κ x)) true) (listed_record join es x) ∙ sym (any_both join (eqb (number κ e.0) (number κ x)) e.1 (record_at κ join es x))

  pub listed_append : (es us : List (K × V)) (x : K) → listed κ (es ++ us) x ≡ cond (listed κ es x) true (listed κ us x)
  listed_append [] us x = refl
  listed_append (e ∷ es) us x = ap (cond (eqb (number κ e.0) (number κ x)) true) (listed_append es us x) ∙ or_assoc (eqb (number κ e.0) (number κ x)) (listed κ es x) (listed κ us x)

  pub no_repeats : (es : List (K × V)) → Distinct κ es → NoRepeats κ es
  no_repeats [] d = tt
  no_repeats (e ∷ es) d = (listed_lookup es e.0 ∙ ap any d.0, no_repeats es d.1)

  pub listed_drop : (k : K) (es : List (K × V)) (x : K) → listed κ (dropped κ k es) x ≡ cond (eqb (number κ k) (number κ x)) false (listed κ es x)
  listed_drop k [] x = elim (eqb (number κ k) (number κ x)) as (λ z. false ≡ cond z false false) [ true ↦ refl | false ↦ refl ]
  listed_drop k (e ∷ es) x =
      let b = eqb (number κ e.0) (number κ k) in
      let ih = listed_drop k es x in
      elim b as (λ z. b ≡ z → listed κ (cond z (dropped κ k es) (e ∷ dropped κ k es)) x ≡ cond (eqb (number κ k) (number κ x)) false (listed κ (e ∷ es) x)) [
        | true ↦ (λ q. let s = eqb_same (number κ e.0) (number κ k) (number κ x) q in
            ih ∙ (elim (eqb (number κ k) (number κ x)) as (λ z. eqb (number κ e.0) (number κ x) ≡ z → cond z false (listed κ es x) ≡ cond z false (listed κ (e ∷ es) x))
            [ true ↦ (λ w. refl) | false ↦ (λ w. sym (ap (λ u. cond u true (listed κ es x)) w)) ] s))
        | false ↦ (λ q. elim (eqb (number κ e.0) (number κ x)) as (λ z. eqb (number κ e.0) (number κ x) ≡ z → cond z true (listed κ (dropped κ k es) x) ≡ cond (eqb (number κ k) (number κ x)) false (cond z true (listed κ es x))) [
          | true ↦ (λ w. let ne : eqb (number κ k) (number κ x) ≡ false = ne_eqb (number κ k) (number κ x) (λ y. eqb-false (number κ e.0) (number κ k) q (eqb-true (number κ e.0) (number κ x) w ∙ sym y)) in sym (ap (λ u. cond u false true) ne))
          | false ↦ (λ w. ih)
        ] refl)
      ] refl

  distinct_drop : (k : K) (es : List (K × V)) → NoRepeats κ es → NoRepeats κ (dropped κ k es)
  distinct_drop k [] d = tt
  distinct_drop k (e ∷ es) d =
      elim (eqb (number κ e.0) (number κ k)) as (λ z. NoRepeats κ (cond z (dropped κ k es) (e ∷ dropped κ k es))) [
        | true ↦ distinct_drop k es d.1
        | false ↦ (listed_drop k es e.0 ∙ ap (cond (eqb (number κ k) (number κ e.0)) false) d.0 ∙ gone (eqb (number κ k) (number κ e.0)), distinct_drop k es d.1)
      ]

  -- a key that is not listed drops nothing
  drop_none : (k : K) (es : List (K × V)) → listed κ es k ≡ false → length (dropped κ k es) ≡ length es
  drop_none k [] h = refl
  drop_none k (e ∷ es) h =
      elim (eqb (number κ e.0) (number κ k)) as (λ z. cond z true (listed κ es k) ≡ false → length (cond z (dropped κ k es) (e ∷ dropped κ k es)) ≡ length (e ∷ es))
      [ true ↦ (λ q. absurd (never q)) | false ↦ (λ q. ap suc (drop_none k es q)) ] h

module _ {K V : Type 0} (κ : KeyModel K) (law : KeyLaws κ) where
  drop_one : (k : K) (es : List (K × V)) → NoRepeats κ es → listed κ es k ≡ true → length es ≡ suc (length (dropped κ k es))
  drop_one k [] d h = absurd (never (sym h))
  drop_one k (e ∷ es) d h =
      let b = eqb (number κ e.0) (number κ k) in
      elim b as (λ z. b ≡ z → cond z true (listed κ es k) ≡ true → length (e ∷ es) ≡ suc (length (cond z (dropped κ k es) (e ∷ dropped κ k es)))) [
        | true ↦ (λ q w. let s : e.0 ≡ k = law.same_number e.0 k (eqb-true (number κ e.0) (number κ k) q) in
            ap suc (sym (drop_none κ k es (subst (λ y. listed κ es y ≡ false) s d.0))))
        | false ↦ (λ q w. ap suc (drop_one k es d.1 w))
      ] refl h

  pub length_count : (us es : List (K × V)) → NoRepeats κ es → ((k : K) → listed κ es k ≡ listed κ us k) → length es ≡ count_of κ us
  length_count [] [] d h = refl
  length_count [] (e ∷ es) d h = absurd (never (sym (ap (λ b. cond b true (listed κ es e.0)) (eq-eqb (number κ e.0) (number κ e.0) refl)) ∙ h e.0))
  length_count (u ∷ us) es d h =
      let b = listed κ us u.0 in
      let own : listed κ es u.0 ≡ true = h u.0 ∙ ap (λ z. cond z true (listed κ us u.0)) (eq-eqb (number κ u.0) (number κ u.0) refl) in
      elim b as (λ z. b ≡ z → length es ≡ cond z 0 1 + count_of κ us) [
        | true ↦ (λ q. zero_plus (length_count us es d (λ k. h k ∙
            (elim (eqb (number κ u.0) (number κ k)) as (λ z. eqb (number κ u.0) (number κ k) ≡ z → cond z true (listed κ us k) ≡ listed κ us k)
            [ true ↦ (λ w. sym (subst (λ y. listed κ us y ≡ true) (law.same_number u.0 k (eqb-true (number κ u.0) (number κ k) w)) q)) | false ↦ (λ w. refl) ] refl))))
        | false ↦ (λ q. let ih = length_count us (dropped κ u.0 es) (distinct_drop κ u.0 es d) (λ k. listed_drop κ u.0 es k ∙
            (elim (eqb (number κ u.0) (number κ k)) as (λ z. eqb (number κ u.0) (number κ k) ≡ z → listed κ es k ≡ cond z true (listed κ us k) → cond z false (listed κ es k) ≡ listed κ us k)
            [ true ↦ (λ w y. sym (subst (λ y. listed κ us y ≡ false) (law.same_number u.0 k (eqb-true (number κ u.0) (number κ k) w)) q)) | false ↦ (λ w y. y) ] refl (h k))) in
            omega (arith, drop_one u.0 es d own, ih))
      ] refl

  pub count_of_pos : (e : K × V) (es : List (K × V)) → 1 ≤ count_of κ (e ∷ es)
  count_of_pos e [] = omega arith
  count_of_pos e (f ∷ es) = omega (arith, count_of_pos f es)

  pub count_of_snoc : (es : List (K × V)) (u : K × V) → count_of κ (es ++ (u ∷ [])) ≡ count_of κ es + cond (listed κ es u.0) 0 1
  count_of_snoc [] u = omega arith
  count_of_snoc (e ∷ es) u =
      let ih = count_of_snoc es u in
      let la = listed_append κ es (u ∷ []) e.0 in
      let x = listed κ es e.0 in
      let b = eqb (number κ e.0) (number κ u.0) in
      elim b as (λ z. b ≡ z → cond (listed κ (es ++ (u ∷ [])) e.0) 0 1 + count_of κ (es ++ (u ∷ [])) ≡ (cond x 0 1 + count_of κ es) + cond (cond z true (listed κ es u.0)) 0 1) [
        | true ↦ (λ q. let s : e.0 ≡ u.0 = law.same_number e.0 u.0 (eqb-true (number κ e.0) (number κ u.0) q) in
            let lx : listed κ es u.0 ≡ x = ap (listed κ es) (sym s) in
            let uu : eqb (number κ u.0) (number κ e.0) ≡ true = eq-eqb (number κ u.0) (number κ e.0) (ap (number κ) (sym s)) in
            let lt : listed κ (es ++ (u ∷ [])) e.0 ≡ true = la ∙ ap (λ w. cond x true (cond w true false)) uu ∙ all_true x in
            let r1 : ◌≡◌ {A = ℕ} (cond (listed κ (es ++ (u ∷ [])) e.0) 0 1) 0 = ap (λ w. cond w 0 1) lt in
            let r2 : ◌≡◌ {A = ℕ} (cond (listed κ es u.0) 0 1) (cond x 0 1) = ap (λ w. cond w 0 1) lx in
            omega (arith, ih, r1, r2))
        | false ↦ (λ q. let uu : eqb (number κ u.0) (number κ e.0) ≡ false = ne_eqb (number κ u.0) (number κ e.0) (λ y. eqb-false (number κ e.0) (number κ u.0) q (sym y)) in
            let lt : listed κ (es ++ (u ∷ [])) e.0 ≡ x = la ∙ ap (λ w. cond x true (cond w true false)) uu ∙ or_false x in
            let r1 : ◌≡◌ {A = ℕ} (cond (listed κ (es ++ (u ∷ [])) e.0) 0 1) (cond x 0 1) = ap (λ w. cond w 0 1) lt in
            omega (arith, ih, r1))
      ] refl
