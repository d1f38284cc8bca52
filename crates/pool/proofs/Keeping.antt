-- What a list of updates says of which a test keeps some keys, and what the lists of two shelves say together.
use Rattle.std.proofs.Common.{◌≡◌, Bool, true, false, cond, not, List, [], ◌∷◌, ◌++◌, Some, None, Option, sym, refl, ap, ◌∙◌, ap₂, eqb-true}
use Rattle.keys.specs.Model.{KeyModel, KeyLaws, number}
use Rattle.trees.specs.Find.{same_key}
use Rattle.trees.specs.Union.{both}
use Rattle.pool.specs.Machine.{record_at, listed, keeping, in_both}
use Rattle.pool.proofs.Counts.{any, listed_record}
use Rattle.pool.proofs.Updates.{record_append}

module _ {K V : Type 0} (κ : KeyModel K) (law : KeyLaws κ) (join : V → V → V) where
  -- a key that the test keeps has its record, any other none
  pub record_keeping : (test : K → Bool) (us : List (K × V)) (x : K) → record_at κ join (keeping test us) x ≡ cond (test x) (record_at κ join us x) None
  record_keeping test [] x = elim (test x) as (λ b. ◌≡◌ {A = Option V} None (cond b None None)) [ true ↦ refl | false ↦ refl ]
  record_keeping test (u ∷ us) x = step (same_key κ u.0 x) refl (test u.0) refl (record_keeping test us x) where
    kept_alike : (t : Bool) → same_key κ u.0 x ≡ true → test u.0 ≡ t → test x ≡ t
    kept_alike t e f = sym (ap test (law.same_number u.0 x (eqb-true (number κ u.0) (number κ x) e))) ∙ f

    step : (b : Bool) → same_key κ u.0 x ≡ b → (t : Bool) → test u.0 ≡ t → record_at κ join (keeping test us) x ≡ cond (test x) (record_at κ join us x) None
        → record_at κ join (cond t (u ∷ keeping test us) (keeping test us)) x ≡ cond (test x) (both join (cond b (Some u.1) None) (record_at κ join us x)) None
    step true e true f ih =
        ap₂ (λ c r. both join (cond c (Some u.1) None) r) e (ih ∙ ap (λ z. cond z (record_at κ join us x) None) (kept_alike true e f))
        ∙ sym (ap (λ z. cond z (both join (Some u.1) (record_at κ join us x)) None) (kept_alike true e f))
    step true e false f ih =
        ih ∙ ap (λ z. cond z (record_at κ join us x) None) (kept_alike false e f)
        ∙ sym (ap (λ z. cond z (both join (Some u.1) (record_at κ join us x)) None) (kept_alike false e f))
    step false e true f ih = ap (λ c. both join (cond c (Some u.1) None) (record_at κ join (keeping test us) x)) e ∙ ih
    step false e false f ih = ih

  -- of two lists, the keys that both have find the join of both records, and no other finds any
  pub record_in_both : ((a b c : V) → join a (join b c) ≡ join (join a b) c) → (us ws : List (K × V)) (x : K)
      → record_at κ join (keeping (in_both κ us ws) (us ++ ws)) x
      ≡ cond (cond (any (record_at κ join us x)) (any (record_at κ join ws x)) false) (both join (record_at κ join us x) (record_at κ join ws x)) None
  record_in_both assoc us ws x =
      record_keeping (in_both κ us ws) (us ++ ws) x
      ∙ ap₂ (λ b o. cond b o None) (ap₂ (λ a b. cond a b false) (listed_record κ join us x) (listed_record κ join ws x)) (record_append κ join assoc us ws x)

  -- of one list, the keys that another has not keep their records
  pub record_not_in : (us ws : List (K × V)) (x : K)
      → record_at κ join (keeping (λ k. not (listed κ ws k)) us) x ≡ cond (not (any (record_at κ join ws x))) (record_at κ join us x) None
  record_not_in us ws x =
      record_keeping (λ k. not (listed κ ws k)) us x ∙ ap (λ b. cond (not b) (record_at κ join us x) None) (listed_record κ join ws x)
