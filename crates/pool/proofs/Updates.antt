-- What a list of updates says once an update is added or a key is dropped.
use Rattle.std.proofs.Common.{◌≡◌, Bool, true, false, cond, eqb, List, [], ◌∷◌, ◌++◌, Some, None, Option, sym, refl, ap, ◌∙◌, ne_eqb, eqb-true}
use borrow.Author.Tests.{eqb-false}
use Rattle.keys.specs.Model.{KeyModel, number}
use Rattle.trees.specs.Find.{same_key}
use Rattle.trees.specs.Union.{both}
use Rattle.pool.specs.Machine.{says, record_at, dropped}
use Rattle.trees.specs.Insert.{added}

none_either : {A : Type 0} (b : Bool) → ◌≡◌ {A = Option A} (cond b None None) None
none_either true = refl
none_either false = refl

module _ {V : Type 0} (join : V → V → V) where
  pub both_none : (o : Option V) → both join o None ≡ o
  both_none None = refl
  both_none (Some v) = refl

  pub both_added : (o : Option V) (v : V) → Some (added join v o) ≡ both join o (Some v)
  both_added None v = refl
  both_added (Some u) v = refl

  module _ (associative : (a b c : V) → join a (join b c) ≡ join (join a b) c) where
    pub both_assoc : (x y z : Option V) → both join x (both join y z) ≡ both join (both join x y) z
    both_assoc None y z = refl
    both_assoc (Some a) None z = refl
    both_assoc (Some a) (Some b) None = refl
    both_assoc (Some a) (Some b) (Some c) = ap Some (associative a b c)

module _ {K V : Type 0} (κ : KeyModel K) (join : V → V → V) where
  -- one list after another says the join of what both say
  pub record_append : ((a b c : V) → join a (join b c) ≡ join (join a b) c) → (es us : List (K × V)) (x : K) → record_at κ join (es ++ us) x ≡ both join (record_at κ join es x) (record_at κ join us x)
  record_append assoc [] us x = refl
  record_append assoc (e ∷ es) us x = ap (both join (says κ e x)) (record_append assoc es us x) ∙ both_assoc join assoc (says κ e x) (record_at κ join es x) (record_at κ join us x)

  -- keys of one number have one record
  pub record_same_number : (us : List (K × V)) (x y : K) → number κ x ≡ number κ y → record_at κ join us x ≡ record_at κ join us y
  record_same_number [] x y e = refl
  record_same_number (u ∷ us) x y e =
      let same : same_key κ u.0 x ≡ same_key κ u.0 y = ap (λ n. eqb (number κ u.0) n) e in
      ap (λ b. both join (cond b (Some u.1) None) (record_at κ join us x)) same ∙ ap (both join (says κ u y)) (record_same_number us x y e)

  -- an update more, as a put leaves it
  pub record_put : ((a b c : V) → join a (join b c) ≡ join (join a b) c) → (us : List (K × V)) (k : K) (v : V) (x : K)
      → cond (same_key κ k x) (Some (added join v (record_at κ join us k))) (record_at κ join us x) ≡ record_at κ join (us ++ ((k, v) ∷ [])) x
  record_put assoc us k v x = step (same_key κ k x) refl ∙ sym (record_append assoc us ((k, v) ∷ []) x) where
    step : (b : Bool) → same_key κ k x ≡ b → cond b (Some (added join v (record_at κ join us k))) (record_at κ join us x) ≡ both join (record_at κ join us x) (both join (cond b (Some v) None) None)
    step true e = both_added join (record_at κ join us k) v ∙ ap (λ o. both join o (Some v)) (record_same_number us k x (eqb-true (number κ k) (number κ x) e))
    step false e = sym (both_none join (record_at κ join us x))

  -- a dropped key has no record, and every other its own
  pub record_dropped : (k : K) (us : List (K × V)) (x : K) → cond (same_key κ k x) None (record_at κ join us x) ≡ record_at κ join (dropped κ k us) x
  record_dropped k [] x = none_either (same_key κ k x)
  record_dropped k (u ∷ us) x = step (same_key κ u.0 k) refl (same_key κ k x) refl (record_dropped k us x) where
    other : same_key κ u.0 k ≡ false → same_key κ k x ≡ true → same_key κ u.0 x ≡ false
    other d e = ne_eqb (number κ u.0) (number κ x) (λ q. eqb-false (number κ u.0) (number κ k) d (q ∙ sym (eqb-true (number κ k) (number κ x) e)))

    own : same_key κ u.0 k ≡ true → same_key κ k x ≡ false → same_key κ u.0 x ≡ false
    own d e = ne_eqb (number κ u.0) (number κ x) (λ q. eqb-false (number κ k) (number κ x) e (sym (eqb-true (number κ u.0) (number κ k) d) ∙ q))

    step : (d : Bool) → same_key κ u.0 k ≡ d → (e : Bool) → same_key κ k x ≡ e → cond (same_key κ k x) None (record_at κ join us x) ≡ record_at κ join (dropped κ k us) x
        → cond e None (both join (says κ u x) (record_at κ join us x)) ≡ record_at κ join (cond d (dropped κ k us) (u ∷ dropped κ k us)) x
    step true d true e ih = sym (ap (λ b. cond b None (record_at κ join us x)) e) ∙ ih
    step true d false e ih = ap (λ b. both join (cond b (Some u.1) None) (record_at κ join us x)) (own d e) ∙ sym (ap (λ b. cond b None (record_at κ join us x)) e) ∙ ih
    step false d true e ih =
        let none : None ≡ record_at κ join (dropped κ k us) x = sym (ap (λ b. cond b None (record_at κ join us x)) e) ∙ ih in
        none ∙ sym (ap (λ b. both join (cond b (Some u.1) None) (record_at κ join (dropped κ k us) x)) (other d e))
    step false d false e ih = ap (both join (says κ u x)) (sym (ap (λ b. cond b None (record_at κ join us x)) e) ∙ ih)
