-- The laws of `split`, the first place in which two keys differ: an ultrametric, and a bit that differs at it.
-- Layers above use these and never the text of the definition.
use Rattle.std.proofs.Common.{◌≡◌, ℕ, zero, suc, ◌+◌, ◌<◌, ◌≤◌, Bool, true, false, cond, not, ◌⊎◌, sym, refl, ◌∙◌, subst, inl, inr, ⊎_elim, true≢false, arith}
use mathlib.Core.Bool.{beq, false≢true}
use Rattle.std.proofs.lemmas.Bool.{cases_lt, cases_order}
use Rattle.keys.specs.Model.{KeyModel, FirstDifference}
use Rattle.keys.specs.Split.{split_from, split}

pub beq_true : (x y : Bool) → beq x y ≡ true → x ≡ y
beq_true true true e = refl
beq_true true false e = sym e
beq_true false true e = e
beq_true false false e = refl

pub beq_false : (x y : Bool) → beq x y ≡ false → x ≡ y → ⊥
beq_false true true e h = true≢false e
beq_false true false e h = true≢false h
beq_false false true e h = false≢true h
beq_false false false e h = true≢false e

differs : (s : Bool) → s ≡ not s → ⊥
differs true e = true≢false e
differs false e = false≢true e

cases : (p q : ℕ) → p ≤ q → (p ≡ q) ⊎ (p < q)
cases p q h = ⊎_elim (λ e. inl e) (⊎_elim (λ g. inr g) (λ g. absurd (omega arith))) (cases_order p q)

module _ {K : Type 0} (κ : KeyModel K) where
  -- all that a scan of n places from p finds
  pub record Scan (n p : ℕ) (a b : K) (s : ℕ) : Type 0 where
    pub low : p ≤ s
    pub high : s ≤ p + n
    pub same : (i : ℕ) → p ≤ i → i < s → κ.bit a i ≡ κ.bit b i
    pub differ : s < p + n → κ.bit a s ≡ κ.bit b s → ⊥

  pub scan : (n p : ℕ) (a b : K) → Scan n p a b (split_from κ n p a b)
  unfolding split_from
  scan zero p a b = record { low = omega arith; high = omega arith; same = λ i h h'. absurd (omega arith); differ = λ h. absurd (omega arith) }
  scan (suc n) p a b = go (beq (κ.bit a p) (κ.bit b p)) refl (scan n (suc p) a b)
    where
      go : (t : Bool) → beq (κ.bit a p) (κ.bit b p) ≡ t → {s : ℕ} → Scan n (suc p) a b s → Scan (suc n) p a b (cond t s p)
      go true e {s} c = record {
        low = omega arith;
        high = omega arith;
        same = λ i h h'. ⊎_elim (λ g. rw (← g) (beq_true _ _ e)) (λ g. c.same i g h') (cases p i h);
        differ = λ h. c.differ (omega arith);
      }
      go false e c = record { low = omega arith; high = omega arith; same = λ i h h'. absurd (omega arith); differ = λ h. beq_false _ _ e }

  module _ (a b : K) where
    pub split_le : split κ a b ≤ κ.PLACES
    unfolding split
    split_le = omega (arith, (scan κ.PLACES 0 a b).high)

    pub split_same : (i : ℕ) → i < split κ a b → κ.bit a i ≡ κ.bit b i
    unfolding split
    split_same i h = (scan κ.PLACES 0 a b).same i (omega arith) h

    pub split_differ : split κ a b < κ.PLACES → κ.bit a (split κ a b) ≡ κ.bit b (split κ a b) → ⊥
    unfolding split
    split_differ h = (scan κ.PLACES 0 a b).differ (omega arith)

    -- keys that agree below p split at p or beyond
    pub split_beyond : (p : ℕ) → p ≤ κ.PLACES → ((i : ℕ) → i < p → κ.bit a i ≡ κ.bit b i) → p ≤ split κ a b
    split_beyond p h f = ⊎_elim (λ g. absurd (split_differ (omega arith) (f _ g))) (λ g. g) (cases_lt (split κ a b) p)

    -- and so one place further
    pub split_step : (p : ℕ) → p < κ.PLACES → p ≤ split κ a b → κ.bit a p ≡ κ.bit b p → p < split κ a b
    split_step p h g e = ⊎_elim (λ c. absurd (split_differ (omega arith) (subst (λ i. κ.bit a i ≡ κ.bit b i) c e))) (λ c. c) (cases p _ g)

    -- a place where the bits differ is not before the split
    pub split_apart : (p : ℕ) (s : Bool) → κ.bit a p ≡ s → κ.bit b p ≡ not s → split κ a b ≤ p
    split_apart p s e f = ⊎_elim (λ g. absurd (differs s (sym e ∙ split_same p g ∙ f))) (λ g. g) (cases_lt p (split κ a b))

    pub split_unlike : (p : ℕ) → (κ.bit a p ≡ κ.bit b p → ⊥) → split κ a b ≤ p
    split_unlike p e = ⊎_elim (λ g. absurd (e (split_same p g))) (λ g. g) (cases_lt p (split κ a b))

    -- keys that split nowhere are one, by the law of every kind
    pub split_whole : ((x y : K) → ((p : ℕ) → p < κ.PLACES → κ.bit x p ≡ κ.bit y p) → x ≡ y) → κ.PLACES ≤ split κ a b → a ≡ b
    split_whole law h = law a b (λ i g. split_same i (omega arith))

    -- the first difference is the split
    pub first_is_split : (p : ℕ) → FirstDifference κ a b p → split κ a b ≡ p
    first_is_split p d =
        let low : p ≤ split κ a b = split_beyond p (omega (arith, d.within)) d.agree in
        let high : split κ a b ≤ p = split_unlike p d.differ in
        omega arith

    -- and where keys split, they first differ
    pub split_is_first : split κ a b < κ.PLACES → FirstDifference κ a b (split κ a b)
    split_is_first h = record { within = h; agree = split_same; differ = split_differ h }

  pub split_refl : (a : K) → split κ a a ≡ κ.PLACES
  split_refl a = let h : κ.PLACES ≤ split κ a a = split_beyond a a κ.PLACES (omega arith) (λ i g. refl) in omega (arith, split_le a a)

  split_swap : (a b : K) → split κ a b ≤ split κ b a
  split_swap a b = split_beyond b a (split κ a b) (split_le a b) (λ i g. sym (split_same a b i g))

  pub split_sym : (a b : K) → split κ a b ≡ split κ b a
  split_sym a b = omega (arith, split_swap a b, split_swap b a)

  pub split_tri : (a b c : K) (p : ℕ) → p ≤ split κ a b → p ≤ split κ b c → p ≤ split κ a c
  split_tri a b c p h g = split_beyond a c p (omega (arith, split_le a b)) (λ i f. split_same a b i (omega arith) ∙ split_same b c i (omega arith))

  -- keys of the same bits split from others alike
  pub split_like : (a b : K) → κ.PLACES ≤ split κ a b → (x : K) → split κ a x ≡ split κ b x
  split_like a b h x = let i = split_tri b a x (split κ a x) (omega (arith, split_sym a b, split_le a x)) (omega arith) in
      let i' = split_tri a b x (split κ b x) (omega (arith, split_le b x)) (omega arith) in omega arith
