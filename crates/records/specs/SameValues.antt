-- Values with the same numbers are the same: the fact in a ghost field has one proof.
use Rattle.std.specs.Prelude.{◌≡◌, ℕ, ◌^◌, ◌<◌}
use Rattle.std.proofs.Common.{ap, subst, ◌∙◌}
use Rattle.std.proofs.Math.Bridge.{le_prop}
use Rattle.records.specs.declared.values.Hours.{Hours}
use Rattle.records.specs.declared.values.Tags.{Tags}
use Rattle.records.specs.declared.values.Setting.{Setting}

pub hours_same : (a b : Hours) → a.count ≡ b.count → a ≡ b
hours_same a b e = subst P e (λ q. ap of (le_prop a.fits q)) b.fits where
  of : {n : ℕ} → n < 2 ^ 32 → Hours
  of {n} q = record { count = n; fits = q }

  P : ℕ → Type 0
  P n = (q : n < 2 ^ 32) → a ≡ of q

pub tags_same : (a b : Tags) → a.bits ≡ b.bits → a ≡ b
tags_same a b e = subst P e (λ q. ap of (le_prop a.fits q)) b.fits where
  of : {n : ℕ} → n < 2 ^ 16 → Tags
  of {n} q = record { bits = n; fits = q }

  P : ℕ → Type 0
  P n = (q : n < 2 ^ 16) → a ≡ of q

pub setting_same : (a b : Setting) → a.stamp ≡ b.stamp → a.source ≡ b.source → a.word ≡ b.word → a ≡ b
setting_same a b e f g = by_stamp b.stamp e b.fits.0 where
  of : {l m n : ℕ} → l < 2 ^ 32 → m < 2 ^ 16 → n < 2 ^ 16 → Setting
  of {l} {m} {n} p q r = record { stamp = l; source = m; word = n; fits = (p, q, r) }

  by_word : (n : ℕ) → a.word ≡ n → (r : n < 2 ^ 16) → a ≡ of a.fits.0 a.fits.1 r
  by_word n e = subst (λ (n : ℕ). (r : n < 2 ^ 16) → a ≡ of a.fits.0 a.fits.1 r) e (λ r. ap (of a.fits.0 a.fits.1) (le_prop a.fits.2 r))

  by_source : (m : ℕ) → a.source ≡ m → (q : m < 2 ^ 16) → a ≡ of a.fits.0 q b.fits.2
  by_source m e = subst (λ (m : ℕ). (q : m < 2 ^ 16) → a ≡ of a.fits.0 q b.fits.2) e
      (λ q. by_word b.word g b.fits.2 ∙ ap (λ (y : a.source < 2 ^ 16). of a.fits.0 y b.fits.2) (le_prop a.fits.1 q))

  by_stamp : (l : ℕ) → a.stamp ≡ l → (p : l < 2 ^ 32) → a ≡ of p b.fits.1 b.fits.2
  by_stamp l e = subst (λ (l : ℕ). (p : l < 2 ^ 32) → a ≡ of p b.fits.1 b.fits.2) e
      (λ p. by_source b.source f b.fits.1 ∙ ap (λ (x : a.stamp < 2 ^ 32). of x b.fits.1 b.fits.2) (le_prop a.fits.0 p))
