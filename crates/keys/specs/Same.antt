-- Keys with the same numbers are the same.
use Rattle.std.specs.Prelude.{◌≡◌, ℕ, ◌^◌, ◌<◌}
use Rattle.std.proofs.Common.{ap, subst, ◌∙◌}
use Rattle.std.proofs.Math.Bridge.{le_prop}
use Rattle.keys.specs.declared.values.Word.{Word}
use Rattle.keys.specs.declared.values.Cell.{Cell}

pub word_same : (a b : Word) → a.light ≡ b.light → a ≡ b
word_same a b e = subst P e (λ q. ap of (le_prop a.fits q)) b.fits where
  of : {n : ℕ} → n < 2 ^ 32 → Word
  of {n} q = record { light = n; fits = q }

  P : ℕ → Type 0
  P n = (q : n < 2 ^ 32) → a ≡ of q

pub cell_same : (a b : Cell) → a.row ≡ b.row → a.column ≡ b.column → a ≡ b
cell_same a b e f = by_row b.row e b.fits.0 where
  of : {m n : ℕ} → m < 2 ^ 16 → n < 2 ^ 16 → Cell
  of {m} {n} p q = record { row = m; column = n; fits = (p, q) }

  by_column : (n : ℕ) → a.column ≡ n → (q : n < 2 ^ 16) → a ≡ of a.fits.0 q
  by_column n e = subst (λ (n : ℕ). (q : n < 2 ^ 16) → a ≡ of a.fits.0 q) e (λ q. ap (of a.fits.0) (le_prop a.fits.1 q))

  by_row : (m : ℕ) → a.row ≡ m → (p : m < 2 ^ 16) → a ≡ of p b.fits.1
  by_row m e = subst (λ (m : ℕ). (p : m < 2 ^ 16) → a ≡ of p b.fits.1) e
      (λ p. by_column b.column f b.fits.1 ∙ ap (λ (x : a.row < 2 ^ 16). of x b.fits.1) (le_prop a.fits.0 p))
