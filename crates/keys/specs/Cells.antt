-- The bits of words and cells, and the numbers that they write.
use Rattle.std.specs.Prelude.{◌≡◌, ℕ, suc, ◌+◌, ◌-◌, ◌*◌, ◌/◌, ◌%◌, ◌^◌, ◌<◌, Bool, true, false, cond, ◌==◌, refl}
use Rattle.std.proofs.Common.{sym, ap, ◌∙◌, arith, eq-eqb, ne_eqb, eqb-true}
use Rattle.std.proofs.lemmas.Bool.{eqb-false}
use Rattle.keys.specs.declared.values.Word.{Word}
use Rattle.keys.specs.declared.values.Cell.{Cell}
use Rattle.keys.specs.Bits.{digit, binary}
use Rattle.keys.specs.Kinds.{every_second_bit, interleaved, word_bit, cell_bit}
use Rattle.keys.specs.Binary.{inside, binary_ext, binary_digits, binary_bits_of, digit_binary}
use Rattle.keys.specs.Same.{word_same, cell_same}

pub words_same : (a b : Word) → ((p : ℕ) → p < 32 → word_bit a p ≡ word_bit b p) → a ≡ b
words_same a b h =
    word_same a b (sym (binary_bits_of 32 a.light a.fits) ∙ binary_ext 32 (word_bit a) (word_bit b) h ∙ binary_bits_of 32 b.light b.fits)

-- the two halves of woven bits
module _ (m n : ℕ) where
  row_bit : (i : ℕ) → i < 16 → interleaved m n (2 * i) ≡ digit m (16 - suc i)
  row_bit i h =
      let even : (2 * i) % 2 ≡ 0 = omega arith in
      let at : 15 - (2 * i) / 2 ≡ 16 - suc i = omega arith in
      inside 32 (2 * i) _ (omega arith)
      ∙ ap (λ (t : Bool). cond t (digit m (15 - (2 * i) / 2)) (digit n (15 - (2 * i) / 2))) (eq-eqb ((2 * i) % 2) 0 even) ∙ ap (digit m) at

  column_bit : (i : ℕ) → i < 16 → interleaved m n (2 * i + 1) ≡ digit n (16 - suc i)
  column_bit i h =
      let at : 15 - (2 * i + 1) / 2 ≡ 16 - suc i = omega arith in
      inside 32 (2 * i + 1) _ (omega arith)
      ∙ ap (λ (t : Bool). cond t (digit m (15 - (2 * i + 1) / 2)) (digit n (15 - (2 * i + 1) / 2))) (ne_eqb ((2 * i + 1) % 2) 0 (λ e. omega arith)) ∙ ap (digit n) at

pub cells_same : (a b : Cell) → ((p : ℕ) → p < 32 → cell_bit a p ≡ cell_bit b p) → a ≡ b
cells_same a b h =
    cell_same a b
    (sym (binary_digits 16 a.row a.fits.0)
    ∙ binary_ext 16 (λ i. digit a.row (16 - suc i)) (λ i. digit b.row (16 - suc i))
    (λ i l. sym (row_bit a.row a.column i l) ∙ h (2 * i) (omega arith) ∙ row_bit b.row b.column i l)
    ∙ binary_digits 16 b.row b.fits.0)
    (sym (binary_digits 16 a.column a.fits.1)
    ∙ binary_ext 16 (λ i. digit a.column (16 - suc i)) (λ i. digit b.column (16 - suc i))
    (λ i l. sym (column_bit a.row a.column i l) ∙ h (2 * i + 1) (omega arith) ∙ column_bit b.row b.column i l)
    ∙ binary_digits 16 b.column b.fits.1)

-- the row and the column that are gathered from the bits of n, woven again
pub gathered : (n row column : ℕ) → n < 2 ^ 32
    → row ≡ every_second_bit n 31 → column ≡ every_second_bit n 30
    → binary 32 (interleaved row column) ≡ n
unfolding every_second_bit
gathered n row column small r k = binary_ext 32 (interleaved row column) (λ p. digit n (32 - suc p)) bits ∙ binary_digits 32 n small where
  bits : (p : ℕ) → p < 32 → interleaved row column p ≡ digit n (32 - suc p)
  bits p h = go (p % 2 == 0) refl where
    go : (t : Bool) → (p % 2 == 0) ≡ t → interleaved row column p ≡ digit n (32 - suc p)
    go true e =
        let z : p % 2 ≡ 0 = eqb-true (p % 2) 0 e in
        let l : p / 2 < 16 = omega arith in
        let d : p ≡ 2 * (p / 2) = omega arith in
        let at : 31 - 2 * (p / 2) ≡ 32 - suc p = omega arith in
        ap (interleaved row column) d ∙ row_bit row column (p / 2) l ∙ ap (λ (x : ℕ). digit x (16 - suc (p / 2))) r
        ∙ digit_binary 16 (λ i. digit n (31 - 2 * i)) (p / 2) l ∙ ap (digit n) at
    go false e =
        let z : p % 2 ≡ 1 = omega (arith, eqb-false (p % 2) 0 e) in
        let l : p / 2 < 16 = omega arith in
        let d : p ≡ 2 * (p / 2) + 1 = omega arith in
        let at : 30 - 2 * (p / 2) ≡ 32 - suc p = omega arith in
        ap (interleaved row column) d ∙ column_bit row column (p / 2) l ∙ ap (λ (x : ℕ). digit x (16 - suc (p / 2))) k
        ∙ digit_binary 16 (λ i. digit n (30 - 2 * i)) (p / 2) l ∙ ap (digit n) at
