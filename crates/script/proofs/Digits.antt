-- Numbers, digit by digit, and whether they are below a limit.
use Rattle.std.proofs.Common.{◌≡◌, ℕ, ◌+◌, ◌-◌, ◌*◌, ◌<◌, ◌≤◌, Bool, true, false, cond, ◌&&◌, leb, List, [], ◌∷◌, length, get_or, drop, Some, None, inl, inr, refl, ◌∙◌, arith}
use native.Mathlib.Bridge.{le_prop}
use native.Mathlib.Decide.{dec_lt}
use Rattle.std.specs.Char.{IsDigitOf, NotDecimalDigitIn}
use Rattle.std.proofs.lemmas.Bool.{and_from, le-leb, leb-true}
use Rattle.std.proofs.lemmas.List.{at_drop_more, at_drop_all}
use Rattle.script.specs.Numerals.{digit, numeral, tested, below}

-- a byte is a digit exactly where it has a value below 10, which is how far it stands behind `0`
digit_yes : (b d : ℕ) → IsDigitOf b d → d < 10 → (digit b ≡ true) × (d ≡ b - 48)
digit_yes b d (inl h) small = (and_from _ _ (le-leb 48 b (omega arith)) (le-leb b 57 (omega arith)), omega arith)
digit_yes b d (inr (inl h)) small = absurd (omega arith)
digit_yes b d (inr (inr h)) small = absurd (omega arith)

digit_no : (b : ℕ) → NotDecimalDigitIn 10 b → digit b ≡ false
digit_no b h = go (leb 48 b) (leb b 57) (leb-true 48 b) (leb-true b 57)
  where
    go : (t u : Bool) → (t ≡ true → 48 ≤ b) → (u ≡ true → b ≤ 57) → (t && u) ≡ false
    go true true low high =
        let past : 58 ≤ b = h (low refl) (high refl) in
        let upto : b ≤ 57 = high refl in
        absurd (omega arith)
    go true false low high = refl
    go false u low high = refl

module _ (n : ℕ) (word : List ℕ) (i : ℕ) where
  pub numeral_more : (d : ℕ) → i < length word → IsDigitOf (get_or word i 0) d → d < 10 → numeral n (drop i word) ≡ numeral (n * 10 + d) (drop (i + 1) word)
  unfolding numeral
  numeral_more d h told small =
      let yes = digit_yes (get_or word i 0) d told small in
      at_drop_more (numeral n) word i 0 h ∙ rw (yes.0, ← yes.1)

  pub numeral_other : i < length word → NotDecimalDigitIn 10 (get_or word i 0) → numeral n (drop i word) ≡ None
  unfolding numeral
  numeral_other h told = at_drop_more (numeral n) word i 0 h ∙ rw (digit_no (get_or word i 0) told)

  pub numeral_past : length word ≤ i → numeral n (drop i word) ≡ Some n
  unfolding numeral
  numeral_past h = at_drop_all (numeral n) word i h

-- a number that fits
pub below_fits : (limit n : ℕ) (h : n < limit) → below limit (Some n) ≡ Some (record { value = n; fits = h })
unfolding below
below_fits limit n h = go (dec_lt n limit)
  where
    go : (d : Dec (n < limit)) → tested d ≡ Some (record { value = n; fits = h })
    go (yes p) = λ i. Some (record { value = n; fits = le_prop p h i })
    go (no p) = absurd (p h)

-- a number that does not, whatever digits follow
pub below_over : (limit n : ℕ) (bs : List ℕ) → limit ≤ n → below limit (numeral n bs) ≡ None
unfolding below numeral
below_over limit n [] h = go (dec_lt n limit)
  where
    go : (d : Dec (n < limit)) → tested d ≡ None
    go (yes p) = absurd (omega arith)
    go (no p) = refl
below_over limit n (b ∷ bs) h = go (digit b) (below_over limit (n * 10 + (b - 48)) bs (omega arith))
  where
    go : (t : Bool) → below limit (numeral (n * 10 + (b - 48)) bs) ≡ None → below limit (cond t (numeral (n * 10 + (b - 48)) bs) None) ≡ None
    go true e = e
    go false e = refl
