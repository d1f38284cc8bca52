-- The order of keys by number is the order by the first bit in which they differ.
use Rattle.std.proofs.Common.{◌≡◌, ℕ, zero, suc, ◌<◌, ◌≤◌, Bool, true, false, sym, refl, ◌∙◌, subst, ⊎_elim, arith}
use Rattle.std.proofs.lemmas.Bool.{cases_lt}
use Rattle.keys.specs.Bits.{binary}
use Rattle.keys.specs.Model.{KeyModel, Precedes, FirstDifference, LeftOf, OrderedByFirstDifference}
use Rattle.keys.specs.Split.{split}
use Rattle.keys.specs.Binary.{binary_ext, weight_le}
use Rattle.keys.proofs.Splits.{split_same, split_is_first}

-- what is smaller in its first m bits is smaller in more of them
binary_less : (f g : ℕ → Bool) (n m : ℕ) → m ≤ n → binary m f < binary m g → binary n f < binary n g
unfolding binary
binary_less f g zero m h l = let e : m ≡ 0 = omega arith in subst (λ (i : ℕ). binary i f < binary i g) e l
binary_less f g (suc n) m h l = ⊎_elim
    (λ i. let e : binary n f < binary n g = binary_less f g n m (omega arith) l in omega (arith, weight_le (f n)))
    (λ i. let e : m ≡ suc n = omega arith in subst (λ (i : ℕ). binary i f < binary i g) e l)
    (cases_lt m (suc n))

one_more : (f g : ℕ → Bool) (p : ℕ) → ((q : ℕ) → q < p → f q ≡ g q) → f p ≡ false → g p ≡ true → binary (suc p) f < binary (suc p) g
unfolding binary
one_more f g p same e h = rw (e, h) (omega (arith, binary_ext p f g same))

unlike : (x y : Bool) → (x ≡ y → ⊥) → x ≡ false → y ≡ true
unlike x true ne e = refl
unlike x false ne e = absurd (ne e)

module _ {K : Type 0} (κ : KeyModel K) (a b : K) where
  pub number_less : LeftOf κ a b → Precedes κ a b
  number_less (p, d, e) =
      binary_less (κ.bit a) (κ.bit b) κ.PLACES (suc p) d.within
      (one_more (κ.bit a) (κ.bit b) p d.agree e (unlike (κ.bit a p) (κ.bit b p) d.differ e))

module _ {K : Type 0} (κ : KeyModel K) (a b : K) where
  -- the way of the first difference decides
  pub left_of : Precedes κ a b → LeftOf κ a b
  left_of h = ⊎_elim differ same (cases_lt (split κ a b) κ.PLACES) where
    same : κ.PLACES ≤ split κ a b → LeftOf κ a b
    same l = absurd (omega (arith, binary_ext κ.PLACES (κ.bit a) (κ.bit b) (λ q i. split_same κ a b q (omega arith))))

    differ : split κ a b < κ.PLACES → LeftOf κ a b
    differ l = side (κ.bit a (split κ a b)) refl where
      d : FirstDifference κ a b (split κ a b)
      d = split_is_first κ a b l

      turned : FirstDifference κ b a (split κ a b)
      turned = record { within = d.within; agree = λ q i. sym (d.agree q i); differ = λ e. d.differ (sym e) }

      side : (x : Bool) → κ.bit a (split κ a b) ≡ x → LeftOf κ a b
      side false e = (split κ a b, d, e)
      side true e = absurd (omega (arith, number_less κ b a (split κ a b, turned, other (κ.bit b (split κ a b)) refl))) where
        other : (y : Bool) → κ.bit b (split κ a b) ≡ y → κ.bit b (split κ a b) ≡ false
        other true f = absurd (d.differ (e ∙ sym f))
        other false f = f

  pub ordered : OrderedByFirstDifference κ a b
  ordered = (left_of, number_less κ a b)
