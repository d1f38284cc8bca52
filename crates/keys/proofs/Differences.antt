-- The highest bit in which two numbers differ, found by the exclusive or and its leading zeros.
use Rattle.std.proofs.Common.{◌≡◌, ℕ, zero, suc, ◌+◌, ◌-◌, ◌/◌, ◌%◌, ◌^◌, ◌<◌, ◌≤◌, eqb, sym, refl, ap, ◌∙◌, ⊎_elim, pow-suc, arith, pow_pos, pow_mono}
use lib.Bits.{bit_xor, xor_shr, xor_mod, xor_lt, xor_self, xor_assoc, xor_zero_l, xor_zero_r}
use lib.Count.{count_leading_zeros, leading_top}
use Rattle.std.proofs.lemmas.Nat.{div_below, le-div}
use Rattle.std.proofs.lemmas.Bool.{cases_lt}
use Rattle.keys.specs.Bits.{digit, binary}
use Rattle.keys.specs.Model.{KeyModel, FirstDifference}
use Rattle.keys.specs.Binary.{binary_lt, digit_binary}

-- bit i of an exclusive or is the exclusive or of the bits
xor_bit : (x y i : ℕ) → bit_xor x y / 2 ^ i % 2 ≡ bit_xor (x / 2 ^ i % 2) (y / 2 ^ i % 2)
xor_bit x y i = ap (λ (z : ℕ). z % 2) (xor_shr x y i) ∙ xor_mod (x / 2 ^ i) (y / 2 ^ i) 1

bits_alike : (m n : ℕ) → m < 2 → n < 2 → bit_xor m n ≡ 0 → m ≡ n
bits_alike zero zero h g e = refl
bits_alike zero (suc zero) h g e = sym e
bits_alike (suc zero) zero h g e = e
bits_alike (suc zero) (suc zero) h g e = refl
bits_alike (suc (suc m)) n h g e = absurd (omega arith)
bits_alike zero (suc (suc n)) h g e = absurd (omega arith)
bits_alike (suc zero) (suc (suc n)) h g e = absurd (omega arith)

bits_unlike : (m n : ℕ) → m < 2 → n < 2 → bit_xor m n ≡ 1 → eqb m 1 ≡ eqb n 1 → ⊥
bits_unlike zero zero h g e f = omega arith
bits_unlike zero (suc zero) h g e f = let z : ◌≡◌ {A = ℕ} 0 1 = cc in omega arith
bits_unlike (suc zero) zero h g e f = let z : ◌≡◌ {A = ℕ} 0 1 = cc in omega arith
bits_unlike (suc zero) (suc zero) h g e f = omega arith
bits_unlike (suc (suc m)) n h g e f = absurd (omega arith)
bits_unlike zero (suc (suc n)) h g e f = absurd (omega arith)
bits_unlike (suc zero) (suc (suc n)) h g e f = absurd (omega arith)

-- numbers whose exclusive or is 0 are one
pub xor_same : (x y : ℕ) → bit_xor x y ≡ 0 → x ≡ y
xor_same x y e =
    sym (xor_zero_r x) ∙ ap (bit_xor x) (sym e) ∙ sym (xor_assoc x x y) ∙ ap (λ (z : ℕ). bit_xor z y) (xor_self x) ∙ xor_zero_l y

module _ (x y j : ℕ) (low : 2 ^ j ≤ bit_xor x y) (high : bit_xor x y < 2 ^ suc j) where
  -- above bit j the numbers agree
  digits_agree : (i : ℕ) → j < i → digit x i ≡ digit y i
  digits_agree i h =
      let none : bit_xor x y / 2 ^ i % 2 ≡ 0 = omega (arith, div_below (bit_xor x y) (2 ^ i) 1 (pow_pos i) (omega (arith, pow_mono h))) in
      ap (λ (z : ℕ). eqb z 1)
      (bits_alike (x / 2 ^ i % 2) (y / 2 ^ i % 2) (omega arith) (omega arith) (sym (xor_bit x y i) ∙ none))

  -- at bit j they differ
  digits_differ : digit x j ≡ digit y j → ⊥
  digits_differ =
      let one : bit_xor x y / 2 ^ j % 2 ≡ 1 =
      omega (arith, div_below (bit_xor x y) (2 ^ j) 2 (pow_pos j) (omega (arith, pow-suc 2 j)), le-div 1 (bit_xor x y) (2 ^ j) (pow_pos j) (omega arith)) in
      bits_unlike (x / 2 ^ j % 2) (y / 2 ^ j % 2) (omega arith) (omega arith) (sym (xor_bit x y j) ∙ one)

exponent_below : (j w z : ℕ) → 2 ^ j ≤ z → z < 2 ^ w → j < w
exponent_below j w z low high =
    ⊎_elim (λ h. h) (λ h. absurd (omega (arith, pow_mono h))) (cases_lt j w)

-- the idle places are among the leading zeros, and the first of the other places is the first difference
pub record Led {K : Type 0} (κ : KeyModel K) (a b : K) (zeros : ℕ) : Type 0 where
  pub idle : 64 - κ.PLACES ≤ zeros
  pub first : FirstDifference κ a b (zeros - (64 - κ.PLACES))

module _ {K : Type 0} (κ : KeyModel K) (a b : K) (x y : ℕ) (ex : x ≡ binary κ.PLACES (κ.bit a)) (ey : y ≡ binary κ.PLACES (κ.bit b))
    (wide : κ.PLACES ≤ 64) (some : 0 < bit_xor x y) where
  -- the exclusive or has no bit above the places
  fits_places : bit_xor x y < 2 ^ κ.PLACES
  fits_places =
      xor_lt κ.PLACES x y (omega (arith, binary_lt κ.PLACES (κ.bit a))) (omega (arith, binary_lt κ.PLACES (κ.bit b)))

  led_by : (zeros j : ℕ) → zeros + suc j ≡ 64 → 2 ^ j ≤ bit_xor x y → bit_xor x y < 2 ^ suc j → Led κ a b zeros
  led_by zeros j e low high = record {
    idle = omega (arith, below);
    first = record {
      within = omega (arith, below);
      agree = λ q h. bit_is a x ex q (omega (arith, below)) ∙ digits_agree x y j low high (κ.PLACES - suc q) (omega (arith, below))
          ∙ sym (bit_is b y ey q (omega (arith, below)));
      differ = λ same. digits_differ x y j low high (sym (at a x ex) ∙ same ∙ at b y ey);
    };
  } where
    below : j < κ.PLACES
    below = exponent_below j κ.PLACES (bit_xor x y) low fits_places

    bit_is : (k : K) (n : ℕ) → n ≡ binary κ.PLACES (κ.bit k) → (q : ℕ) → q < κ.PLACES → κ.bit k q ≡ digit n (κ.PLACES - suc q)
    bit_is k n e q h = sym (ap (λ (m : ℕ). digit m (κ.PLACES - suc q)) e ∙ digit_binary κ.PLACES (κ.bit k) q h)

    at : (k : K) (n : ℕ) → n ≡ binary κ.PLACES (κ.bit k) → κ.bit k (zeros - (64 - κ.PLACES)) ≡ digit n j
    at k n f =
        let p : zeros - (64 - κ.PLACES) < κ.PLACES = omega (arith, below) in
        let back : κ.PLACES - suc (zeros - (64 - κ.PLACES)) ≡ j = omega (arith, below) in
        bit_is k n f (zeros - (64 - κ.PLACES)) p ∙ ap (digit n) back

  pub led : Led κ a b (count_leading_zeros 64 (bit_xor x y))
  led =
      let top = leading_top 64 (bit_xor x y) some (omega (arith, fits_places, pow_mono wide)) in
      led_by (count_leading_zeros 64 (bit_xor x y)) top.0 top.1 top.2 top.3
