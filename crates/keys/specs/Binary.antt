-- What the bits of a number say of it: a number and its bits in a given width are the same thing.
use Rattle.std.specs.Prelude.{◌≡◌, ℕ, zero, suc, ◌+◌, ◌-◌, ◌*◌, ◌/◌, ◌%◌, ◌^◌, ◌<◌, ◌≤◌, Bool, true, false, cond, ◌==◌, nat_eq, nat_lt, refl}
use Rattle.std.proofs.Common.{sym, ap, ap₂, ◌∙◌, pow-suc, div-one, one-add, add-one, arith, shr-shr, pow_mono, ltb-true, ltb-false, lt-ltb, eq-eqb, ne_eqb}
use mir.Val.{bool_byte}
use Rattle.keys.specs.Bits.{digit, bits_of, binary}

-- the weight of a bit, and of a digit
pub weight_le : (b : Bool) → cond b 1 0 ≤ 1
weight_le true = omega arith
weight_le false = omega arith

weight_of : (m : ℕ) → m < 2 → cond (m == 1) 1 0 ≡ m
weight_of zero h = refl
weight_of (suc zero) h = refl
weight_of (suc (suc m)) h = absurd (omega arith)

pub digit_weight : (n k : ℕ) → cond (digit n k) 1 0 ≡ n / 2 ^ k % 2
digit_weight n k = weight_of (n / 2 ^ k % 2) (omega arith)

digit_half : (n k : ℕ) → digit n (suc k) ≡ digit (n / 2) k
digit_half n k = ap (λ (x : ℕ). nat_eq (x % 2) 1) (ap (λ (j : ℕ). n / 2 ^ j) (sym (one-add k)) ∙ sym (shr-shr n 1 k))

digit_low : (r : ℕ) (b : Bool) → digit (r * 2 + cond b 1 0) 0 ≡ b
digit_low r true = eq-eqb ((r * 2 + 1) / 1 % 2) 1 (rw div-one (omega arith))
digit_low r false = ne_eqb ((r * 2 + 0) / 1 % 2) 1 (rw div-one (λ e. omega arith))

pub binary_lt : (k : ℕ) (f : ℕ → Bool) → binary k f < 2 ^ k
unfolding binary
binary_lt zero f = omega arith
binary_lt (suc k) f = omega (arith, pow-suc 2 k, binary_lt k f, weight_le (f k))

pub binary_below : (k j : ℕ) (f : ℕ → Bool) → k ≤ j → binary k f < 2 ^ j
binary_below k j f h = omega (arith, binary_lt k f, pow_mono h)

pub binary_ext : (k : ℕ) (f g : ℕ → Bool) → ((p : ℕ) → p < k → f p ≡ g p) → binary k f ≡ binary k g
unfolding binary
binary_ext zero f g h = refl
binary_ext (suc k) f g h =
    ap₂ (λ (n : ℕ) (b : Bool). n * 2 + cond b 1 0) (binary_ext k f g (λ p l. h p (omega arith))) (h k (omega arith))

-- a number is what its digits write
pub binary_digits : (k n : ℕ) → n < 2 ^ k → binary k (λ p. digit n (k - suc p)) ≡ n
unfolding binary
binary_digits zero n h = omega arith
binary_digits (suc k) n h =
    let half : n / 2 < 2 ^ k = omega (arith, pow-suc 2 k) in
    let upper : binary k (λ p. digit n (suc k - suc p)) ≡ n / 2 =
    binary_ext k (λ p. digit n (suc k - suc p)) (λ p. digit (n / 2) (k - suc p))
    (λ p l. let e : suc k - suc p ≡ suc (k - suc p) = omega arith in ap (digit n) e ∙ digit_half n (k - suc p))
    ∙ binary_digits k (n / 2) half in
    let z : suc k - suc k ≡ 0 = omega arith in
    let lower : cond (digit n (suc k - suc k)) 1 0 ≡ n % 2 =
    ap (λ (j : ℕ). cond (digit n j) 1 0) z ∙ digit_weight n 0 ∙ ap (λ (x : ℕ). x % 2) (div-one n) in
    omega arith

-- the digits of what bits write are the bits
pub digit_binary : (k : ℕ) (f : ℕ → Bool) (p : ℕ) → p < k → digit (binary k f) (k - suc p) ≡ f p
unfolding binary
digit_binary zero f p h = absurd (omega arith)
digit_binary (suc k) f p h = go (nat_lt p k) refl (digit_binary k f p) where
  go : (b : Bool) → nat_lt p k ≡ b → (p < k → digit (binary k f) (k - suc p) ≡ f p) → digit (binary (suc k) f) (suc k - suc p) ≡ f p
  go true e ih =
      let l : p < k = ltb-true p k e in
      let s : suc k - suc p ≡ suc (k - suc p) = omega arith in
      let half : binary (suc k) f / 2 ≡ binary k f = omega (arith, weight_le (f k)) in
      ap (digit (binary (suc k) f)) s ∙ digit_half (binary (suc k) f) (k - suc p) ∙ ap (λ (n : ℕ). digit n (k - suc p)) half ∙ ih l
  go false e ih =
      let same : k ≡ p = omega (arith, ltb-false p k e) in
      let z : suc k - suc p ≡ 0 = omega arith in
      ap (digit (binary (suc k) f)) z ∙ digit_low (binary k f) (f k) ∙ ap f same

-- bits that write one number are the same
pub binary_same : (k : ℕ) (f g : ℕ → Bool) → binary k f ≡ binary k g → (p : ℕ) → p < k → f p ≡ g p
binary_same k f g e p h = sym (digit_binary k f p h) ∙ ap (λ (n : ℕ). digit n (k - suc p)) e ∙ digit_binary k g p h

-- the start of a loop that reads bits, one turn of it, and the room that it has
pub binary_none : (f : ℕ → Bool) → 0 ≡ binary 0 f
unfolding binary
binary_none f = refl

pub binary_next : (r i b : ℕ) (f : ℕ → Bool) → r ≡ binary i f → b ≡ cond (f i) 1 0 → r * 2 + b ≡ binary (i + 1) f
unfolding binary
binary_next r i b f e h = ap₂ (λ (x y : ℕ). x * 2 + y) e h ∙ ap (λ (k : ℕ). binary k f) (sym (add-one i))

pub binary_room : (r i j : ℕ) (f : ℕ → Bool) → r ≡ binary i f → i ≤ j → r < 2 ^ j
binary_room r i j f e h = omega (arith, binary_below i j f h)

pub byte_weight : (b : Bool) → bool_byte b ≡ cond b 1 0
byte_weight true = refl
byte_weight false = refl

pub byte_le : (b : Bool) → bool_byte b ≤ 1
byte_le true = omega arith
byte_le false = omega arith

-- the bits of a number in a width that holds it write that number again
pub inside : (w p : ℕ) (b : Bool) → p < w → cond (nat_lt p w) b false ≡ b
inside w p b h = ap (λ (t : Bool). cond t b false) (lt-ltb p w h)

pub binary_bits_of : (w n : ℕ) → n < 2 ^ w → binary w (bits_of w n) ≡ n
binary_bits_of w n small =
    binary_ext w (bits_of w n) (λ p. digit n (w - suc p))
    (λ p h. let e : w - 1 - p ≡ w - suc p = omega arith in inside w p (digit n (w - 1 - p)) h ∙ ap (digit n) e)
    ∙ binary_digits w n small
