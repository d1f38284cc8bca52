-- From a number that was read to the field that it is a part of.
use Rattle.std.proofs.Common.{◌≡◌, ℕ, ◌^◌, ◌<◌, ◌≤◌, List, [], ◌∷◌, Ok, Err, Some, None, Option, Result, OkIff, sym, refl, ap, ◌∙◌, subst, arith}
use native.Mathlib.Bridge.{le_prop}
use native.Mathlib.Decide.{dec_lt}
use Rattle.std.specs.Result.{result_ok}
use Rattle.script.specs.Numerals.{Below, numeral, tested, below, plain}
use Rattle.script.specs.Readings.{return, following, given, number, value, Converted}
use Rattle.script.specs.Values.{key, lamp}
use Rattle.script.proofs.Digits.{below_fits, below_over}

-- two numbers below a limit are the same where their values are
below_same : {limit : ℕ} (a : Below limit) (n : ℕ) (h : n < limit) → a.value ≡ n → a ≡ record { value = n; fits = h }
below_same {limit} a n h e = subst P e (λ q. ap of (le_prop a.fits q)) h
  where
    of : {m : ℕ} → m < limit → Below limit
    of {m} q = record { value = m; fits = q }

    P : ℕ → Type 0
    P m = (q : m < limit) → a ≡ of q

-- what is read of a word is the number that it spells
pub value_of : (limit : ℕ) (w : List ℕ) (ws : List (List ℕ)) → value limit (w ∷ ws) ≡ given (plain (below limit (numeral 0 w))) ws
unfolding value number
value_of limit w ws = go (below limit (numeral 0 w))
  where
    go : (o : Option (Below limit)) → following (given o ws) (λ n. return n.value) ≡ given (plain o) ws
    go None = refl
    go (Some n) = refl

pub value_taken : (limit : ℕ) (ws : List (List ℕ)) (w : List ℕ) (rest : List (List ℕ)) (o : Option ℕ) → ws ≡ w ∷ rest → o ≡ plain (below limit (numeral 0 w)) → value limit ws ≡ given o rest
value_taken limit ws w rest o e h = rw (e, h) (value_of limit w rest)

pub value_none : (limit : ℕ) → value limit [] ≡ None
unfolding value number
value_none limit = refl

-- a number that was converted to a type with room below a limit is a number below that limit
module _ (E : Type 0) (limit : ℕ) (small : limit ≤ 2 ^ 32) where
  abbrev Room : ℕ → Result ℕ E → Type 0
  Room n t = OkIff t (n < limit) n

  narrowed : (n : ℕ) (t : Result ℕ E) → Room n t → plain (below limit (Some n)) ≡ result_ok t
  unfolding numeral
  narrowed n (Ok x) h = rw (below_fits limit n h.0) (ap (λ (m : ℕ). Some m) (sym h.1))
  narrowed n (Err e) h = ap plain (below_over limit n [] (omega (arith, h)))

  converted : (ws : List (List ℕ)) (read : Option (ℕ × List (List ℕ))) (o : Option ℕ) → Converted Room (given (plain (below (2 ^ 32) o)) ws) read → given (plain (below limit o)) ws ≡ read
  unfolding below numeral
  converted ws read None h = sym h
  converted ws read (Some n) h = held (dec_lt n (2 ^ 32)) h
    where
      held : (d : Dec (n < 2 ^ 32)) → Converted Room (given (plain (tested d)) ws) read → given (plain (below limit (Some n))) ws ≡ read
      held (yes q) h = ap (λ o. given o ws) (narrowed n h.0 h.1) ∙ h.2
      held (no q) h = ap (λ o. given (plain o) ws) (below_over limit n [] (omega (arith, q))) ∙ sym h

  pub value_read : (ws : List (List ℕ)) (read : Option (ℕ × List (List ℕ))) → Converted Room (value (2 ^ 32) ws) read → value limit ws ≡ read
  value_read [] read h = value_none limit ∙ sym (rw (value_none (2 ^ 32)) at h)
  value_read (w ∷ ws) read h = value_of limit w ws ∙ converted ws read (numeral 0 w) (rw (value_of (2 ^ 32) w ws) at h)

module _ (limit : ℕ) (ws : List (List ℕ)) where
  pub number_none : value limit ws ≡ None → number limit ws ≡ None
  unfolding value
  number_none = go (number limit ws)
    where
      go : (o : Option (Below limit × List (List ℕ))) → following o (λ n. return n.value) ≡ None → o ≡ None
      go None e = refl
      go (Some x) e = let z : ◌≡◌ {A = ℕ} 0 1 = cc in absurd (omega arith)

  module _ (n : ℕ) (rest : List (List ℕ)) where
    pub number_at : value limit ws ≡ Some (n, rest) → (h : n < limit) → number limit ws ≡ Some (record { value = n; fits = h }, rest)
    unfolding value
    number_at e h = go (number limit ws) e
      where
        go : (o : Option (Below limit × List (List ℕ))) → following o (λ m. return m.value) ≡ Some (n, rest) → o ≡ Some (record { value = n; fits = h }, rest)
        go None e = let z : ◌≡◌ {A = ℕ} 0 1 = cc in absurd (omega arith)
        go (Some x) e =
            let both : ◌≡◌ {A = ℕ × List (List ℕ)} (x.0.value, x.1) (n, rest) = cc in
            λ i. Some (below_same x.0 n h (ap (λ p. p.0) both) i, (both i).1)

    pub number_fits : value limit ws ≡ Some (n, rest) → n < limit
    unfolding value
    number_fits = go (number limit ws)
      where
        go : (o : Option (Below limit × List (List ℕ))) → following o (λ m. return m.value) ≡ Some (n, rest) → n < limit
        go None e = let z : ◌≡◌ {A = ℕ} 0 1 = cc in absurd (omega arith)
        go (Some x) e =
            let both : ◌≡◌ {A = ℕ × List (List ℕ)} (x.0.value, x.1) (n, rest) = cc in
            subst (λ m. m < limit) (ap (λ p. p.0) both) x.0.fits

    -- a number that was read, as the reading after it wants it
    pub number_read : (e : value limit ws ≡ Some (n, rest)) → number limit ws ≡ Some (record { value = n; fits = number_fits e }, rest)
    number_read e = number_at e (number_fits e)

pub key_read : (ws : List (List ℕ)) (n : ℕ) (rest : List (List ℕ)) → value (2 ^ 32) ws ≡ Some (n, rest) → (h : n < 2 ^ 32) → key ws ≡ Some (record { light = n; fits = h }, rest)
unfolding key
key_read ws n rest e h = rw (number_at (2 ^ 32) ws n rest e h)

module _ (ws : List (List ℕ)) (a b c d e : ℕ) (ws₁ ws₂ ws₃ ws₄ ws₅ : List (List ℕ)) where
  pub lamp_read : value (2 ^ 32) ws ≡ Some (a, ws₁) → value (2 ^ 16) ws₁ ≡ Some (b, ws₂) → value (2 ^ 32) ws₂ ≡ Some (c, ws₃) → value (2 ^ 16) ws₃ ≡ Some (d, ws₄) → value (2 ^ 16) ws₄ ≡ Some (e, ws₅) → (h : a < 2 ^ 32) (j : b < 2 ^ 16) (k : (c < 2 ^ 32) × (d < 2 ^ 16) × (e < 2 ^ 16)) → lamp ws ≡ Some (record { first = record { count = a; fits = h }; second = record { first = record { bits = b; fits = j }; second = record { stamp = c; source = d; word = e; fits = k } } }, ws₅)
  unfolding lamp
  lamp_read e₁ e₂ e₃ e₄ e₅ h j k =
      rw (
        number_at (2 ^ 32) ws a ws₁ e₁ h,
        number_at (2 ^ 16) ws₁ b ws₂ e₂ j,
        number_at (2 ^ 32) ws₂ c ws₃ e₃ k.0,
        number_at (2 ^ 16) ws₃ d ws₄ e₄ k.1,
        number_at (2 ^ 16) ws₄ e ws₅ e₅ k.2,
      )
