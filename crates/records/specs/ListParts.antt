-- A list in two parts, of which the first has n elements: written part by part, read part by part, compared part by part.
use Rattle.std.specs.Prelude.{◌≡◌, ℕ, ◌+◌, ◌-◌, List, ◌++◌, length, take, drop}
use Rattle.std.proofs.Common.{sym, ap, ap₂, ◌∙◌, append_assoc, append-nil, arith, length-append, length-take, length-drop, take-append-drop, take_at, drop_at}
use Rattle.std.proofs.lemmas.List.{drop_all, take_rest}
use borrow.Rule.Slice.PartMut.{put_mid, post_of}

-- lists of which the first parts are as long are the same part by part
pub split_same : (n : ℕ) (xs ys xs' ys' : List ℕ) → length xs ≡ n → length xs' ≡ n → xs ++ ys ≡ xs' ++ ys' → (xs ≡ xs') × (ys ≡ ys')
split_same n xs ys xs' ys' p q e = (
  sym (take_at xs ys n p) ∙ ap (take n) e ∙ take_at xs' ys' n q,
  sym (drop_at xs ys n p) ∙ ap (drop n) e ∙ drop_at xs' ys' n q,
)

-- the parts that a list was split into, taken for those that it was made of
module _ (n : ℕ) (l front back : List ℕ) (front_is : front ≡ take n l) (back_is : back ≡ drop n l) where
  pub rejoin : (xs ys : List ℕ) → xs ≡ front → ys ≡ back → xs ++ ys ≡ l
  rejoin xs ys e f = ap₂ ◌++◌ (e ∙ front_is) (f ∙ back_is) ∙ take-append-drop n l

  pub is_front : (xs ys : List ℕ) → length xs ≡ n → xs ++ ys ≡ l → xs ≡ front
  is_front xs ys e whole = sym (take_at xs ys n e) ∙ ap (take n) whole ∙ sym front_is

  pub is_back : (xs ys : List ℕ) → length xs ≡ n → xs ++ ys ≡ l → ys ≡ back
  is_back xs ys e whole = sym (drop_at xs ys n e) ∙ ap (drop n) whole ∙ sym back_is

-- k elements behind xs are overwritten by ys
pub overwritten : (n k : ℕ) (xs ys rest : List ℕ) → length xs ≡ n → put_mid n k (xs ++ rest) ys ≡ (xs ++ ys) ++ drop k rest
overwritten n k xs ys rest e =
    ap₂ (λ (a b : List ℕ). a ++ (ys ++ drop k b)) (take_at xs rest n e) (drop_at xs rest n e)
    ∙ sym (append_assoc xs ys (drop k rest))

-- A slice l of m + n elements is filled with us up to mid, and holds xs there; then with vs to the end, and holds ys there.
module _ (m n mid : ℕ) (l xs ys us vs : List ℕ) (mid_is : mid ≡ m) (whole : length l ≡ m + n) (sized : length us ≡ m) where
  -- what stands behind mid at the first write
  abbrev rest : List ℕ
  rest = post_of 0 (mid - 0) l

  pub filled_in_two : (length (take (mid - 0) l) ≡ m → xs ≡ us)
      → (length (take (length (xs ++ rest) - mid) (drop mid (xs ++ rest))) ≡ n → ys ≡ vs)
      → put_mid mid (length (xs ++ rest) - mid) (xs ++ rest) ys ≡ us ++ vs
  filled_in_two front back =
      let first : xs ≡ us = front (simp length-take (omega arith)) in
      let filled : length xs ≡ mid = ap length first ∙ sized ∙ sym mid_is in
      let behind : take (length (xs ++ rest) - mid) (drop mid (xs ++ rest)) ≡ rest = take_rest (xs ++ rest) mid ∙ drop_at xs rest mid filled in
      let second : ys ≡ vs = back (ap length behind ∙ simp length-drop (omega arith)) in
      let k = length (xs ++ rest) - mid in
      overwritten mid k xs ys rest filled
      ∙ ap (λ (b : List ℕ). (xs ++ ys) ++ b) (drop_all k rest (omega (arith, length-append xs rest)))
      ∙ append-nil (xs ++ ys)
      ∙ ap₂ ◌++◌ first second

-- A slice of m + n + k elements is filled in three parts.
pub filled_in_three : (m n k : ℕ) (l xs ys zs : List ℕ) → length xs ≡ m → length ys ≡ n → length l ≡ m + n + k
    → put_mid (m + n) k (put_mid m n (xs ++ post_of 0 m l) ys) zs ≡ xs ++ (ys ++ zs)
filled_in_three m n k l xs ys zs p q whole =
    let last = drop n (drop m l) in
    let both : length (xs ++ ys) ≡ m + n = length-append xs ys ∙ ap₂ ◌+◌ p q in
    ap (λ (b : List ℕ). put_mid (m + n) k b zs) (overwritten m n xs ys (drop m l) p)
    ∙ overwritten (m + n) k (xs ++ ys) zs last both
    ∙ ap (λ (b : List ℕ). ((xs ++ ys) ++ zs) ++ b) (drop_all k last (simp (length-drop, length-drop) (omega arith)))
    ∙ append-nil ((xs ++ ys) ++ zs)
    ∙ append_assoc xs ys zs
