-- What order in a tree says of its keys, and how a tree comes to be in order.
use Rattle.std.proofs.Common.{◌≡◌, ℕ, ◌+◌, ◌<◌, ◌≤◌, Bool, true, false, cond, sym, refl, ap, ◌∙◌, ⊎_elim, arith}
use Rattle.std.proofs.lemmas.Bool.{cases_lt}
use Rattle.keys.specs.Model.{KeyModel}
use Rattle.keys.specs.Split.{split}
use Rattle.keys.proofs.Splits.{split_same, split_beyond}
use Rattle.trees.specs.Tree.{Tree, leaf, branch, key, AllKeys}
use Rattle.trees.specs.Order.{Agree, Side, Ordered, place}
use Rattle.trees.proofs.AllKeys.{all_keys_weaker, all_keys_both, all_keys_true, some_key}

module _ {K : Type 0} (κ : KeyModel K) where
  -- keys agree in the places below p exactly where they split at p or beyond
  pub agree_split : (p : ℕ) (j k : K) → p ≤ split κ j k → Agree κ p j k
  agree_split p j k h q l = split_same κ j k q (omega arith)

  pub split_agree : (p : ℕ) (j k : K) → p ≤ κ.PLACES → Agree κ p j k → p ≤ split κ j k
  split_agree p j k h = split_beyond κ j k p h

  -- two keys on one side of a place agree in it too
  pub same_side : (p : ℕ) (b : Bool) (k i j : K) → Side κ p b k i → Side κ p b k j → Agree κ (p + 1) i j
  same_side p b k i j h g q l = ⊎_elim
      (λ lt. h.0 q lt ∙ sym (g.0 q lt))
      (λ ge. let e : q ≡ p = omega arith in ap (κ.bit i) e ∙ h.1 ∙ sym g.1 ∙ ap (κ.bit j) (sym e))
      (cases_lt q p)

module _ {K V : Type 0} (κ : KeyModel K) where
  -- places that are enough for more are enough for fewer
  pub ordered_lower : (least less : ℕ) (t : Tree K V) → less ≤ least → Ordered κ least t → Ordered κ less t
  ordered_lower least less (leaf i k v) h o = tt
  ordered_lower least less (branch i p k l r) h o = (omega (arith, o.0), o.1, o.2, o.3, o.4, o.5)

  -- a tree in order may be put below any branch above its place
  pub ordered_from_place : (least below : ℕ) (t : Tree K V) → below ≤ place κ t → Ordered κ least t → Ordered κ below t
  ordered_from_place least below (leaf i k v) h o = tt
  ordered_from_place least below (branch i p k l r) h o = (h, o.1, o.2, o.3, o.4, o.5)

  pub place_within : (least : ℕ) (t : Tree K V) → Ordered κ least t → place κ t ≤ κ.PLACES
  place_within least (leaf i k v) o = omega arith
  place_within least (branch i p k l r) o = omega (arith, o.1)

  pub least_place : (least : ℕ) (t : Tree K V) → least ≤ κ.PLACES → Ordered κ least t → least ≤ place κ t
  least_place least (leaf i k v) h o = h
  least_place least (branch i p k l r) h o = o.0

  -- all keys of a tree agree with its own key before its place
  pub keys_agree : (least : ℕ) (t : Tree K V) → Ordered κ least t → AllKeys (λ j. Agree κ (place κ t) j (key t)) t
  keys_agree least (leaf i k v) o = λ q l. refl
  keys_agree least (branch i p k l r) o = (all_keys_weaker (λ j s. s.0) l o.2, all_keys_weaker (λ j s. s.0) r o.3)

  -- and so any two of its keys do: what each agrees with, its own key does too
  pub own_key_agrees : (least p : ℕ) (c : K) (t : Tree K V) → p ≤ place κ t → Ordered κ least t → AllKeys (λ j. Agree κ p j c) t
      → Agree κ p (key t) c
  own_key_agrees least p c t h o a =
      let some = some_key _ t (all_keys_both _ _ t a (keys_agree least t o)) in
      λ q l. sym (some.1.1 q (omega arith)) ∙ some.1.0 q l

  -- where a place before its own is, all of its keys stand on one side
  pub keys_on_side : (least p : ℕ) (b : Bool) (c : K) (t : Tree K V) → p < place κ t → Agree κ p (key t) c → κ.bit (key t) p ≡ b
      → Ordered κ least t → AllKeys (Side κ p b c) t
  keys_on_side least p b c t h a e o =
      all_keys_weaker (λ j g. ((λ q l. g q (omega arith) ∙ a q l), g p h ∙ e)) t (keys_agree least t o)

  -- all keys on a side agree with any of them in the place too
  pub side_agrees : (p : ℕ) (b : Bool) (k c : K) (t : Tree K V) → Side κ p b k c → AllKeys (Side κ p b k) t
      → AllKeys (λ j. Agree κ (p + 1) j c) t
  side_agrees p b k c t s h = all_keys_weaker (λ j g. same_side κ p b k j c g s) t h

  -- every two keys agree in the places below the first
  pub agree_none : (c : K) (t : Tree K V) → AllKeys (λ j. Agree κ 0 j c) t
  agree_none c t = all_keys_true _ (λ j q l. absurd (omega arith)) t

  module _ (least i p : ℕ) (k : K) (l r : Tree K V) (o : Ordered κ least (branch i p k l r)) where
    -- the side that b names, and the other
    pub side_keys : (b : Bool) → AllKeys (Side κ p b k) (cond b r l)
    side_keys true = o.3
    side_keys false = o.2

    pub side_ordered : (b : Bool) → Ordered κ (p + 1) (cond b r l)
    side_ordered true = o.5
    side_ordered false = o.4

    -- another tree in place of one side
    pub ordered_side : (b : Bool) (c : Tree K V) → AllKeys (Side κ p b k) c → Ordered κ (p + 1) c
        → Ordered κ least (branch i p k (cond b l c) (cond b c r))
    ordered_side true c h g = (o.0, o.1, o.2, h, o.4, g)
    ordered_side false c h g = (o.0, o.1, h, o.3, g, o.5)
