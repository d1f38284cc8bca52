-- The first entry after a bound: what a walk down a tree in order may pass over, and what it may answer.
use Rattle.std.proofs.Common.{◌≡◌, ℕ, ◌<◌, ◌≤◌, true, false, cond, not, List, [], ◌∷◌, ◌++◌, Some, None, Option, sym, refl, ap, ◌∙◌, subst, arith, le-ltb, lt-ltb}
use Rattle.std.specs.Option.{option_or}
use Rattle.std.specs.List.{AllByRecursion}
use Rattle.keys.specs.Model.{KeyModel, number, Precedes}
use Rattle.keys.specs.Split.{split}
use Rattle.trees.specs.Tree.{Tree, leaf, branch, key, entries, first_entry, AllKeys}
use Rattle.trees.specs.Order.{Side, Ordered, place}
use Rattle.trees.specs.Find.{after, first_after}
use Rattle.trees.proofs.AllKeys.{all_keys_weaker, all_keys_entries}
use Rattle.trees.proofs.Order.{agree_split, place_within}
use Rattle.trees.proofs.Lookup.{or_none}
use Rattle.trees.proofs.Rising.{sides_precede}
use Rattle.trees.proofs.Parting.{split_side, splits_from_all}

or_chain : {A : Type 0} (o back : Option A) (a : A) → option_or (option_or o (Some a)) back ≡ option_or o (Some a)
or_chain None back a = refl
or_chain (Some b) back a = refl

module _ {K V : Type 0} (κ : KeyModel K) where
  pub first_after_append : (b : Option K) (es fs : List (K × V))
      → first_after κ b (es ++ fs) ≡ option_or (first_after κ b es) (first_after κ b fs)
  first_after_append b [] fs = refl
  first_after_append b (e ∷ es) fs =
      elim (after κ b e.0) as (λ z. cond z (Some e) (first_after κ b (es ++ fs))
      ≡ option_or (cond z (Some e) (first_after κ b es)) (first_after κ b fs))
      [ true ↦ refl | false ↦ first_after_append b es fs ]

  -- nothing in a list comes after a bound that no key of it passes
  pub first_after_below : (b : K) (es : List (K × V)) → AllByRecursion (λ (e : K × V). number κ e.0 ≤ number κ b) es
      → first_after κ (Some b) es ≡ None
  first_after_below b [] h = refl
  first_after_below b (e ∷ es) h =
      ap (λ z. cond z (Some e) (first_after κ (Some b) es)) (le-ltb (number κ b) (number κ e.0) h.0) ∙ first_after_below b es h.1

  -- in a tree all of whose keys come after the bound, the first entry is the answer
  pub first_after_above : (b : Option K) (t : Tree K V) → AllKeys (λ j. after κ b j ≡ true) t
      → first_after κ b (entries t) ≡ Some (first_entry t)
  first_after_above b (leaf i k v) h = ap (λ z. cond z (Some (k, v)) None) h
  first_after_above b (branch i p k l r) h =
      first_after_append b (entries l) (entries r) ∙ ap (λ o. option_or o (first_after κ b (entries r))) (first_after_above b l h.0)

  -- with no bound it is the answer of every tree
  pub first_after_no_bound : (t : Tree K V) → first_after κ None (entries t) ≡ Some (first_entry t)
  first_after_no_bound (leaf i k v) = refl
  first_after_no_bound (branch i p k l r) =
      first_after_append None (entries l) (entries r) ∙ ap (λ o. option_or o (first_after κ None (entries r))) (first_after_no_bound l)

  -- a leaf is the answer where its key comes after the bound, and else there is none
  pub first_after_leaf : (b : K) (i : ℕ) (k : K) (v : V) → Precedes κ b k → first_after κ (Some b) (entries (leaf i k v)) ≡ Some (k, v)
  first_after_leaf b i k v h = ap (λ z. cond z (Some (k, v)) None) (lt-ltb (number κ b) (number κ k) h)

  pub first_after_other_leaf : (b : K) (i : ℕ) (k : K) (v : V) → number κ k ≤ number κ b
      → first_after κ (Some b) (entries (leaf i k v)) ≡ None
  first_after_other_leaf b i k v h = ap (λ z. cond z (Some (k, v)) None) (le-ltb (number κ b) (number κ k) h)

  module _ (least m : ℕ) (b : K) (t : Tree K V) (o : Ordered κ least t) (splits : split κ b (key t) ≡ m) (before : m < place κ t) where
    high : m < κ.PLACES
    high = omega (arith, place_within κ least t o)

    -- a bound that leaves the prefix of a tree on side 0 has all keys after it
    pub first_after_all : κ.bit b m ≡ false → first_after κ (Some b) (entries t) ≡ Some (first_entry t)
    first_after_all e =
        first_after_above (Some b) t (all_keys_weaker (λ j s. lt-ltb (number κ b) (number κ j)
        (sides_precede κ m b b j high ((λ q l. refl), e) (subst (λ z. Side κ m (not z) b j) e (split_side κ m b j s high)))) t
        (splits_from_all κ b least m t splits before o))

    -- and one that leaves it on side 1 has none
    pub first_after_nothing : κ.bit b m ≡ true → first_after κ (Some b) (entries t) ≡ None
    first_after_nothing e =
        first_after_below b (entries t) (all_keys_entries _ t (all_keys_weaker (λ j s.
        let less : Precedes κ j b = sides_precede κ m b j b high (subst (λ z. Side κ m (not z) b j) e (split_side κ m b j s high))
        ((λ q l. refl), e) in omega arith)
        t (splits_from_all κ b least m t splits before o)))

  module _ (least i p : ℕ) (b k : K) (l r : Tree K V) (o : Ordered κ least (branch i p k l r)) (shares : p ≤ split κ b k) where
    -- of a branch whose prefix the bound shares, side 0 has nothing after a bound on side 1
    pub first_after_right : κ.bit b p ≡ true → first_after κ (Some b) (entries (branch i p k l r)) ≡ first_after κ (Some b) (entries r)
    first_after_right e =
        first_after_append (Some b) (entries l) (entries r) ∙ ap (λ z. option_or z (first_after κ (Some b) (entries r)))
        (first_after_below b (entries l) (all_keys_entries _ l (all_keys_weaker (λ j s.
        let less : Precedes κ j b = sides_precede κ p k j b o.1 s (agree_split κ p b k shares, e) in omega arith) l o.2)))

    -- and side 1 is all after a bound on side 0
    pub first_after_left : κ.bit b p ≡ false
        → first_after κ (Some b) (entries (branch i p k l r)) ≡ option_or (first_after κ (Some b) (entries l)) (Some (first_entry r))
    first_after_left e =
        first_after_append (Some b) (entries l) (entries r) ∙ ap (option_or (first_after κ (Some b) (entries l)))
        (first_after_above (Some b) r (all_keys_weaker (λ j s. lt-ltb (number κ b) (number κ j)
        (sides_precede κ p k b j o.1 (agree_split κ p b k shares, e) s)) r o.3))

  -- an answer that is right for t, and for `back` where t has nothing after the bound
  abbrev pub Answers : Option K → Tree K V → Option (K × V) → Option (K × V) → Type 0
  Answers b t back answer = answer ≡ option_or (first_after κ b (entries t)) back

  pub answers_whole : (b : Option K) (t : Tree K V) (answer : Option (K × V)) → Answers b t None answer
      → answer ≡ first_after κ b (entries t)
  answers_whole b t answer h = h ∙ or_none (first_after κ b (entries t))

  -- the answer of t itself, and of `back` where t has none
  pub answers_first : (b : Option K) (t : Tree K V) (back : Option (K × V)) (e : K × V) → first_after κ b (entries t) ≡ Some e
      → Answers b t back (Some e)
  answers_first b t back e h = ap (λ o. option_or o back) (sym h)

  pub answers_back : (b : Option K) (t : Tree K V) (back : Option (K × V)) → first_after κ b (entries t) ≡ None → Answers b t back back
  answers_back b t back h = ap (λ o. option_or o back) (sym h)

  -- what is right for the side that the bound's bit names is right for the branch
  module _ (least i p : ℕ) (b k : K) (l r : Tree K V) (o : Ordered κ least (branch i p k l r)) (shares : p ≤ split κ b k)
      (back answer : Option (K × V)) where
    pub answers_right : κ.bit b p ≡ true → Answers (Some b) r back answer → Answers (Some b) (branch i p k l r) back answer
    answers_right e h = h ∙ ap (λ z. option_or z back) (sym (first_after_right least i p b k l r o shares e))

    pub answers_left : κ.bit b p ≡ false → Answers (Some b) l (Some (first_entry r)) answer
        → Answers (Some b) (branch i p k l r) back answer
    answers_left e h =
        h ∙ sym (or_chain (first_after κ (Some b) (entries l)) back (first_entry r))
        ∙ ap (λ z. option_or z back) (sym (first_after_left least i p b k l r o shares e))
