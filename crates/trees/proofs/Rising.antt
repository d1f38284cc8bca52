-- The keys of a tree in order rise from side 0 to side 1.
use Rattle.std.proofs.Common.{ℕ, ◌+◌, ◌<◌, true, false, List, [], ◌∷◌, ◌++◌, Some, None, Option, sym, ◌∙◌, arith}
use mathlib.Core.Bool.{false≢true}
use Rattle.std.specs.List.{AllByRecursion}
use Rattle.std.proofs.ByRecursion.{All-append, All-weaker}
use Rattle.keys.specs.Model.{KeyModel, Precedes, FirstDifference}
use Rattle.keys.proofs.Order.{number_less}
use Rattle.trees.specs.Tree.{Tree, leaf, branch, entries, entries_if_any, AllKeys}
use Rattle.trees.specs.Order.{Side, Ordered, OrderedIfAny}
use Rattle.trees.specs.Find.{Rising}
use Rattle.trees.proofs.AllKeys.{all_keys_entries, all_parts}

module _ {K : Type 0} (κ : KeyModel K) where
  -- keys on side 0 come before keys on side 1
  pub sides_precede : (p : ℕ) (k i j : K) → p < κ.PLACES → Side κ p false k i → Side κ p true k j → Precedes κ i j
  sides_precede p k i j within h g =
      let first : FirstDifference κ i j p = record {
        within = within;
        agree = λ q l. h.0 q l ∙ sym (g.0 q l);
        differ = λ e. false≢true (sym h.1 ∙ e ∙ g.1);
      } in
      number_less κ i j (p, first, h.1)

module _ {K V : Type 0} (κ : KeyModel K) where
  -- every key of one list comes before every key of another
  abbrev pub AllBefore : List (K × V) → List (K × V) → Type 0
  AllBefore es fs = AllByRecursion (λ (e : K × V). AllByRecursion (λ (f : K × V). Precedes κ e.0 f.0) fs) es

  -- in a list that rises, all that follow the first come after it
  pub rising_after_first : (e : K × V) (es : List (K × V)) → Rising κ (e ∷ es) → AllByRecursion (λ (f : K × V). Precedes κ e.0 f.0) es
  rising_after_first e [] h = tt
  rising_after_first e (f ∷ es) h = (h.0, All-weaker _ _ (λ g l. let first = h.0 in omega arith) es (rising_after_first f es h.1))

  pub rising_tail : (e : K × V) (es : List (K × V)) → Rising κ (e ∷ es) → Rising κ es
  rising_tail e [] h = tt
  rising_tail e (f ∷ es) h = h.1

  pub rising_cons : (e : K × V) (es : List (K × V)) → AllByRecursion (λ (f : K × V). Precedes κ e.0 f.0) es → Rising κ es → Rising κ (e ∷ es)
  rising_cons e [] a h = tt
  rising_cons e (f ∷ es) a h = (a.0, h)

  -- two lists in a row rise exactly where each does and all of the first comes before all of the second
  pub rising_append : (es fs : List (K × V)) → Rising κ es → Rising κ fs → AllBefore es fs → Rising κ (es ++ fs)
  rising_append [] fs h g a = g
  rising_append (e ∷ es) fs h g a =
      rising_cons e (es ++ fs) (All-append _ es fs (rising_after_first e es h) a.0) (rising_append es fs (rising_tail e es h) g a.1)

  pub rising_parts : (es fs : List (K × V)) → Rising κ (es ++ fs) → Rising κ es × Rising κ fs × AllBefore es fs
  rising_parts [] fs h = (tt, h, tt)
  rising_parts (e ∷ es) fs h =
      let later = all_parts _ es fs (rising_after_first e (es ++ fs) h) in
      let rest = rising_parts es fs (rising_tail e (es ++ fs) h) in
      (rising_cons e es later.0 rest.0, rest.1, (later.1, rest.2))

  pub sides_all_before : (p : ℕ) (k : K) (l r : Tree K V) → p < κ.PLACES → AllKeys (Side κ p false k) l → AllKeys (Side κ p true k) r
      → AllBefore (entries l) (entries r)
  sides_all_before p k l r within hl hr =
      All-weaker _ _
      (λ e h. All-weaker _ _ (λ f g. sides_precede κ p k e.0 f.0 within h g) (entries r) (all_keys_entries _ r hr))
      (entries l) (all_keys_entries _ l hl)

  pub tree_rises : (least : ℕ) (t : Tree K V) → Ordered κ least t → Rising κ (entries t)
  tree_rises least (leaf i k v) o = tt
  tree_rises least (branch i p k l r) o =
      rising_append (entries l) (entries r) (tree_rises (p + 1) l o.4) (tree_rises (p + 1) r o.5)
      (sides_all_before p k l r o.1 o.2 o.3)

  pub map_rises : (o : Option (Tree K V)) → OrderedIfAny κ o → Rising κ (entries_if_any o)
  map_rises None h = tt
  map_rises (Some t) h = tree_rises 0 t h
