-- A key that splits from a tree's own key before the tree's place splits so from all of its keys.
use Rattle.std.proofs.Common.{◌≡◌, ℕ, ◌+◌, ◌<◌, ◌≤◌, Bool, true, false, not, None, sym, refl, ◌∙◌, subst, ⊎_elim, arith}
use Rattle.std.proofs.lemmas.Bool.{cases_lt}
use Rattle.keys.specs.Model.{KeyModel, number}
use Rattle.keys.specs.Split.{split}
use Rattle.keys.specs.Binary.{binary_ext}
use Rattle.keys.proofs.Splits.{split_same, split_differ, split_sym, split_tri}
use Rattle.trees.specs.Tree.{Tree, key, entries, AllKeys}
use Rattle.trees.specs.Order.{Agree, Side, Ordered, place}
use Rattle.trees.specs.Find.{lookup}
use Rattle.trees.proofs.AllKeys.{all_keys_weaker, all_keys_both, some_key}
use Rattle.trees.proofs.Order.{split_agree, keys_agree, place_within}
use Rattle.trees.proofs.Lookup.{numbers_differ, lookup_tree_none}

-- of two bits that differ, one is the other turned
pub turned_bit : (x y : Bool) → (x ≡ y → ⊥) → y ≡ not x
turned_bit true true d = absurd (d refl)
turned_bit true false d = refl
turned_bit false true d = refl
turned_bit false false d = absurd (d refl)

module _ {K : Type 0} (κ : KeyModel K) where
  -- keys that share more than x does with one of them split from x alike
  pub split_alike : (x a b : K) → split κ x a < split κ a b → split κ x b ≡ split κ x a
  split_alike x a b h =
      let low : split κ x a ≤ split κ x b = split_tri κ x a b (split κ x a) (omega arith) (omega arith) in
      ⊎_elim
      (λ l. let more : split κ x a + 1 ≤ split κ x a = split_tri κ x b a (split κ x a + 1) (omega arith)
      (omega (arith, split_sym κ a b)) in omega arith)
      (λ l. omega arith)
      (cases_lt (split κ x a) (split κ x b))

  -- keys that split nowhere have one number
  pub split_nowhere : (j x : K) → κ.PLACES ≤ split κ x j → number κ j ≡ number κ x
  split_nowhere j x h = binary_ext κ.PLACES (κ.bit j) (κ.bit x) (λ q l. sym (split_same κ x j q (omega arith)))

  -- keys split no earlier than they agree
  pub agree_before_split : (p : ℕ) (j x : K) → Agree κ p j x → split κ x j < κ.PLACES → p ≤ split κ x j
  agree_before_split p j x a h =
      ⊎_elim (λ l. absurd (split_differ κ x j h (sym (a (split κ x j) l)))) (λ l. l) (cases_lt (split κ x j) p)

  -- of two keys that split at m, each stands on its own side of m
  pub split_side : (m : ℕ) (x j : K) → split κ x j ≡ m → m < κ.PLACES → Side κ m (not (κ.bit x m)) x j
  split_side m x j e h = (
    (λ q l. sym (split_same κ x j q (omega arith))),
    turned_bit (κ.bit x m) (κ.bit j m) (subst (λ n. κ.bit x n ≡ κ.bit j n → ⊥) e (split_differ κ x j (omega arith))),
  )

module _ {K V : Type 0} (κ : KeyModel K) (x : K) where
  pub splits_from_all : (least m : ℕ) (t : Tree K V) → split κ x (key t) ≡ m → m < place κ t → Ordered κ least t
      → AllKeys (λ j. split κ x j ≡ m) t
  splits_from_all least m t e h o =
      all_keys_weaker (λ j a. let far = split_agree κ (place κ t) j (key t) (place_within κ least t o) a in
      split_alike κ x (key t) j (omega (arith, split_sym κ (key t) j)) ∙ e)
      t (keys_agree κ least t o)

  -- a key apart from all of a tree's keys finds nothing there
  pub lookup_apart : (m : ℕ) (t : Tree K V) → m < κ.PLACES → AllKeys (λ j. split κ x j ≡ m) t → lookup κ (entries t) x ≡ None
  lookup_apart m t h a =
      lookup_tree_none κ x t (all_keys_weaker (λ j e. numbers_differ κ j x m h (λ same. apart j e (sym same))) t a)
    where
      apart : (j : K) → split κ x j ≡ m → κ.bit x m ≡ κ.bit j m → ⊥
      apart j e = subst (λ n. κ.bit x n ≡ κ.bit j n → ⊥) e (split_differ κ x j (omega arith))

  -- what all keys share with x ends at the split or before
  pub least_before_split : (least m : ℕ) (t : Tree K V) → m < κ.PLACES → AllKeys (λ j. Agree κ least j x) t
      → AllKeys (λ j. split κ x j ≡ m) t → least ≤ m
  least_before_split least m t h a s =
      let some = some_key _ t (all_keys_both _ _ t a s) in
      let at : split κ x some.0 ≡ m = some.1.1 in
      omega (arith, agree_before_split κ least some.0 x some.1.0 (omega arith))
