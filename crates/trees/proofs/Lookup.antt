-- What a list of entries finds, and what a tree in order finds.
use Rattle.std.proofs.Common.{◌≡◌, ℕ, ◌<◌, Bool, true, false, cond, not, eqb, List, [], ◌∷◌, ◌++◌, Some, None, Option, sym, refl, ap, ◌∙◌, ap₂, true≢false, eq-eqb, ne_eqb}
use mathlib.Core.Bool.{false≢true}
use Rattle.std.specs.Option.{option_or}
use Rattle.std.specs.List.{AllByRecursion}
use Rattle.keys.specs.Model.{KeyModel, number}
use Rattle.keys.proofs.Laws.{number_bits}
use Rattle.trees.specs.Tree.{Tree, branch, entries, move, AllKeys}
use Rattle.trees.specs.Order.{Side, Ordered}
use Rattle.trees.specs.Find.{same_key, lookup}
use Rattle.trees.proofs.AllKeys.{all_keys_weaker, all_keys_entries}
use Rattle.trees.proofs.Move.{entries_move}

pub or_none : {A : Type 0} (o : Option A) → option_or o None ≡ o
or_none None = refl
or_none (Some a) = refl

bit_is_not : (b : Bool) → b ≡ not b → ⊥
bit_is_not true e = true≢false e
bit_is_not false e = false≢true e

module _ {K : Type 0} (κ : KeyModel K) where
  pub same_key_true : (a b : K) → number κ a ≡ number κ b → same_key κ a b ≡ true
  same_key_true a b e = eq-eqb (number κ a) (number κ b) e

  pub same_key_false : (a b : K) → (number κ a ≡ number κ b → ⊥) → same_key κ a b ≡ false
  same_key_false a b d = ne_eqb (number κ a) (number κ b) d

  -- keys whose bits differ in a place have two numbers
  pub numbers_differ : (a b : K) (p : ℕ) → p < κ.PLACES → (κ.bit a p ≡ κ.bit b p → ⊥) → number κ a ≡ number κ b → ⊥
  numbers_differ a b p h d e = d (number_bits κ a b e p h)

module _ {K V : Type 0} (κ : KeyModel K) (x : K) where
  -- two lists in a row find what the first finds, or else the second
  pub lookup_append : (es fs : List (K × V)) → lookup κ (es ++ fs) x ≡ option_or (lookup κ es x) (lookup κ fs x)
  lookup_append [] fs = refl
  lookup_append (e ∷ es) fs =
      elim (same_key κ e.0 x) as (λ b. cond b (Some e.1) (lookup κ (es ++ fs) x)
      ≡ option_or (cond b (Some e.1) (lookup κ es x)) (lookup κ fs x))
      [ true ↦ refl | false ↦ lookup_append es fs ]

  -- a key that differs from all keys of a list finds nothing
  pub lookup_none : (es : List (K × V)) → AllByRecursion (λ (e : K × V). number κ e.0 ≡ number κ x → ⊥) es → lookup κ es x ≡ None
  lookup_none [] h = refl
  lookup_none (e ∷ es) h = ap (λ b. cond b (Some e.1) (lookup κ es x)) (same_key_false κ e.0 x h.0) ∙ lookup_none es h.1

  -- and so of a tree
  pub lookup_tree_none : (t : Tree K V) → AllKeys (λ j. number κ j ≡ number κ x → ⊥) t → lookup κ (entries t) x ≡ None
  lookup_tree_none t h = lookup_none (entries t) (all_keys_entries _ t h)

  -- on a side that its bit does not name, a key finds nothing
  pub lookup_other_side : (p : ℕ) (b : Bool) (k : K) (t : Tree K V) → p < κ.PLACES → AllKeys (Side κ p b k) t → κ.bit x p ≡ not b
      → lookup κ (entries t) x ≡ None
  lookup_other_side p b k t within h e =
      lookup_tree_none t (all_keys_weaker (λ j s. numbers_differ κ j x p within (λ same. bit_is_not b (sym s.1 ∙ same ∙ e))) t h)

  -- the side that the key's bit names has what the key finds
  pub lookup_sides : (p : ℕ) (k : K) (l r : Tree K V) → p < κ.PLACES → AllKeys (Side κ p false k) l → AllKeys (Side κ p true k) r
      → (b : Bool) → κ.bit x p ≡ b → lookup κ (entries l ++ entries r) x ≡ lookup κ (entries (cond b r l)) x
  lookup_sides p k l r within hl hr true e =
      lookup_append (entries l) (entries r) ∙ ap (λ o. option_or o (lookup κ (entries r) x)) (lookup_other_side p false k l within hl e)
  lookup_sides p k l r within hl hr false e =
      lookup_append (entries l) (entries r) ∙ ap (option_or (lookup κ (entries l) x)) (lookup_other_side p true k r within hr e)
      ∙ or_none (lookup κ (entries l) x)

  -- the same of a branch in order
  pub lookup_side : (least i p : ℕ) (k : K) (l r : Tree K V) → Ordered κ least (branch i p k l r)
      → (b : Bool) → κ.bit x p ≡ b → lookup κ (entries (branch i p k l r)) x ≡ lookup κ (entries (cond b r l)) x
  lookup_side least i p k l r o = lookup_sides p k l r o.1 o.2 o.3

  pub lookup_move : (a : ℕ) (t : Tree K V) → lookup κ (entries (move a t)) x ≡ lookup κ (entries t) x
  lookup_move a t = ap (λ es. lookup κ es x) (entries_move a t)

module _ {K V : Type 0} (κ : KeyModel K) where
  -- keys of one number find the same
  pub lookup_same_number : (es : List (K × V)) (x y : K) → number κ x ≡ number κ y → lookup κ es x ≡ lookup κ es y
  lookup_same_number [] x y e = refl
  lookup_same_number (f ∷ es) x y e =
      let same : same_key κ f.0 x ≡ same_key κ f.0 y = ap (λ n. eqb (number κ f.0) n) e in
      ap₂ (λ b o. cond b (Some f.1) o) same (lookup_same_number es x y e)
