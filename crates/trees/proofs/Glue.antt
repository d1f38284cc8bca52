-- A branch either of whose sides may be gone.
use Rattle.std.proofs.Common.{◌≡◌, ℕ, ◌+◌, ◌<◌, ◌≤◌, Bool, true, false, cond, ◌++◌, length, Some, None, Option, sym, refl, ap, ◌∙◌, append-nil, arith, length-append}
use Rattle.keys.specs.Model.{KeyModel}
use Rattle.trees.specs.Tree.{Tree, branch, root, entries, entries_if_any, move}
use Rattle.trees.specs.Order.{Side}
use Rattle.trees.specs.Find.{lookup}
use Rattle.trees.specs.Remove.{glue, AllKeysIfAny, OrderedFromIfAny}
use Rattle.trees.proofs.Move.{root_move, entries_move, all_keys_move, ordered_move}
use Rattle.trees.proofs.Order.{ordered_lower}
use Rattle.trees.proofs.Lookup.{lookup_move, lookup_other_side, lookup_sides}

module _ {K V : Type 0} where
  -- what is left stands at the branch's node
  pub root_glue : (i p : ℕ) (k : K) (l r : Option (Tree K V)) (t : Tree K V) → glue i p k l r ≡ Some t → root t ≡ i
  root_glue i p k None None t e = let z : ◌≡◌ {A = ℕ} 0 1 = cc in absurd (omega arith)
  root_glue i p k None (Some r) t e = let same : move i r ≡ t = cc in ap root (sym same) ∙ root_move i r
  root_glue i p k (Some l) None t e = let same : move i l ≡ t = cc in ap root (sym same) ∙ root_move i l
  root_glue i p k (Some l) (Some r) t e = let same : branch i p k l r ≡ t = cc in ap root (sym same)

  -- the entries are those of the sides that are left
  pub entries_glue : (i p : ℕ) (k : K) (l r : Option (Tree K V)) → entries_if_any (glue i p k l r) ≡ entries_if_any l ++ entries_if_any r
  entries_glue i p k None None = refl
  entries_glue i p k None (Some r) = entries_move i r
  entries_glue i p k (Some l) None = entries_move i l ∙ sym (append-nil (entries l))
  entries_glue i p k (Some l) (Some r) = refl

  pub length_glue : (i p : ℕ) (k : K) (l r : Option (Tree K V))
      → length (entries_if_any (glue i p k l r)) ≡ length (entries_if_any l) + length (entries_if_any r)
  length_glue i p k l r = ap length (entries_glue i p k l r) ∙ length-append (entries_if_any l) (entries_if_any r)

  pub all_keys_glue : (P : K → Type 0) (i p : ℕ) (k : K) (l r : Option (Tree K V)) → AllKeysIfAny P l → AllKeysIfAny P r
      → AllKeysIfAny P (glue i p k l r)
  all_keys_glue P i p k None None h g = tt
  all_keys_glue P i p k None (Some r) h g = all_keys_move P i r g
  all_keys_glue P i p k (Some l) None h g = all_keys_move P i l h
  all_keys_glue P i p k (Some l) (Some r) h g = (h, g)

module _ {K V : Type 0} (κ : KeyModel K) where
  pub ordered_glue : (least i p : ℕ) (k : K) (l r : Option (Tree K V)) → least ≤ p → p < κ.PLACES → AllKeysIfAny (Side κ p false k) l
      → AllKeysIfAny (Side κ p true k) r
      → OrderedFromIfAny κ (p + 1) l → OrderedFromIfAny κ (p + 1) r → OrderedFromIfAny κ least (glue i p k l r)
  ordered_glue least i p k None None low high hl hr ol or = tt
  ordered_glue least i p k None (Some r) low high hl hr ol or = ordered_move κ least i r (ordered_lower κ (p + 1) least r (omega arith) or)
  ordered_glue least i p k (Some l) None low high hl hr ol or = ordered_move κ least i l (ordered_lower κ (p + 1) least l (omega arith) ol)
  ordered_glue least i p k (Some l) (Some r) low high hl hr ol or = (low, high, hl, hr, ol, or)

  -- the side that a key's bit names, if it is left, has what the key finds
  pub lookup_glue : (x : K) (b : Bool) (i p : ℕ) (k : K) (l r : Option (Tree K V)) → p < κ.PLACES → AllKeysIfAny (Side κ p false k) l
      → AllKeysIfAny (Side κ p true k) r
      → κ.bit x p ≡ b → lookup κ (entries_if_any (glue i p k l r)) x ≡ lookup κ (entries_if_any (cond b r l)) x
  lookup_glue x true i p k None None h hl hr e = refl
  lookup_glue x false i p k None None h hl hr e = refl
  lookup_glue x true i p k None (Some r) h hl hr e = lookup_move κ x i r
  lookup_glue x false i p k None (Some r) h hl hr e = lookup_move κ x i r ∙ lookup_other_side κ x p true k r h hr e
  lookup_glue x true i p k (Some l) None h hl hr e = lookup_move κ x i l ∙ lookup_other_side κ x p false k l h hl e
  lookup_glue x false i p k (Some l) None h hl hr e = lookup_move κ x i l
  lookup_glue x true i p k (Some l) (Some r) h hl hr e = lookup_sides κ x p k l r h hl hr true e
  lookup_glue x false i p k (Some l) (Some r) h hl hr e = lookup_sides κ x p k l r h hl hr false e
