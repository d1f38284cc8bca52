-- Single nodes: two readings of one index give one node, and a write changes one index alone.
use Rattle.std.proofs.Common.{◌≡◌, ℕ, ◌<◌, List, length, get_or, set, sym, ap, ◌∙◌, length-set, get_or-set_other, get_or-set_same}
use Rattle.std.proofs.lemmas.List.{get_or_default}
use Rattle.pool.specs.declared.node.Node.{Node}
use Rattle.pool.specs.Slice.{At}

module _ {K V : Type 0} (ns : List (Node K V)) where
  pub one_node : (i j : ℕ) (x y : Node K V) → i ≡ j → At ns i x → At ns j y → x ≡ y
  one_node i j x y e h g = sym h.1 ∙ get_or_default ns i x y h.0 ∙ ap (λ (n : ℕ). get_or ns n y) e ∙ g.1

  pub written_there : (i : ℕ) (x : Node K V) → i < length ns → At (set ns i x) i x
  written_there i x h = (rw length-set h, get_or-set_same ns i x x h)

  pub kept_elsewhere : (i : ℕ) (y : Node K V) (j : ℕ) (x : Node K V) → (j ≡ i → ⊥) → At ns j x → At (set ns i y) j x
  kept_elsewhere i y j x ne h = (rw length-set h.0, get_or-set_other ns i j y x ne ∙ h.1)
