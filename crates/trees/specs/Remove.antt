-- A key taken from a tree: the tree that is left, and the nodes that are given back.
use Rattle.std.specs.Prelude.{ℕ, cond, List, [], ◌∷◌, Some, None, Option}
use Rattle.keys.specs.Model.{KeyModel}
use Rattle.trees.specs.Tree.{Tree, leaf, branch, root, move, AllKeys}
use Rattle.trees.specs.Order.{Ordered}
use Rattle.trees.specs.Find.{same_key}

module _ {K V : Type 0} where
  -- the same map, its first node stored at a
  abbrev pub move_if_any : ℕ → Option (Tree K V) → Option (Tree K V)
  move_if_any a None = None
  move_if_any a (Some t) = Some (move a t)

  -- a branch either of whose sides may be gone: the side that is left then takes the branch's node
  abbrev pub glue : ℕ → ℕ → K → Option (Tree K V) → Option (Tree K V) → Option (Tree K V)
  glue i p k None r = move_if_any i r
  glue i p k (Some l) None = Some (move i l)
  glue i p k (Some l) (Some r) = Some (branch i p k l r)

  -- P holds of every key of a map
  abbrev pub AllKeysIfAny : (K → Type 0) → Option (Tree K V) → Type 0
  AllKeysIfAny P None = Unit {0}
  AllKeysIfAny P (Some t) = AllKeys P t

  -- what is given back at a branch: what its side gave back, and its sibling's node where that side is gone
  abbrev pub with_sibling : Option (Tree K V) → Tree K V → List ℕ → List ℕ
  with_sibling None sibling is = root sibling ∷ is
  with_sibling (Some side) sibling is = is

module _ {K V : Type 0} (κ : KeyModel K) where
  -- a map whose tree, if it has one, is in order from `least` on
  abbrev pub OrderedFromIfAny : ℕ → Option (Tree K V) → Type 0
  OrderedFromIfAny least None = Unit {0}
  OrderedFromIfAny least (Some t) = Ordered κ least t

  -- the tree without the key x, or none where that was its only key
  abbrev pub removed : K → Tree K V → Option (Tree K V)
  removed x (leaf i k v) = cond (same_key κ k x) None (Some (leaf i k v))
  removed x (branch i p k l r) = cond (κ.bit x p) (glue i p k (Some l) (removed x r)) (glue i p k (removed x l) (Some r))

  -- the nodes that the removal gives back: the key's leaf, and the node of the leaf's sibling, which moves up
  abbrev pub freed : K → Tree K V → List ℕ
  freed x (leaf i k v) = cond (same_key κ k x) (i ∷ []) []
  freed x (branch i p k l r) = cond (κ.bit x p) (with_sibling (removed x r) l (freed x r)) (with_sibling (removed x l) r (freed x l))
