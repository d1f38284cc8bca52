-- Order in a tree: what makes a tree of keys a Patricia tree.
use Rattle.std.specs.Prelude.{◌≡◌, ℕ, ◌+◌, ◌<◌, ◌≤◌, Bool, true, false, Some, None, Option}
use Rattle.keys.specs.Model.{KeyModel}
use Rattle.trees.specs.Tree.{Tree, leaf, branch, AllKeys}

module _ {K : Type 0} (κ : KeyModel K) where
  -- j and k agree in the places below p
  abbrev pub Agree : ℕ → K → K → Type 0
  Agree p j k = (q : ℕ) → q < p → κ.bit j q ≡ κ.bit k q

  -- j may stand on side b of a branch at place p whose key is k
  abbrev pub Side : ℕ → Bool → K → K → Type 0
  Side p b k j = Agree p j k × (κ.bit j p ≡ b)

module _ {K V : Type 0} (κ : KeyModel K) where
  -- a tree in order, whose places are `least` or more: at each branch the place is below the kind's number of places,
  -- all keys below agree with the branch's own key in the places before it, their bit at the place is 0 on side 0 and
  -- 1 on side 1, and places grow downward (that no side is empty is in the shape of a tree)
  abbrev pub Ordered : ℕ → Tree K V → Type 0
  Ordered least (leaf i k v) = Unit {0}
  Ordered least (branch i p k l r) =
      (least ≤ p) × (p < κ.PLACES) × AllKeys (Side κ p false k) l × AllKeys (Side κ p true k) r × Ordered (p + 1) l × Ordered (p + 1) r

  -- where a tree parts: a branch at its place, a leaf at none, which counts as the number of places
  abbrev pub place : Tree K V → ℕ
  place (leaf i k v) = κ.PLACES
  place (branch i p k l r) = p

  abbrev pub OrderedIfAny : Option (Tree K V) → Type 0
  OrderedIfAny None = Unit {0}
  OrderedIfAny (Some t) = Ordered 0 t
