-- A record put into a tree: where its key belongs, and the tree that the put makes.
use Rattle.std.specs.Prelude.{◌≡◌, ℕ, ◌<◌, ◌≤◌, true, false, cond, Some, None, Option, nat_lt}
use Rattle.keys.specs.Model.{KeyModel}
use Rattle.keys.specs.Split.{split}
use Rattle.trees.specs.Tree.{Tree, leaf, branch, root, move}

-- at a branch a key belongs here, or somewhere on side 0, or somewhere on side 1
pub data Way (A B C : Type 0) : Type 0 where
  here : A → Way A B C
  left : B → Way A B C
  right : C → Way A B C

-- the record at a key, once v is put where o was found
abbrev pub added : {V : Type 0} → (V → V → V) → V → Option V → V
added join v None = v
added join v (Some u) = join u v

module _ {K V : Type 0} (κ : KeyModel K) where
  -- x belongs at the node w of a tree, and splits from that node's key at m: down to w it shares every prefix and goes
  -- to the side that its bit names; at w it shares the prefix no more, or w is a leaf
  abbrev pub Spot : K → ℕ → ℕ → Tree K V → Type 0
  Spot x w m (leaf i k v) = (i ≡ w) × (split κ x k ≡ m)
  Spot x w m (branch i p k l r) =
      Way ((i ≡ w) × (split κ x k ≡ m) × (m < p))
      ((p ≤ split κ x k) × (κ.bit x p ≡ false) × Spot x w m l)
      ((p ≤ split κ x k) × (κ.bit x p ≡ true) × Spot x w m r)

  -- a branch at m in place of u, over u, which moves to the node a, and a new leaf at the node b
  abbrev pub fork : K → V → ℕ → ℕ → ℕ → Tree K V → Tree K V
  fork x v a b m u = branch (root u) m x (cond (κ.bit x m) (move a u) (leaf b x v)) (cond (κ.bit x m) (leaf b x v) (move a u))

  -- the tree with v put at x: a leaf of that key joins v to its record, any other node at the spot gives way to a fork
  abbrev pub grown : (V → V → V) → (x : K) → V → ℕ → ℕ → (w m : ℕ) → (t : Tree K V) → Spot x w m t → Tree K V
  grown join x v a b w m (leaf i k u) s = cond (nat_lt m κ.PLACES) (fork x v a b m (leaf i k u)) (leaf i k (join u v))
  grown join x v a b w m (branch i p k l r) (here h) = fork x v a b m (branch i p k l r)
  grown join x v a b w m (branch i p k l r) (left h) = branch i p k (grown join x v a b w m l h.2) r
  grown join x v a b w m (branch i p k l r) (right h) = branch i p k l (grown join x v a b w m r h.2)
