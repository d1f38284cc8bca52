-- A tree whose first node is stored elsewhere is the same tree in all but that.
use Rattle.std.proofs.Common.{◌≡◌, ℕ, ◌+◌, ◌≤◌, cond, refl, ap, arith, eq-eqb, ne_eqb}
use Rattle.keys.specs.Model.{KeyModel}
use Rattle.trees.specs.Tree.{Tree, leaf, branch, one, root, key, entries, size, uses, move, AllKeys}
use Rattle.trees.specs.Order.{Ordered}

-- a node is counted where it stands, and nowhere else
pub one_same : (i j : ℕ) → i ≡ j → one i j ≡ 1
one_same i j e = ap (λ b. cond b 1 0) (eq-eqb i j e)

pub one_other : (i j : ℕ) → (i ≡ j → ⊥) → one i j ≡ 0
one_other i j d = ap (λ b. cond b 1 0) (ne_eqb i j d)

module _ {K V : Type 0} where
  pub root_move : (a : ℕ) (t : Tree K V) → root (move a t) ≡ a
  root_move a (leaf i k v) = refl
  root_move a (branch i p k l r) = refl

  pub key_move : (a : ℕ) (t : Tree K V) → key (move a t) ≡ key t
  key_move a (leaf i k v) = refl
  key_move a (branch i p k l r) = refl

  pub entries_move : (a : ℕ) (t : Tree K V) → entries (move a t) ≡ entries t
  entries_move a (leaf i k v) = refl
  entries_move a (branch i p k l r) = refl

  pub size_move : (a : ℕ) (t : Tree K V) → size (move a t) ≡ size t
  size_move a (leaf i k v) = refl
  size_move a (branch i p k l r) = refl

  -- the node a is used in place of the first
  pub uses_move : (j a : ℕ) (t : Tree K V) → uses j (move a t) + one (root t) j ≡ uses j t + one a j
  uses_move j a (leaf i k v) = omega arith
  uses_move j a (branch i p k l r) = omega arith

  -- a tree uses its first node
  pub uses_root : (t : Tree K V) → 1 ≤ uses (root t) t
  uses_root (leaf i k v) = omega (arith, one_same i i refl)
  uses_root (branch i p k l r) = omega (arith, one_same i i refl)

  pub one_root : (j : ℕ) (t : Tree K V) → one (root t) j ≤ uses j t
  one_root j (leaf i k v) = omega arith
  one_root j (branch i p k l r) = omega arith

  pub all_keys_move : (P : K → Type 0) (a : ℕ) (t : Tree K V) → AllKeys P t → AllKeys P (move a t)
  all_keys_move P a (leaf i k v) h = h
  all_keys_move P a (branch i p k l r) h = h

  pub ordered_move : (κ : KeyModel K) (least a : ℕ) (t : Tree K V) → Ordered κ least t → Ordered κ least (move a t)
  ordered_move κ least a (leaf i k v) h = h
  ordered_move κ least a (branch i p k l r) h = h
