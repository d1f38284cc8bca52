-- Patricia trees. Each node carries the index of the pool's node that stores it, so that what a tree is made of,
-- and which nodes it uses, can be said in one place.
use Rattle.std.specs.Prelude.{ℕ, ◌+◌, cond, List, [], ◌∷◌, ◌++◌, Some, None, Option, ◌==◌}

-- a leaf has an index, a key and a record;
-- a branch an index, a place, a key whose first bits are the prefix of all below, and two sides
pub data Tree (K V : Type 0) : Type 0 where
  leaf : ℕ → K → V → Tree K V
  branch : ℕ → ℕ → K → Tree K V → Tree K V → Tree K V

-- 1 where the two are equal, else 0
abbrev pub one : ℕ → ℕ → ℕ
one i j = cond (i == j) 1 0

-- how often j stands in a list
abbrev pub times : ℕ → List ℕ → ℕ
times j [] = 0
times j (i ∷ is) = one i j + times j is

module _ {K V : Type 0} where
  -- the index of a tree's first node
  abbrev pub root : Tree K V → ℕ
  root (leaf i k v) = i
  root (branch i p k l r) = i

  -- the key that a tree's first node carries
  abbrev pub key : Tree K V → K
  key (leaf i k v) = k
  key (branch i p k l r) = k

  -- keys and records, from side 0 to side 1
  abbrev pub entries : Tree K V → List (K × V)
  entries (leaf i k v) = (k, v) ∷ []
  entries (branch i p k l r) = entries l ++ entries r

  -- the first of them, down side 0 to its end
  abbrev pub first_entry : Tree K V → K × V
  first_entry (leaf i k v) = (k, v)
  first_entry (branch i p k l r) = first_entry l

  -- the number of nodes
  abbrev pub size : Tree K V → ℕ
  size (leaf i k v) = 1
  size (branch i p k l r) = 1 + size l + size r

  -- how often a tree uses the node j
  abbrev pub uses : ℕ → Tree K V → ℕ
  uses j (leaf i k v) = one i j
  uses j (branch i p k l r) = one i j + uses j l + uses j r

  -- the same tree, its first node stored at a
  abbrev pub move : ℕ → Tree K V → Tree K V
  move a (leaf i k v) = leaf a k v
  move a (branch i p k l r) = branch a p k l r

  -- P holds of every key in a tree
  abbrev pub AllKeys : (K → Type 0) → Tree K V → Type 0
  AllKeys P (leaf i k v) = P k
  AllKeys P (branch i p k l r) = AllKeys P l × AllKeys P r

  -- the same for a map, which is a tree or, where it has no key, none
  abbrev pub entries_if_any : Option (Tree K V) → List (K × V)
  entries_if_any None = []
  entries_if_any (Some t) = entries t

  abbrev pub size_if_any : Option (Tree K V) → ℕ
  size_if_any None = 0
  size_if_any (Some t) = size t

  abbrev pub uses_if_any : ℕ → Option (Tree K V) → ℕ
  uses_if_any j None = 0
  uses_if_any j (Some t) = uses j t

  abbrev pub root_if_any : Option (Tree K V) → Option ℕ
  root_if_any None = None
  root_if_any (Some t) = Some (root t)
