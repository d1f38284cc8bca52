-- What holds of all keys of a tree.
use Rattle.std.proofs.Common.{List, [], ◌∷◌, ◌++◌}
use Rattle.std.specs.List.{AllByRecursion}
use Rattle.std.proofs.ByRecursion.{All-append}
use Rattle.trees.specs.Tree.{Tree, leaf, branch, entries, first_entry, AllKeys}

-- P of all elements of two lists in a row holds of those of each
pub all_parts : {A : Type 0} (P : A → Type 0) (xs ys : List A) → AllByRecursion P (xs ++ ys) → AllByRecursion P xs × AllByRecursion P ys
all_parts P [] ys h = (tt, h)
all_parts P (x ∷ xs) ys h = let parts = all_parts P xs ys h.1 in ((h.0, parts.0), parts.1)

module _ {K V : Type 0} where
  -- what is weaker holds too
  pub all_keys_weaker : {P Q : K → Type 0} → ((j : K) → P j → Q j) → (t : Tree K V) → AllKeys P t → AllKeys Q t
  all_keys_weaker f (leaf i k v) h = f k h
  all_keys_weaker f (branch i p k l r) h = (all_keys_weaker f l h.0, all_keys_weaker f r h.1)

  pub all_keys_both : (P Q : K → Type 0) (t : Tree K V) → AllKeys P t → AllKeys Q t → AllKeys (λ j. P j × Q j) t
  all_keys_both P Q (leaf i k v) h g = (h, g)
  all_keys_both P Q (branch i p k l r) h g = (all_keys_both P Q l h.0 g.0, all_keys_both P Q r h.1 g.1)

  -- what holds of every key holds of all of a tree's
  pub all_keys_true : (P : K → Type 0) → ((j : K) → P j) → (t : Tree K V) → AllKeys P t
  all_keys_true P f (leaf i k v) = f k
  all_keys_true P f (branch i p k l r) = (all_keys_true P f l, all_keys_true P f r)

  -- a tree has a key
  pub some_key : (P : K → Type 0) (t : Tree K V) → AllKeys P t → (j : K) × P j
  some_key P (leaf i k v) h = (k, h)
  some_key P (branch i p k l r) h = some_key P l h.0

  -- and so a first one
  pub first_key : (P : K → Type 0) (t : Tree K V) → AllKeys P t → P (first_entry t).0
  first_key P (leaf i k v) h = h
  first_key P (branch i p k l r) h = first_key P l h.0

  -- the keys of a tree are those of its entries
  pub all_keys_entries : (P : K → Type 0) (t : Tree K V) → AllKeys P t → AllByRecursion (λ (e : K × V). P e.0) (entries t)
  all_keys_entries P (leaf i k v) h = (h, tt)
  all_keys_entries P (branch i p k l r) h =
      All-append (λ (e : K × V). P e.0) (entries l) (entries r) (all_keys_entries P l h.0) (all_keys_entries P r h.1)

  pub entries_all_keys : (P : K → Type 0) (t : Tree K V) → AllByRecursion (λ (e : K × V). P e.0) (entries t) → AllKeys P t
  entries_all_keys P (leaf i k v) h = h.0
  entries_all_keys P (branch i p k l r) h =
      let parts = all_parts (λ (e : K × V). P e.0) (entries l) (entries r) h in
      (entries_all_keys P l parts.0, entries_all_keys P r parts.1)
