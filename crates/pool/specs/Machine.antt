-- The plain machine: what every call means. It knows no nodes: a capacity, and for each of eight shelves the list of
-- updates (key, record) that it heard. It is fed the calls and their arguments alone.
use Rattle.std.specs.Prelude.{ℕ, ◌+◌, ◌-◌, ◌*◌, Bool, true, false, cond, not, List, [], ◌∷◌, ◌++◌, replicate, Some, None, Option, ◌==◌, nat_le, nat_lt, slice_index_or, slice_set}
use Rattle.std.specs.Option.{option_map}
use Rattle.keys.specs.Model.{KeyModel, number}
use Rattle.trees.specs.Find.{same_key, after}
use Rattle.trees.specs.Union.{both}

pub record Machine (K V : Type 0) : Type 0 where
  pub capacity : ℕ
  pub heard : List (List (K × V))

-- after opening a pool of so many nodes no shelf has heard anything
abbrev pub opened : {K V : Type 0} → ℕ → Machine K V
opened n = record { capacity = n; heard = replicate 8 [] }

-- the lesser of two keys of which each may be absent
abbrev pub lesser : {K : Type 0} → KeyModel K → Option K → Option K → Option K
lesser κ None o = o
lesser κ (Some a) None = Some a
lesser κ (Some a) (Some b) = cond (nat_lt (number κ b) (number κ a)) (Some b) (Some a)

module _ {K V : Type 0} where
  -- what a shelf heard: its list of updates
  abbrev pub list_of : Machine K V → ℕ → List (K × V)
  list_of m s = slice_index_or m.heard s []

  -- the machine whose shelf s heard us instead
  abbrev pub rewritten : Machine K V → ℕ → List (K × V) → Machine K V
  rewritten m s us = record { capacity = m.capacity; heard = slice_set m.heard s us }

  -- the machine whose shelf s is empty now, and whose shelf d heard us instead
  abbrev pub moved_over : Machine K V → ℕ → ℕ → List (K × V) → Machine K V
  moved_over m d s us = rewritten (rewritten m s []) d us

  -- whether one of two lists is empty
  abbrev pub either_empty : List (K × V) → List (K × V) → Bool
  either_empty [] ws = true
  either_empty (u ∷ us) [] = true
  either_empty (u ∷ us) (w ∷ ws) = false

  -- the updates whose key passes a test
  abbrev pub keeping : (K → Bool) → List (K × V) → List (K × V)
  keeping test [] = []
  keeping test (u ∷ us) = cond (test u.0) (u ∷ keeping test us) (keeping test us)

module _ {K V : Type 0} (κ : KeyModel K) where
  -- what one update says of a key
  abbrev pub says : K × V → K → Option V
  says u k = cond (same_key κ u.0 k) (Some u.1) None

  -- the record at a key: the join of all records listed for it, or none
  abbrev pub record_at : (V → V → V) → List (K × V) → K → Option V
  record_at join [] k = None
  record_at join (u ∷ us) k = both join (says u k) (record_at join us k)

  -- whether a key is in a list
  abbrev pub listed : List (K × V) → K → Bool
  listed [] k = false
  listed (u ∷ us) k = cond (same_key κ u.0 k) true (listed us k)

  -- the count of a list: its number of different keys
  abbrev pub count_of : List (K × V) → ℕ
  count_of [] = 0
  count_of (u ∷ us) = cond (listed us u.0) 0 1 + count_of us

  -- the nodes that a list uses: twice its count less one, none where it is empty
  abbrev pub used : List (K × V) → ℕ
  used us = 2 * count_of us - 1

  abbrev pub all_used : List (List (K × V)) → ℕ
  all_used [] = 0
  all_used (us ∷ lists) = used us + all_used lists

  -- the nodes that are free
  abbrev pub free_in : Machine K V → ℕ
  free_in m = m.capacity - all_used m.heard

  -- the nodes that an update at a key needs: none where the key is listed, one in an empty list, else two
  abbrev pub new_key_needs : List (K × V) → ℕ
  new_key_needs [] = 1
  new_key_needs (u ∷ us) = 2

  abbrev pub needs : List (K × V) → K → ℕ
  needs us k = cond (listed us k) 0 (new_key_needs us)

  -- put: whether there are nodes enough, and the list with one update more
  abbrev pub put_fits : Machine K V → ℕ → K → Bool
  put_fits m s k = nat_le (needs (list_of m s) k) (free_in m)

  abbrev pub after_put : Machine K V → ℕ → K → V → Machine K V
  after_put m s k v = rewritten m s (list_of m s ++ ((k, v) ∷ []))

  -- remove: every update at the key is dropped
  abbrev pub dropped : K → List (K × V) → List (K × V)
  dropped k [] = []
  dropped k (u ∷ us) = cond (same_key κ u.0 k) (dropped k us) (u ∷ dropped k us)

  abbrev pub after_remove : Machine K V → ℕ → K → Machine K V
  after_remove m s k = rewritten m s (dropped k (list_of m s))

  -- clear: the list becomes empty
  abbrev pub after_clear : Machine K V → ℕ → Machine K V
  after_clear m s = rewritten m s []

  -- union d s: where both lists hold something it needs a free node; d then heard what both heard, and s is empty. Of one
  -- shelf with itself nothing changes
  abbrev pub union_fits : Machine K V → ℕ → ℕ → Bool
  union_fits m d s = cond (d == s) true (cond (either_empty (list_of m d) (list_of m s)) true (nat_le 1 (free_in m)))

  abbrev pub after_union : Machine K V → ℕ → ℕ → Machine K V
  after_union m d s = cond (d == s) m (moved_over m d s (list_of m d ++ list_of m s))

  -- common d s: d keeps, of what both heard, the updates whose key both have, and s is empty. Of one shelf with itself nothing
  -- changes
  abbrev pub in_both : List (K × V) → List (K × V) → K → Bool
  in_both us ws k = cond (listed us k) (listed ws k) false

  abbrev pub after_common : Machine K V → ℕ → ℕ → Machine K V
  after_common m d s = cond (d == s) m (moved_over m d s (keeping (in_both (list_of m d) (list_of m s)) (list_of m d ++ list_of m s)))

  -- without d s: d loses every update whose key s has; s, if it is another shelf, keeps its list
  abbrev pub after_without : Machine K V → ℕ → ℕ → Machine K V
  after_without m d s = rewritten m d (keeping (λ k. not (listed (list_of m s) k)) (list_of m d))

  -- next: the least listed key after a bound, with its record
  abbrev pub least_after : Option K → List (K × V) → Option K
  least_after bound [] = None
  least_after bound (u ∷ us) = lesser κ (cond (after κ bound u.0) (Some u.0) None) (least_after bound us)

  abbrev pub entry_of : (V → V → V) → List (K × V) → Option K → Option (K × V)
  entry_of join us None = None
  entry_of join us (Some k) = option_map (λ v. (k, v)) (record_at join us k)

  abbrev pub next_of : (V → V → V) → List (K × V) → Option K → Option (K × V)
  next_of join us bound = entry_of join us (least_after bound us)
