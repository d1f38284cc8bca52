-- One shelf changes: the eight stay in good order, and the pool holds the machine with that shelf's list rewritten.
use Rattle.std.proofs.Common.{◌≡◌, ℕ, zero, suc, ◌+◌, ◌<◌, ◌≤◌, Bool, true, false, cond, ltb, ◌≢◌, List, [], ◌∷◌, length, get_or, set, Some, None, Option, sym, refl, ap, ◌∙◌, subst, arith, length-set, get_or-set_other, get_or-set_same}
use native.Mathlib.Decide.{ℕ_discrete}
use Rattle.keys.specs.Model.{KeyModel, KeyLaws}
use Rattle.trees.specs.Tree.{Tree, leaf, branch, times, uses, uses_if_any, size_if_any, entries_if_any}
use Rattle.trees.specs.Find.{lookup}
use Rattle.trees.proofs.Sizes.{size_entries_if_any}
use Rattle.pool.specs.declared.node.Node.{Node}
use Rattle.pool.specs.declared.account.Account.{Account}
use Rattle.pool.specs.declared.shelf.Shelf.{Shelf}
use Rattle.pool.specs.declared.book.Book.{Book}
use Rattle.pool.specs.Slice.{At, Stands, StandsIfAny, Chain}
use Rattle.pool.specs.GoodOrder.{States, Arranged, total, empty_row}
use Rattle.pool.specs.Machine.{Machine, rewritten, record_at}
use Rattle.pool.specs.Holds.{Holds}
use Rattle.pool.specs.Walks.{Rooted, Beside, Left}
use Rattle.pool.specs.Books.{keys_after}
use Rattle.pool.proofs.Sums.{one_same, sum, sum_same, size_within, two_nodes}
use Rattle.pool.proofs.Told.{all_in_use}

pub most : (b : Bool) → cond b 1 0 ≤ 1
most true = omega arith
most false = omega arith

module _ {K V : Type 0} where
  pub total_set : (j : ℕ) (ts : List (Option (Tree K V))) (s : ℕ) (o : Option (Tree K V)) → s < length ts → total j (set ts s o) + uses_if_any j (get_or ts s None) ≡ total j ts + uses_if_any j o
  total_set j [] s o h = absurd (omega (arith, h))
  total_set j (t ∷ ts) zero o h = omega arith
  total_set j (t ∷ ts) (suc s) o h = omega (arith, total_set j ts s o (omega (arith, h)))

  pub total_within : (j : ℕ) (ts : List (Option (Tree K V))) (s : ℕ) → s < length ts → uses_if_any j (get_or ts s None) ≤ total j ts
  total_within j ts s h = let z = total_set j ts s None h in omega (arith, z)

  pub two_within : (j : ℕ) (ts : List (Option (Tree K V))) (s s' : ℕ) → s < length ts → s' < length ts → s' ≢ s → uses_if_any j (get_or ts s' None) + uses_if_any j (get_or ts s None) ≤ total j ts
  two_within j ts s s' h h' ne =
      let z = total_set j ts s None h in
      let l : s' < length (set ts s None) = rw length-set h' in
      let w = total_within j (set ts s None) s' l in
      let q : uses_if_any j (get_or (set ts s None) s' None) ≡ uses_if_any j (get_or ts s' None) = ap (uses_if_any j) (get_or-set_other ts s s' None None ne) in
      omega (arith, z, w, q)

  -- a tree stands where none of its nodes has changed
  pub stands_kept : (ns ns' : List (Node K V)) (t : Tree K V) → ((j : ℕ) → 1 ≤ uses j t → (x : Node K V) → At ns j x → At ns' j x) → Stands ns t → Stands ns' t
  stands_kept ns ns' (leaf i k v) keep h = keep i (omega (arith, one_same i i refl)) _ h
  stands_kept ns ns' (branch i p k l r) keep h = (
    keep i (omega (arith, one_same i i refl)) _ h.0,
    stands_kept ns ns' l (λ j u. keep j (omega (arith, u))) h.1,
    stands_kept ns ns' r (λ j u. keep j (omega (arith, u))) h.2,
  )

  pub map_kept : (ns ns' : List (Node K V)) (o : Option (Tree K V)) → ((j : ℕ) → 1 ≤ uses_if_any j o → (x : Node K V) → At ns j x → At ns' j x) → StandsIfAny ns o → StandsIfAny ns' o
  map_kept ns ns' None keep h = tt
  map_kept ns ns' (Some t) keep h = stands_kept ns ns' t keep h

module _ {K V : Type 0} (κ : KeyModel K) (law : KeyLaws κ) (join : V → V → V) (ns : List (Node K V)) (book : Book) (m : Machine K V) (h : Holds κ join ns book m) (s : ℕ) (l8 : s < 8) where
  -- what a walk may assume of the shelf's map and the free chain
  pub rooted_at : Rooted κ ns (get_or book.shelves s empty_row).root (get_or h.maps s None)
  rooted_at = let row = h.order.each s l8 in record { rooted = row.rooted; stands = row.stands; ordered = row.ordered }

  pub beside_at : Beside ns book.account (get_or h.maps s None) h.chain
  beside_at = record {
    linked = h.order.linked;
    counted = h.order.counted;
    once = λ j. omega (arith, total_within j h.maps s (omega (arith, l8, h.order.eight)), h.order.once j, most (ltb j (length ns)));
    few = omega (arith, size_within ns h.maps s (omega (arith, l8, h.order.eight)), all_in_use κ law join ns book m h, h.order.counted);
  }

  module _ (ns' : List (Node K V)) (book' : Book) (finds : K → Option V) (after : Account) (root : Option ℕ)
      (left : Left κ ns ns' finds (λ j. uses_if_any j (get_or h.maps s None) + times j h.chain) book.account after root) (len : length ns' ≡ length ns) where
    -- the nodes of map and chain are the same in number
    pub balance : size_if_any left.map + after.free ≡ size_if_any (get_or h.maps s None) + book.account.free
    balance =
        let o = get_or h.maps s None in
        let a = two_nodes ns o h.chain _ (h.order.each s l8).stands h.order.linked in
        let b = two_nodes ns' left.map left.chain _ left.standing.stands left.linked in
        let c = sum_same (length ns) (λ j. uses_if_any j left.map + times j left.chain) (λ j. uses_if_any j o + times j h.chain) left.used in
        let d : sum (length ns') (λ j. uses_if_any j left.map + times j left.chain) ≡ sum (length ns) (λ j. uses_if_any j left.map + times j left.chain) = ap (λ n. sum n (λ j. uses_if_any j left.map + times j left.chain)) len in
        omega (arith, a, b, c, d, left.counted, h.order.counted)

    -- so the row's count follows from the free nodes
    pub keys_counted : keys_after (get_or book.shelves s empty_row).keys book.account.free after.free ≡ length (entries_if_any left.map)
    keys_counted =
        let o = get_or h.maps s None in
        let few : size_if_any left.map ≤ 4096 = omega (arith, balance, size_within ns h.maps s (omega (arith, l8, h.order.eight)), all_in_use κ law join ns book m h, book.account.bounds) in
        omega (arith, balance, few, size_entries_if_any o, size_entries_if_any left.map, (h.order.each s l8).counted)

    module _ (account : book'.account ≡ after) (rows : book'.shelves ≡ set book.shelves s (record { root = root; keys = length (entries_if_any left.map) })) where
      rewritten_row : Shelf
      rewritten_row = record { root = root; keys = length (entries_if_any left.map) }

      pub arranged_after : Arranged κ ns' book' (set h.maps s left.map) left.chain
      arranged_after =
          let ts = h.maps in
          let lt : s < length ts = omega (arith, l8, h.order.eight) in
          let lr : s < length book.shelves = omega (arith, l8, book.eight) in
          let row' : Shelf = record { root = root; keys = length (entries_if_any left.map) } in
          record {
            whole = len ∙ h.order.whole ∙ sym left.capacity ∙ ap (λ a. a.capacity) (sym account);
            eight = length-set ts s _ ∙ h.order.eight;
            each = λ s' h'. subst (λ z. States κ ns' (get_or z s' empty_row) (get_or (set ts s left.map) s' None)) (sym rows)
                (let l' : s' < length ts = omega (arith, h', h.order.eight) in
                elim (ℕ_discrete s' s) [
                  | yes e ↦ subst (λ z. States κ ns' (get_or (set book.shelves s row') z empty_row) (get_or (set ts s left.map) z None)) (sym e)
                      (rw (get_or-set_same book.shelves s row' empty_row lr, get_or-set_same ts s left.map None lt)
                      (record { rooted = left.standing.rooted; counted = refl; stands = left.standing.stands; ordered = left.standing.ordered }))
                  | no ne ↦ rw (get_or-set_other book.shelves s s' row' empty_row ne, get_or-set_other ts s s' left.map None ne)
                      (let row = h.order.each s' h' in
                      record {
                        rooted = row.rooted;
                        counted = row.counted;
                        ordered = row.ordered;
                        stands = map_kept ns ns' (get_or ts s' None)
                            (λ j hj x at. left.kept j (omega (arith, two_within j ts s s' lt l' ne, hj, h.order.once j, most (ltb j (length ns)))) x at) row.stands;
                      })
                ]);
            linked = subst (λ (a : Account). Chain ns' a.head left.chain) (sym account) left.linked;
            counted = left.counted ∙ ap (λ a. a.free) (sym account);
            once = λ j. rw len (omega (arith, total_set j ts s left.map lt, left.used j, h.order.once j));
          }

      -- the pool holds the machine whose list finds what the map finds
      pub holds_after : (us : List (K × V)) → ((k : K) → finds k ≡ record_at κ join us k) → Holds κ join ns' book' (rewritten m s us)
      holds_after us same =
          let ts = h.maps in
          let lt : s < length ts = omega (arith, l8, h.order.eight) in
          let lm : s < length m.heard = omega (arith, l8, h.eight) in
          record {
            maps = set ts s left.map;
            chain = left.chain;
            order = arranged_after;
            capacity = h.capacity ∙ sym left.capacity ∙ ap (λ a. a.capacity) (sym account);
            eight = length-set m.heard s _ ∙ h.eight;
            found = λ s' l' k. elim (ℕ_discrete s' s) [
              | yes e ↦ subst (λ z. lookup κ (entries_if_any (get_or (set ts s left.map) z None)) k ≡ record_at κ join (get_or (set m.heard s us) z []) k) (sym e)
                  (rw (get_or-set_same ts s left.map None lt, get_or-set_same m.heard s us [] lm) (left.found k ∙ same k))
              | no ne ↦ rw (get_or-set_other ts s s' left.map None ne, get_or-set_other m.heard s s' us [] ne) (h.found s' l' k)
            ];
          }
