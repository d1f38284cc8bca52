-- One shelf's map moves over to another: the eight stay in good order, and the pool holds the machine with both lists rewritten.
use Rattle.std.proofs.Common.{◌≡◌, ℕ, ◌+◌, ◌-◌, ◌*◌, ◌<◌, ◌≤◌, ltb, ◌≢◌, List, [], ◌∷◌, length, get_or, set, None, Option, sym, refl, ap, ◌∙◌, subst, arith, length-set, get_or-set_other, get_or-set_same}
use native.Mathlib.Decide.{ℕ_discrete}
use Rattle.keys.specs.Model.{KeyModel, KeyLaws}
use Rattle.trees.specs.Tree.{Tree, times, uses_if_any, size_if_any, entries_if_any}
use Rattle.trees.specs.Find.{lookup}
use Rattle.trees.proofs.Sizes.{size_entries_if_any}
use Rattle.pool.specs.declared.node.Node.{Node}
use Rattle.pool.specs.declared.account.Account.{Account}
use Rattle.pool.specs.declared.shelf.Shelf.{Shelf}
use Rattle.pool.specs.declared.book.Book.{Book}
use Rattle.pool.specs.Slice.{Chain}
use Rattle.pool.specs.GoodOrder.{States, Arranged, total, empty_row}
use Rattle.pool.specs.Machine.{Machine, moved_over, record_at}
use Rattle.pool.specs.Holds.{Holds}
use Rattle.pool.specs.Walks.{BesideBoth, Left}
use Rattle.pool.specs.Books.{keys_after, SettledOver}
use Rattle.pool.proofs.Sums.{sum, sum_same, sizes, size_within, three_nodes}
use Rattle.pool.proofs.Told.{all_in_use}
use Rattle.pool.proofs.After.{most, total_set, two_within, map_kept}

module _ {K V : Type 0} where
  -- two shelves apart from each other, together with all others
  sizes_two : (ns : List (Node K V)) (ts : List (Option (Tree K V))) (d s : ℕ) → d < length ts → s < length ts → d ≢ s → size_if_any (get_or ts d None) + size_if_any (get_or ts s None) ≤ sizes ns ts
  sizes_two ns ts d s ld ls ne =
      let gone = emptied ts s ls in
      let rest = size_within ns (set ts s None) d (rw length-set ld) in
      let same : size_if_any (get_or (set ts s None) d None) ≡ size_if_any (get_or ts d None) = ap size_if_any (get_or-set_other ts s d None None ne) in
      omega (arith, gone, rest, same) where
        emptied : (ts : List (Option (Tree K V))) (s : ℕ) → s < length ts → sizes ns (set ts s None) + size_if_any (get_or ts s None) ≡ sizes ns ts
        emptied [] s l = absurd (omega (arith, l))
        emptied (o ∷ os) ℕ.zero l = omega arith
        emptied (o ∷ os) (ℕ.suc s) l = omega (arith, emptied os s (omega (arith, l)))

  -- a third shelf beside the two
  three_within : (j : ℕ) (ts : List (Option (Tree K V))) (d s s' : ℕ) → d < length ts → s < length ts → s' < length ts → d ≢ s → s' ≢ d → s' ≢ s
      → uses_if_any j (get_or ts s' None) + uses_if_any j (get_or ts d None) + uses_if_any j (get_or ts s None) ≤ total j ts
  three_within j ts d s s' ld ls l' ne nd ns =
      let gone = total_set j ts s None ls in
      let two = two_within j (set ts s None) d s' (rw length-set ld) (rw length-set l') nd in
      let same : uses_if_any j (get_or (set ts s None) d None) ≡ uses_if_any j (get_or ts d None) = ap (uses_if_any j) (get_or-set_other ts s d None None ne) in
      let same' : uses_if_any j (get_or (set ts s None) s' None) ≡ uses_if_any j (get_or ts s' None) = ap (uses_if_any j) (get_or-set_other ts s s' None None ns) in
      omega (arith, gone, two, same, same')

module _ {K V : Type 0} (κ : KeyModel K) (law : KeyLaws κ) (join : V → V → V) (ns : List (Node K V)) (book : Book) (m : Machine K V) (h : Holds κ join ns book m)
    (d s : ℕ) (d8 : d < 8) (s8 : s < 8) (ne : d ≢ s) where
  ld : d < length h.maps
  ld = omega (arith, d8, h.order.eight)

  ls : s < length h.maps
  ls = omega (arith, s8, h.order.eight)

  -- what a walk over both maps may assume
  pub beside_both_at : BesideBoth ns book.account (get_or h.maps d None) (get_or h.maps s None) h.chain
  beside_both_at = record {
    linked = h.order.linked;
    counted = h.order.counted;
    once = λ j. omega (arith, two_within j h.maps s d ls ld ne, h.order.once j, most (ltb j (length ns)));
    few = omega (arith, sizes_two ns h.maps d s ld ls ne, all_in_use κ law join ns book m h, h.order.counted);
  }

  module _ (ns' : List (Node K V)) (book' : Book) (finds : K → Option V) (after : Account) (root : Option ℕ)
      (left : Left κ ns ns' finds (λ j. uses_if_any j (get_or h.maps d None) + uses_if_any j (get_or h.maps s None) + times j h.chain) book.account after root) (len : length ns' ≡ length ns) where
    -- the nodes of maps and chain are the same in number
    balance_over : size_if_any left.map + after.free ≡ size_if_any (get_or h.maps d None) + size_if_any (get_or h.maps s None) + book.account.free
    balance_over =
        let o = get_or h.maps d None in
        let q = get_or h.maps s None in
        let a = three_nodes ns o q h.chain _ (h.order.each d d8).stands (h.order.each s s8).stands h.order.linked in
        let b = three_nodes ns' left.map None left.chain _ left.standing.stands tt left.linked in
        let c = sum_same (length ns) (λ j. uses_if_any j left.map + 0 + times j left.chain) (λ j. uses_if_any j o + uses_if_any j q + times j h.chain) (λ j. omega (arith, left.used j)) in
        let e : sum (length ns') (λ j. uses_if_any j left.map + 0 + times j left.chain) ≡ sum (length ns) (λ j. uses_if_any j left.map + 0 + times j left.chain) = ap (λ n. sum n (λ j. uses_if_any j left.map + 0 + times j left.chain)) len in
        omega (arith, a, b, c, e, left.counted, h.order.counted)

    -- so the row's count follows from the free nodes
    keys_counted_over : keys_after (get_or book.shelves d empty_row).keys (book.account.free + (2 * (get_or book.shelves s empty_row).keys - 1)) after.free ≡ length (entries_if_any left.map)
    keys_counted_over =
        let o = get_or h.maps d None in
        let q = get_or h.maps s None in
        let few : size_if_any left.map ≤ 4096 = omega (arith, balance_over, sizes_two ns h.maps d s ld ls ne, all_in_use κ law join ns book m h, book.account.bounds) in
        omega (arith, balance_over, few, size_entries_if_any o, size_entries_if_any q, size_entries_if_any left.map, (h.order.each d d8).counted, (h.order.each s s8).counted)

    module _ (settled : SettledOver book book' d s root after) where
      abbrev row_over : Shelf
      row_over = record { root = root; keys = length (entries_if_any left.map) }

      rows_over : book'.shelves ≡ set (set book.shelves s empty_row) d row_over
      rows_over = settled.rows ∙ ap (λ n. set (set book.shelves s empty_row) d (record { root = root; keys = n })) keys_counted_over

      -- what the three sorts of shelves hold now
      states_over : (s' : ℕ) → s' < 8 → States κ ns' (get_or (set (set book.shelves s empty_row) d row_over) s' empty_row) (get_or (set (set h.maps s None) d left.map) s' None)
      states_over s' l8 =
          let lr : d < length (set book.shelves s empty_row) = rw length-set (omega (arith, d8, book.eight)) in
          let lt : d < length (set h.maps s None) = rw length-set ld in
          elim (ℕ_discrete s' d) [
            | yes e ↦ subst (λ z. States κ ns' (get_or (set (set book.shelves s empty_row) d row_over) z empty_row) (get_or (set (set h.maps s None) d left.map) z None)) (sym e)
                (rw (get_or-set_same (set book.shelves s empty_row) d row_over empty_row lr, get_or-set_same (set h.maps s None) d left.map None lt)
                (record { rooted = left.standing.rooted; counted = refl; stands = left.standing.stands; ordered = left.standing.ordered }))
            | no nd ↦ rw (get_or-set_other (set book.shelves s empty_row) d s' row_over empty_row nd, get_or-set_other (set h.maps s None) d s' left.map None nd)
                (elim (ℕ_discrete s' s) [
                  | yes e ↦ subst (λ z. States κ ns' (get_or (set book.shelves s empty_row) z empty_row) (get_or (set h.maps s None) z None)) (sym e)
                      (rw (get_or-set_same book.shelves s empty_row empty_row (omega (arith, s8, book.eight)), get_or-set_same h.maps s None None ls)
                      (record { rooted = refl; counted = refl; stands = tt; ordered = tt }))
                  | no n' ↦ rw (get_or-set_other book.shelves s s' empty_row empty_row n', get_or-set_other h.maps s s' None None n')
                      (let row = h.order.each s' l8 in
                      record {
                        rooted = row.rooted;
                        counted = row.counted;
                        ordered = row.ordered;
                        stands = map_kept ns ns' (get_or h.maps s' None)
                            (λ j hj x at. left.kept j (omega (arith, three_within j h.maps d s s' ld ls (omega (arith, l8, h.order.eight)) ne nd n', hj, h.order.once j, most (ltb j (length ns)))) x at) row.stands;
                      })
                ])
          ]

      arranged_over : Arranged κ ns' book' (set (set h.maps s None) d left.map) left.chain
      arranged_over = record {
        whole = len ∙ h.order.whole ∙ sym left.capacity ∙ ap (λ a. a.capacity) (sym settled.account);
        eight = length-set (set h.maps s None) d _ ∙ length-set h.maps s _ ∙ h.order.eight;
        each = λ s' l8. subst (λ z. States κ ns' (get_or z s' empty_row) (get_or (set (set h.maps s None) d left.map) s' None)) (sym rows_over) (states_over s' l8);
        linked = subst (λ (a : Account). Chain ns' a.head left.chain) (sym settled.account) left.linked;
        counted = left.counted ∙ ap (λ a. a.free) (sym settled.account);
        once = λ j. rw len (
            let gone = total_set j h.maps s None ls in
            let new = total_set j (set h.maps s None) d left.map (rw length-set ld) in
            let same : uses_if_any j (get_or (set h.maps s None) d None) ≡ uses_if_any j (get_or h.maps d None) = ap (uses_if_any j) (get_or-set_other h.maps s d None None ne) in
            omega (arith, gone, new, same, left.used j, h.order.once j));
      }

      -- the pool holds the machine whose shelf s is empty and whose shelf d has a list that finds what the map finds
      pub holds_over : (us : List (K × V)) → ((k : K) → finds k ≡ record_at κ join us k) → Holds κ join ns' book' (moved_over m d s us)
      holds_over us same = record {
        maps = set (set h.maps s None) d left.map;
        chain = left.chain;
        order = arranged_over;
        capacity = h.capacity ∙ sym left.capacity ∙ ap (λ a. a.capacity) (sym settled.account);
        eight = length-set (set m.heard s []) d _ ∙ length-set m.heard s _ ∙ h.eight;
        found = λ s' l8 k.
            let lm : d < length (set m.heard s []) = rw length-set (omega (arith, d8, h.eight)) in
            let lt : d < length (set h.maps s None) = rw length-set ld in
            elim (ℕ_discrete s' d) [
              | yes e ↦ subst (λ z. lookup κ (entries_if_any (get_or (set (set h.maps s None) d left.map) z None)) k ≡ record_at κ join (get_or (set (set m.heard s []) d us) z []) k) (sym e)
                  (rw (get_or-set_same (set h.maps s None) d left.map None lt, get_or-set_same (set m.heard s []) d us [] lm) (left.found k ∙ same k))
              | no nd ↦ rw (get_or-set_other (set h.maps s None) d s' left.map None nd, get_or-set_other (set m.heard s []) d s' us [] nd)
                  (elim (ℕ_discrete s' s) [
                    | yes e ↦ subst (λ z. lookup κ (entries_if_any (get_or (set h.maps s None) z None)) k ≡ record_at κ join (get_or (set m.heard s []) z []) k) (sym e)
                        (rw (get_or-set_same h.maps s None None ls, get_or-set_same m.heard s [] [] (omega (arith, s8, h.eight))) refl)
                    | no n' ↦ rw (get_or-set_other h.maps s s' None None n', get_or-set_other m.heard s s' [] [] n') (h.found s' l8 k)
                  ])
            ];
      }
