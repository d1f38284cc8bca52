-- What the book states is what every machine held says.
use Rattle.std.proofs.Common.{◌≡◌, ℕ, suc, ◌+◌, ◌<◌, List, [], ◌∷◌, length, get_or, Some, None, Option, sym, refl, ap, ◌∙◌, arith}
use Rattle.keys.specs.Model.{KeyModel, KeyLaws}
use Rattle.trees.specs.Tree.{Tree, entries_if_any, size_if_any}
use Rattle.trees.specs.Order.{OrderedIfAny}
use Rattle.trees.specs.Find.{lookup}
use Rattle.trees.proofs.Distinct.{Distinct, tree_distinct}
use Rattle.trees.proofs.Sizes.{size_entries_if_any}
use Rattle.pool.specs.declared.node.Node.{Node}
use Rattle.pool.specs.declared.book.Book.{Book}
use Rattle.pool.specs.GoodOrder.{empty_row}
use Rattle.pool.specs.Machine.{Machine, list_of, record_at, listed, count_of, used, all_used, free_in}
use Rattle.pool.specs.Holds.{Holds}
use Rattle.pool.proofs.Counts.{any, listed_lookup, listed_record, no_repeats, length_count}
use Rattle.pool.proofs.Sums.{sizes, all_stand, all_nodes}

module _ {K V : Type 0} (κ : KeyModel K) where
  pub map_distinct : (o : Option (Tree K V)) → OrderedIfAny κ o → Distinct κ (entries_if_any o)
  map_distinct None h = tt
  map_distinct (Some t) h = tree_distinct κ 0 t h

  all_sizes : (ns : List (Node K V)) (maps : List (Option (Tree K V))) (lists : List (List (K × V))) → length maps ≡ length lists →
      ((s : ℕ) → s < length maps → size_if_any (get_or maps s None) ≡ used κ (get_or lists s [])) → sizes ns maps ≡ all_used κ lists
  all_sizes ns [] [] e h = refl
  all_sizes ns [] (l ∷ ls) e h = absurd (omega (arith, e))
  all_sizes ns (o ∷ os) [] e h = absurd (omega (arith, e))
  all_sizes ns (o ∷ os) (l ∷ ls) e h = omega (arith, h 0 (omega arith), all_sizes ns os ls (omega (arith, e)) (λ s lt. h (suc s) (omega (arith, lt))))

module _ {K V : Type 0} (κ : KeyModel K) (law : KeyLaws κ) (join : V → V → V) where
  -- a map that finds the record at every key has as many entries as there are different keys
  pub keys_told_by : (o : Option (Tree K V)) (us : List (K × V)) → OrderedIfAny κ o → ((k : K) → lookup κ (entries_if_any o) k ≡ record_at κ join us k) → length (entries_if_any o) ≡ count_of κ us
  keys_told_by o us ordered found =
      length_count κ law us (entries_if_any o) (no_repeats κ (entries_if_any o) (map_distinct κ o ordered))
      (λ k. listed_lookup κ (entries_if_any o) k ∙ ap any (found k) ∙ sym (listed_record κ join us k))

module _ {K V : Type 0} (κ : KeyModel K) (law : KeyLaws κ) (join : V → V → V) (ns : List (Node K V)) (book : Book) (m : Machine K V) (h : Holds κ join ns book m) where
  pub keys_told : (s : ℕ) → s < 8 → length (entries_if_any (get_or h.maps s None)) ≡ count_of κ (list_of m s)
  keys_told s l = keys_told_by κ law join (get_or h.maps s None) (list_of m s) (h.order.each s l).ordered (h.found s l)

  pub row_told : (s : ℕ) → s < 8 → (get_or book.shelves s empty_row).keys ≡ count_of κ (list_of m s)
  row_told s l = (h.order.each s l).counted ∙ keys_told s l

  pub listed_told : (s : ℕ) → s < 8 → (k : K) → listed κ (list_of m s) k ≡ any (lookup κ (entries_if_any (get_or h.maps s None)) k)
  listed_told s l k = listed_record κ join (list_of m s) k ∙ ap any (sym (h.found s l k))

  -- all nodes are in the trees or in the chain
  pub all_in_use : sizes ns h.maps + book.account.free ≡ book.account.capacity
  all_in_use =
      let stand = all_stand ns h.maps (λ s l. (h.order.each s (omega (arith, l, h.order.eight))).stands) in
      let q = all_nodes ns h.maps book.account.head h.chain stand h.order.linked h.order.once in
      omega (arith, q, h.order.counted, h.order.whole)

  pub free_told : book.account.free ≡ free_in κ m
  free_told =
      let z = all_sizes κ ns h.maps m.heard (h.order.eight ∙ sym h.eight)
      (λ s l. let l8 : s < 8 = omega (arith, l, h.order.eight) in
      let k = keys_told s l8 in omega (arith, k, size_entries_if_any (get_or h.maps s None))) in
      omega (arith, all_in_use, z, h.capacity)
