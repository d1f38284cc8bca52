-- A pool whose nodes are all free holds the empty machine; and a pool in good order holds the machine of its entries.
use Rattle.std.proofs.Common.{◌≡◌, ℕ, zero, suc, ◌+◌, ◌<◌, ◌≤◌, Bool, true, false, cond, ltb, List, [], ◌∷◌, map, length, get_or, replicate, Some, None, Option, sym, refl, ap, ◌∙◌, arith, ltb-false, ltb-true, le-ltb, lt-ltb, eqb-true}
use Rattle.keys.specs.Model.{KeyModel, number}
use Rattle.trees.specs.Tree.{Tree, one, times, entries_if_any}
use Rattle.trees.specs.Find.{same_key, lookup}
use Rattle.trees.proofs.Distinct.{Distinct}
use Rattle.trees.proofs.Lookup.{lookup_same_number}
use Rattle.pool.specs.declared.node.Node.{Node}
use Rattle.pool.specs.declared.node.Node.TheVariants.{Free}
use Rattle.pool.specs.declared.book.Book.{Book}
use Rattle.pool.specs.Slice.{At, Chain}
use Rattle.pool.specs.GoodOrder.{GoodOrder, empty_row}
use Rattle.trees.specs.Union.{both}
use Rattle.pool.specs.Machine.{Machine, opened, record_at}
use Rattle.pool.specs.Holds.{Holds}
use Rattle.pool.proofs.Sums.{one_same, one_other}
use Rattle.pool.proofs.Told.{map_distinct}

pub get_or_alike : {A : Type 0} (n : ℕ) (x : A) (s : ℕ) → get_or (replicate n x) s x ≡ x
get_or_alike zero x s = refl
get_or_alike (suc n) x zero = refl
get_or_alike (suc n) x (suc s) = get_or_alike n x s

-- the numbers from i on, k of them
abbrev count_up : ℕ → ℕ → List ℕ
count_up i zero = []
count_up i (suc k) = i ∷ count_up (suc i) k

length_count_up : (i k : ℕ) → length (count_up i k) ≡ k
length_count_up i zero = refl
length_count_up i (suc k) = ap suc (length_count_up (suc i) k)

times_before : (j i k : ℕ) → j < i → times j (count_up i k) ≡ 0
times_before j i zero h = refl
times_before j i (suc k) h = omega (arith, times_before j (suc i) k (omega arith), one_other i j (λ e. omega (arith, e)))

times_count_up : (j i k : ℕ) → i ≤ j → times j (count_up i k) ≡ cond (ltb j (i + k)) 1 0
times_count_up j i zero h = sym (ap (λ b. cond b 1 0) (le-ltb j (i + 0) (omega arith)))
times_count_up j i (suc k) h = step (ltb i j) refl (times_count_up j (suc i) k) where
  further : ltb j (suc i + k) ≡ ltb j (i + suc k)
  further = let e : suc i + k ≡ i + suc k = omega arith in ap (ltb j) e

  step : (b : Bool) → ltb i j ≡ b → (suc i ≤ j → times j (count_up (suc i) k) ≡ cond (ltb j (suc i + k)) 1 0)
      → one i j + times j (count_up (suc i) k) ≡ cond (ltb j (i + suc k)) 1 0
  step true e rest =
      let l : i < j = ltb-true i j e in
      let w : ◌≡◌ {A = ℕ} (cond (ltb j (suc i + k)) 1 0) (cond (ltb j (i + suc k)) 1 0) = ap (λ b. cond b 1 0) further in
      omega (arith, rest l, one_other i j (λ q. omega (arith, q, l)), w)
  step false e rest =
      let same : i ≡ j = omega (arith, ltb-false i j e) in
      let w : ◌≡◌ {A = ℕ} (cond (ltb j (i + suc k)) 1 0) 1 = ap (λ b. cond b 1 0) (lt-ltb j (i + suc k) (omega arith)) in
      omega (arith, one_same i j same, times_before j (suc i) k (omega arith), w)

module _ {K V : Type 0} (κ : KeyModel K) (ns : List (Node K V)) (free : (j : ℕ) → j < length ns → At ns j (Free (j + 1))) where
  chain_up : (i k : ℕ) → i + k ≡ length ns → Chain ns i (count_up i k)
  chain_up i zero e = tt
  chain_up i (suc k) e = (refl, (suc i, step, chain_up (suc i) k (omega arith))) where
    step : At ns i (Free (suc i))
    step = let h = free i (omega arith) in let n : i + 1 ≡ suc i = omega arith in rw n at h

  pub opened_holds : (book : Book) (n : ℕ) → length ns ≡ n → book.account.capacity ≡ length ns → book.account.free ≡ length ns → book.account.head ≡ 0 → book.shelves ≡ replicate 8 empty_row
      → (join : V → V → V) → Holds κ join ns book (opened n)
  opened_holds book n len cap fr hd rows join = record {
    maps = replicate 8 None;
    chain = count_up 0 (length ns);
    order = record {
      whole = sym cap;
      eight = refl;
      each = λ s h. rw (rows, get_or_alike 8 empty_row s, get_or_alike {A = Option (Tree K V)} 8 None s) (record { rooted = refl; counted = refl; stands = tt; ordered = tt });
      linked = rw hd (chain_up 0 (length ns) (omega arith));
      counted = length_count_up 0 (length ns) ∙ sym fr;
      once = λ j. let z : 0 + length ns ≡ length ns = omega arith in
          let w : ◌≡◌ {A = ℕ} (cond (ltb j (0 + length ns)) 1 0) (cond (ltb j (length ns)) 1 0) = ap (λ n. cond (ltb j n) 1 0) z in
          omega (arith, times_count_up j 0 (length ns) (omega arith), w);
    };
    capacity = sym len ∙ sym cap;
    eight = refl;
    found = λ s h k. rw (get_or_alike {A = Option (Tree K V)} 8 None s, get_or_alike {A = List (K × V)} 8 [] s) refl;
  }

module _ {K V : Type 0} (κ : KeyModel K) (join : V → V → V) where
  -- in a list without repeats the record at a key is the one listed
  pub record_distinct : (es : List (K × V)) → Distinct κ es → (k : K) → lookup κ es k ≡ record_at κ join es k
  record_distinct [] d k = refl
  record_distinct (e ∷ es) d k = step (same_key κ e.0 k) refl (record_distinct es d.1 k) where
    step : (b : Bool) → same_key κ e.0 k ≡ b → lookup κ es k ≡ record_at κ join es k → cond b (Some e.1) (lookup κ es k) ≡ both join (cond b (Some e.1) None) (record_at κ join es k)
    step true q rest =
        let none : record_at κ join es k ≡ None = sym rest ∙ lookup_same_number κ es k e.0 (sym (eqb-true (number κ e.0) (number κ k) q)) ∙ d.0 in
        sym (ap (both join (Some e.1)) none)
    step false q rest = rest

  lists_at : (maps : List (Option (Tree K V))) (s : ℕ) → get_or (map entries_if_any maps) s [] ≡ entries_if_any (get_or maps s None)
  lists_at [] s = refl
  lists_at (o ∷ os) zero = refl
  lists_at (o ∷ os) (suc s) = lists_at os s

  length_lists : (maps : List (Option (Tree K V))) → length (map entries_if_any maps) ≡ length maps
  length_lists [] = refl
  length_lists (o ∷ os) = ap suc (length_lists os)

  pub held_machine : (ns : List (Node K V)) (book : Book) → GoodOrder κ ns book → (m : Machine K V) × Holds κ join ns book m
  held_machine ns book (maps, (chain, order)) = (
    record { capacity = book.account.capacity; heard = map entries_if_any maps },
    record {
      maps = maps;
      chain = chain;
      order = order;
      capacity = refl;
      eight = length_lists maps ∙ order.eight;
      found = λ s h k. record_distinct (entries_if_any (get_or maps s None)) (map_distinct κ (get_or maps s None) (order.each s h).ordered) k
          ∙ ap (λ us. record_at κ join us k) (sym (lists_at maps s));
    },
  )
