-- A put is refused for want of nodes exactly where the machine refuses it.
use Rattle.std.proofs.Common.{◌≡◌, ℕ, ◌+◌, ◌-◌, ◌*◌, ◌<◌, ◌≤◌, Bool, true, false, cond, leb, List, [], ◌∷◌, ◌++◌, length, get_or, Some, None, Option, refl, ap, ◌∙◌, arith, le-leb}
use borrow.Author.Tests.{lt-leb}
use Rattle.keys.specs.Model.{KeyModel, KeyLaws}
use Rattle.trees.specs.Tree.{Tree, size_if_any, entries_if_any}
use Rattle.trees.specs.Find.{lookup}
use Rattle.trees.proofs.Sizes.{size_entries_if_any, entries_pos}
use Rattle.pool.specs.declared.node.Node.{Node}
use Rattle.pool.specs.declared.book.Book.{Book}
use Rattle.pool.specs.Machine.{Machine, list_of, listed, count_of, free_in, new_key_needs, needs, put_fits}
use Rattle.pool.specs.Holds.{Holds}
use Rattle.pool.specs.Walks.{new_key_takes}
use Rattle.pool.proofs.Counts.{any, count_of_pos, count_of_snoc}
use Rattle.pool.proofs.Told.{keys_told, listed_told, free_told}

module _ {K V : Type 0} (κ : KeyModel K) (law : KeyLaws κ) where
  -- an empty map is an empty list, so both need as many nodes for a new key
  same_needs : (o : Option (Tree K V)) (us : List (K × V)) → length (entries_if_any o) ≡ count_of κ us → new_key_takes o ≡ new_key_needs κ us
  same_needs None [] e = refl
  same_needs None (u ∷ us) e = absurd (omega (arith, e, count_of_pos κ law u us))
  same_needs (Some t) [] e = absurd (omega (arith, e, entries_pos t))
  same_needs (Some t) (u ∷ us) e = refl

module _ {K V : Type 0} (κ : KeyModel K) (law : KeyLaws κ) (join : V → V → V) (ns : List (Node K V)) (book : Book) (m : Machine K V) (h : Holds κ join ns book m) (s : ℕ) (l8 : s < 8) (key : K) where
  needs_told : new_key_takes (get_or h.maps s None) ≡ new_key_needs κ (list_of m s)
  needs_told = same_needs κ law (get_or h.maps s None) (list_of m s) (keys_told κ law join ns book m h s l8)

  pub put_refused : lookup κ (entries_if_any (get_or h.maps s None)) key ≡ None → book.account.free < new_key_takes (get_or h.maps s None) → put_fits κ m s key ≡ false
  put_refused absent few =
      let unlisted : listed κ (list_of m s) key ≡ false = listed_told κ law join ns book m h s l8 key ∙ ap any absent in
      let nd : needs κ (list_of m s) key ≡ new_key_needs κ (list_of m s) = ap (λ b. cond b 0 (new_key_needs κ (list_of m s))) unlisted in
      lt-leb (needs κ (list_of m s) key) (free_in κ m) (omega (arith, few, nd, needs_told, free_told κ law join ns book m h))

  -- where the new map has one key more, or none, there were nodes enough
  pub put_accepted : (v : V) (o : Option (Tree K V)) (free : ℕ) → length (entries_if_any o) ≡ count_of κ (list_of m s ++ ((key, v) ∷ [])) →
      size_if_any o + free ≡ size_if_any (get_or h.maps s None) + book.account.free → put_fits κ m s key ≡ true
  put_accepted v o free keys balance =
      step (listed κ (list_of m s) key) (keys ∙ count_of_snoc κ law (list_of m s) (key, v)) where
        step : (b : Bool) → length (entries_if_any o) ≡ count_of κ (list_of m s) + cond b 0 1 → leb (cond b 0 (new_key_needs κ (list_of m s))) (free_in κ m) ≡ true
        step true e = le-leb 0 (free_in κ m) (omega arith)
        step false e =
            le-leb (new_key_needs κ (list_of m s)) (free_in κ m)
            (fits (get_or h.maps s None) (size_entries_if_any (get_or h.maps s None)) (keys_told κ law join ns book m h s l8) needs_told balance) where
              fits : (w : Option (Tree K V)) → size_if_any w ≡ 2 * length (entries_if_any w) - 1 → length (entries_if_any w) ≡ count_of κ (list_of m s) → new_key_takes w ≡ new_key_needs κ (list_of m s)
                  → size_if_any o + free ≡ size_if_any w + book.account.free → new_key_needs κ (list_of m s) ≤ free_in κ m
              fits None z k n b = omega (arith, z, k, n, b, e, size_entries_if_any o, free_told κ law join ns book m h)
              fits (Some t) z k n b = omega (arith, z, k, n, b, e, size_entries_if_any o, entries_pos t, free_told κ law join ns book m h)
