-- What a call that changed one shelf owes for every machine held.
use Rattle.std.proofs.Common.{◌≡◌, ℕ, ◌+◌, ◌<◌, true, cond, List, [], ◌∷◌, ◌++◌, length, get_or, Some, None, Option, refl, ap, ◌∙◌, ap₂}
use Rattle.keys.specs.Model.{KeyModel, KeyLaws}
use Rattle.trees.specs.Tree.{times, uses_if_any, entries_if_any}
use Rattle.trees.specs.Find.{same_key, lookup}
use Rattle.pool.specs.declared.node.Node.{Node}
use Rattle.pool.specs.declared.account.Account.{Account}
use Rattle.pool.specs.declared.book.Book.{Book}
use Rattle.pool.specs.Machine.{Machine, list_of, record_at, put_fits, after_put, after_remove, after_clear, dropped}
use Rattle.pool.specs.Holds.{Holds}
use Rattle.trees.specs.Insert.{added}
use Rattle.pool.specs.Walks.{Left}
use Rattle.pool.specs.Books.{Settled}
use Rattle.pool.proofs.Told.{keys_told_by}
use Rattle.pool.proofs.After.{balance}
use Rattle.pool.proofs.Settling.{holds_settled}
use Rattle.pool.proofs.Updates.{record_put, record_dropped}
use Rattle.pool.proofs.Fitting.{put_accepted}

module _ {K V : Type 0} (κ : KeyModel K) (law : KeyLaws κ) (join : V → V → V) (ns : List (Node K V)) (book : Book) (m : Machine K V) (h : Holds κ join ns book m) (s : ℕ) (l8 : s < 8)
    (ns' : List (Node K V)) (book' : Book) (after : Account) (root : Option ℕ) (len : length ns' ≡ length ns) (settled : Settled book book' s root after) where
  mine : ℕ → ℕ
  mine j = uses_if_any j (get_or h.maps s None) + times j h.chain

  map_finds : K → Option V
  map_finds x = lookup κ (entries_if_any (get_or h.maps s None)) x

  pub cleared : Left κ ns ns' (λ _. None) (λ j. uses_if_any j (get_or h.maps s None) + times j h.chain) book.account after root → Holds κ join ns' book' (after_clear κ m s)
  cleared left = holds_settled κ law join ns book m h s l8 ns' book' (λ _. None) after root left len settled [] (λ k. refl)

  pub removed : (key : K) → Left κ ns ns' (λ x. cond (same_key κ key x) None (lookup κ (entries_if_any (get_or h.maps s None)) x)) (λ j. uses_if_any j (get_or h.maps s None) + times j h.chain) book.account after root
      → Holds κ join ns' book' (after_remove κ m s key)
  removed key left =
      holds_settled κ law join ns book m h s l8 ns' book' _ after root left len settled (dropped κ key (list_of m s))
      (λ x. ap (cond (same_key κ key x) None) (h.found s l8 x) ∙ record_dropped κ join key (list_of m s) x)

  module _ (associative : (a b c : V) → join a (join b c) ≡ join (join a b) c) (key : K) (v : V)
      (left : Left κ ns ns' (λ x. cond (same_key κ key x) (Some (added join v (lookup κ (entries_if_any (get_or h.maps s None)) key))) (lookup κ (entries_if_any (get_or h.maps s None)) x)) (λ j. uses_if_any j (get_or h.maps s None) + times j h.chain) book.account after root) where
    finds_put : (x : K) → cond (same_key κ key x) (Some (added join v (lookup κ (entries_if_any (get_or h.maps s None)) key))) (lookup κ (entries_if_any (get_or h.maps s None)) x) ≡ record_at κ join (list_of m s ++ ((key, v) ∷ [])) x
    finds_put x =
        ap₂ (λ o q. cond (same_key κ key x) (Some (added join v o)) q) (h.found s l8 key) (h.found s l8 x)
        ∙ record_put κ join associative (list_of m s) key v x

    pub put_in : Holds κ join ns' book' (after_put κ m s key v)
    put_in = holds_settled κ law join ns book m h s l8 ns' book' _ after root left len settled (list_of m s ++ ((key, v) ∷ [])) finds_put

    pub put_fitted : put_fits κ m s key ≡ true
    put_fitted =
        put_accepted κ law join ns book m h s l8 key v left.map after.free
        (keys_told_by κ law join left.map (list_of m s ++ ((key, v) ∷ [])) left.standing.ordered (λ k. left.found k ∙ finds_put k))
        (balance κ law join ns book m h s l8 ns' book' _ after root left len)
