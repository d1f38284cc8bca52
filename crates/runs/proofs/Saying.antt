-- From what each call promises, by its answer, to what the machine says.
use Rattle.std.proofs.Common.{◌≡◌, ℕ, ◌<◌, Bool, false, cond, ltb, List, [], ◌∷◌, Ok, Err, sym, ap, ◌∙◌, subst, arith, lt-ltb}
use Rattle.std.proofs.lemmas.Bool.{le-ltb, cond-true, cond-false}
use Rattle.keys.specs.Model.{KeyModel}
use Rattle.causes.specs.declared.cause.Cause.TheVariants.{NoSuchShelf, TooFewNodes}
use Rattle.pool.specs.declared.node.Node.{Node}
use Rattle.pool.specs.declared.book.Book.{Book}
use Rattle.pool.specs.declared.refusal.WalkRefusal.{WalkRefusal}
use Rattle.pool.specs.declared.refusal.WalkRefusal.TheVariants as walk
use Rattle.pool.specs.declared.refusal.GrowRefusal.{GrowRefusal}
use Rattle.pool.specs.declared.refusal.GrowRefusal.TheVariants as grow
use Rattle.pool.specs.declared.refusal.CountRefusal.{CountRefusal}
use Rattle.pool.specs.declared.refusal.CountRefusal.TheVariants as count
use Rattle.pool.specs.Books.{count_cause, walk_cause, grow_cause}
use Rattle.pool.specs.Machine.{Machine, list_of, count_of}
use Rattle.pool.specs.Holds.{Holds}
use Rattle.pool.specs.Promises.{Asked, Called, Grown}
use Rattle.maps.specs.Counts.{Counted}
use Rattle.runs.specs.Runs.{Reply, on_shelf, from_shelf}
use Rattle.runs.specs.declared.answer.Answer.TheVariants.{Done, Number}

over : (s : ℕ) → (s < 8 → ⊥) → ltb s 8 ≡ false
over s no_shelf = le-ltb s 8 (omega arith)

module _ {K V : Type 0} (s : ℕ) where
  pub shelf_there : s < 8 → (a : Reply K V) → on_shelf s a ≡ a
  shelf_there l a = cond-true _ _ _ (lt-ltb s 8 l)

  pub shelf_missing : (s < 8 → ⊥) → (a : Reply K V) → Err NoSuchShelf ≡ on_shelf s a
  shelf_missing none a = sym (cond-false _ _ _ (over s none))

  pub machine_there : s < 8 → (after m : Machine K V) → after ≡ from_shelf s after m
  machine_there l after m = sym (cond-true _ _ _ (lt-ltb s 8 l))

  pub machine_missing : (s < 8 → ⊥) → (after m : Machine K V) → m ≡ from_shelf s after m
  machine_missing none after m = sym (cond-false _ _ _ (over s none))

module _ {K V A : Type 0} (κ : KeyModel K) (join : V → V → V) (ns : List (Node K V)) (book : Book) (s : ℕ) (answer : Machine K V → A) (f : A → Reply K V) (m : Machine K V) (h : Holds κ join ns book m) where
  pub asked_ok : (a : A) → Asked κ join ns book (s ∷ []) answer (Ok a) → f a ≡ on_shelf s (f (answer m))
  asked_ok a p = ap f (p.2 m h) ∙ sym (shelf_there s p.0.0 (f (answer m)))

  pub asked_err : (e : WalkRefusal) → Asked κ join ns book (s ∷ []) answer (Err e) → Err (walk_cause e) ≡ on_shelf s (f (answer m))
  asked_err walk.NoSuchShelf p = shelf_missing s (λ l. p (l, tt)) (f (answer m))
  asked_err walk.OutOfOrder p = absurd (p.1 m h)

module _ {K V : Type 0} (κ : KeyModel K) (join : V → V → V) (ns ns' : List (Node K V)) (book book' : Book) (s : ℕ) (m : Machine K V) (h : Holds κ join ns book m) where
  -- what is unchanged holds the machine that it held
  same_held : (ns' ≡ ns) × (book' ≡ book) → Holds κ join ns' book' m
  same_held same = rw (same.0, same.1) h

  -- a shelf that there is not: the machine stays, whatever the call would leave on a shelf that there is
  kept : (ns' ≡ ns) × (book' ≡ book) → (s < 8 → ⊥) → (after : Machine K V) → Holds κ join ns' book' (from_shelf s after m)
  kept same none after = rw (machine_missing s none after m) at same_held same

module _ {K V A : Type 0} (κ : KeyModel K) (join : V → V → V) (ns ns' : List (Node K V)) (book book' : Book) (s : ℕ) (answer : Machine K V → A) (after : Machine K V → Machine K V) (f : A → Reply K V) (m : Machine K V) (h : Holds κ join ns book m) where
  pub called_ok : (a : A) → Called κ join ns ns' book book' (s ∷ []) answer after (Ok a) → (f a ≡ on_shelf s (f (answer m))) × Holds κ join ns' book' (from_shelf s (after m) m)
  called_ok a p =
      let done = p.3 m h in
      (ap f done.0 ∙ sym (shelf_there s p.0.0 (f (answer m))), subst (Holds κ join ns' book') (machine_there s p.0.0 (after m) m) done.1)

  pub called_err : (e : WalkRefusal) → Called κ join ns ns' book book' (s ∷ []) answer after (Err e) → (Err (walk_cause e) ≡ on_shelf s (f (answer m))) × Holds κ join ns' book' (from_shelf s (after m) m)
  called_err walk.NoSuchShelf p = (shelf_missing s (λ l. p.0 (l, tt)) (f (answer m)), kept κ join ns ns' book book' s m h p.1 (λ l. p.0 (l, tt)) (after m))
  called_err walk.OutOfOrder p = absurd (p.1 m h)

module _ {K V : Type 0} (κ : KeyModel K) (join : V → V → V) (ns ns' : List (Node K V)) (book book' : Book) (s : ℕ) (fits : Machine K V → Bool) (after : Machine K V → Machine K V) (m : Machine K V) (h : Holds κ join ns book m) where
  pub grown_ok : (a : Unit {0}) → Grown {A = Unit {0}} κ join ns ns' book book' (s ∷ []) fits (λ _. tt) after (Ok a)
      → (◌≡◌ {A = Reply K V} (Ok Done) (on_shelf s (cond (fits m) (Ok Done) (Err TooFewNodes)))) × Holds κ join ns' book' (from_shelf s (cond (fits m) (after m) m) m)
  grown_ok a p =
      let done = p.3 m h in (
        sym (shelf_there s p.0.0 _ ∙ ap (λ b. cond b (Ok Done) (Err TooFewNodes)) done.0),
        subst (Holds κ join ns' book') (sym (ap (λ b. cond b (after m) m) done.0) ∙ machine_there s p.0.0 (cond (fits m) (after m) m) m) done.2,
      )

  pub grown_err : (e : GrowRefusal) → Grown {A = Unit {0}} κ join ns ns' book book' (s ∷ []) fits (λ _. tt) after (Err e)
      → (◌≡◌ {A = Reply K V} (Err (grow_cause e)) (on_shelf s (cond (fits m) (Ok Done) (Err TooFewNodes)))) × Holds κ join ns' book' (from_shelf s (cond (fits m) (after m) m) m)
  grown_err grow.NoSuchShelf p = (shelf_missing s (λ l. p.0 (l, tt)) _, kept κ join ns ns' book book' s m h p.1 (λ l. p.0 (l, tt)) (cond (fits m) (after m) m))
  grown_err grow.OutOfOrder p = absurd (p.1 m h)
  grown_err grow.TooFewNodes p =
      let short = p.2 m h in (
        sym (shelf_there s p.0.0 _ ∙ ap (λ b. cond b (Ok Done) (Err TooFewNodes)) short.0),
        subst (Holds κ join ns' book') (sym (ap (λ b. cond b (after m) m) short.0) ∙ machine_there s p.0.0 (cond (fits m) (after m) m) m)
            (same_held κ join ns ns' book book' s m h short.1),
      )

module _ {K V : Type 0} (κ : KeyModel K) (join : V → V → V) (ns : List (Node K V)) (book : Book) (m : Machine K V) where
  pub counted_ok : (s : ℕ) → Holds κ join ns book m → (n : ℕ) → Counted κ join book s (Ok n) → ◌≡◌ {A = Reply K V} (Ok (Number n)) (on_shelf s (Ok (Number (count_of κ (list_of m s)))))
  counted_ok s h n p = ap (λ n. Ok (Number n)) (p.1 ns m h) ∙ sym (shelf_there s p.0 (Ok (Number (count_of κ (list_of m s)))))

  pub counted_err : (s : ℕ) → Holds κ join ns book m → (e : CountRefusal) → Counted κ join book s (Err e) → ◌≡◌ {A = Reply K V} (Err (count_cause e)) (on_shelf s (Ok (Number (count_of κ (list_of m s)))))
  counted_err s h count.NoSuchShelf p = shelf_missing s (λ l. omega (arith, l, p)) (Ok (Number (count_of κ (list_of m s))))
