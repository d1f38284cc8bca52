-- Calls as data: what the machine answers to each, and the machine after it; and the same of a list of calls.
use Rattle.std.specs.Prelude.{◌≡◌, ℕ, ◌<◌, ◌≤◌, cond, List, [], ◌∷◌, ◌++◌, length, drop, Ok, Err, Result, nat_lt}
use Rattle.keys.specs.Model.{KeyModel}
use Rattle.causes.specs.declared.cause.Cause.{Cause}
use Rattle.causes.specs.declared.cause.Cause.TheVariants.{NoSuchShelf, TooFewNodes}
use Rattle.pool.specs.declared.node.Node.{Node}
use Rattle.pool.specs.declared.book.Book.{Book}
use Rattle.pool.specs.Holds.{Holds}
use Rattle.runs.specs.declared.refusal.RunRefusal.{RunRefusal}
use Rattle.runs.specs.declared.refusal.RunRefusal.TheVariants.{TooFewAnswers, TooManyNodes}
use Rattle.pool.specs.Machine.{Machine, opened, list_of, record_at, next_of, count_of, free_in, put_fits, after_put, after_remove, after_clear}
use Rattle.runs.specs.declared.call.Call.{Call}
use Rattle.runs.specs.declared.call.Call.TheVariants.{Put, Look, Next, Remove, Clear, Count, Free}
use Rattle.runs.specs.declared.answer.Answer.{Answer}
use Rattle.runs.specs.declared.answer.Answer.TheVariants.{Done, Found, Entry, Number}

-- an answer, or why there is none
abbrev pub Reply : Type 0 → Type 0 → Type 0
Reply K V = Result (Answer K V) Cause

module _ {K V : Type 0} where
  -- a shelf over 7 is refused, before all else
  abbrev pub on_shelf : ℕ → Reply K V → Reply K V
  on_shelf s a = cond (nat_lt s 8) a (Err NoSuchShelf)

  -- a shelf over 7 changes nothing
  abbrev pub from_shelf : ℕ → Machine K V → Machine K V → Machine K V
  from_shelf s after m = cond (nat_lt s 8) after m

module _ {K V : Type 0} (κ : KeyModel K) (join : V → V → V) where
  -- what the machine answers
  abbrev pub said : Machine K V → Call K V → Reply K V
  said m (Put s k v) = on_shelf s (cond (put_fits κ m s k) (Ok Done) (Err TooFewNodes))
  said m (Look s k) = on_shelf s (Ok (Found (record_at κ join (list_of m s) k)))
  said m (Next s bound) = on_shelf s (Ok (Entry (next_of κ join (list_of m s) bound)))
  said m (Remove s k) = on_shelf s (Ok (Found (record_at κ join (list_of m s) k)))
  said m (Clear s) = on_shelf s (Ok Done)
  said m (Count s) = on_shelf s (Ok (Number (count_of κ (list_of m s))))
  said m Free = Ok (Number (free_in κ m))

module _ {K V : Type 0} (κ : KeyModel K) where
  -- the machine after a call
  abbrev pub step : Machine K V → Call K V → Machine K V
  step m (Put s k v) = from_shelf s (cond (put_fits κ m s k) (after_put κ m s k v) m) m
  step m (Look s k) = m
  step m (Next s bound) = m
  step m (Remove s k) = from_shelf s (after_remove κ m s k) m
  step m (Clear s) = from_shelf s (after_clear κ m s) m
  step m (Count s) = m
  step m Free = m

  -- the machine after a list of calls
  abbrev pub run : Machine K V → List (Call K V) → Machine K V
  run m [] = m
  run m (c ∷ cs) = run (step m c) cs

module _ {K V : Type 0} (κ : KeyModel K) (join : V → V → V) where
  -- what the machine answers to a list of calls, one after the other
  abbrev pub told : Machine K V → List (Call K V) → List (Reply K V)
  told m [] = []
  told m (c ∷ cs) = said κ join m c ∷ told (step κ m c) cs

module _ {K V : Type 0} (κ : KeyModel K) (join : V → V → V) (ns ns' : List (Node K V)) (calls : List (Call K V)) (answers answers' : List (Reply K V)) where
  -- a list of calls on a newly opened pool, as one claim: the answers are the machine's, so that every refusal comes exactly
  -- where the machine gives it, and the pool then holds the machine after the list; a list that is not played changes nothing
  abbrev pub Runs : Result Book RunRefusal → Type 0
  Runs (Ok book) = (length calls ≤ length answers) × (length ns ≤ 4096)
      × (answers' ≡ told κ join (opened (length ns)) calls ++ drop (length calls) answers)
      × Holds κ join ns' book (run κ (opened (length ns)) calls)
  Runs (Err TooFewAnswers) = (length answers < length calls) × (ns' ≡ ns) × (answers' ≡ answers)
  Runs (Err TooManyNodes) = (length calls ≤ length answers) × (4096 < length ns) × (ns' ≡ ns) × (answers' ≡ answers)
