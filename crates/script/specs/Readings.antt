-- Readings: what is taken from the front of a list of words.
use Rattle.std.specs.Prelude.{ℕ, ◌^◌, Bool, true, false, cond, List, [], ◌∷◌, Some, None, Option, Result, ◌≡◌}
use Rattle.std.specs.Result.{result_ok}
use Rattle.script.specs.Numerals.{numeral, Below, below}

-- a reading gives a value and the words that are left, or nothing
abbrev pub Reading : Type 0 → Type 0
Reading A = List (List ℕ) → Option (A × List (List ℕ))

-- a value where there is one, with every word left
abbrev pub given : {A : Type 0} → Option A → Reading A
given None ws = None
given (Some x) ws = Some (x, ws)

-- a value, with every word left
abbrev pub return : {A : Type 0} → A → Reading A
return x = given (Some x)

-- what is read after a first reading, from its value and the words that it left
abbrev pub following : {A B : Type 0} → Option (A × List (List ℕ)) → (A → Reading B) → Option (B × List (List ℕ))
following None f = None
following (Some x) f = f x.0 x.1

-- one reading after another; where one gives nothing, so do both
abbrev pub ◌>>=◌ : {A B : Type 0} → Reading A → (A → Reading B) → Reading B
◌>>=◌ p f ws = following (p ws) f

-- whether no word is left
abbrev pub ended : List (List ℕ) → Bool
ended [] = true
ended (w ∷ ws) = false

-- a reading that may be left out at the end of the words: a value, or none where no word is left
abbrev pub optional : {A : Type 0} → Reading A → Reading (Option A)
optional p ws = cond (ended ws) (return None ws) (following (p ws) (λ x. return (Some x)))

-- the next word, as a number below the limit
unfoldable pub number : (limit : ℕ) → Reading (Below limit)
number limit [] = None
number limit (w ∷ ws) = given (below limit (numeral 0 w)) ws

-- the same, and the number alone
unfoldable pub value : ℕ → Reading ℕ
value limit = do
  n ← number limit
  return n.value

-- a number that was read gives what the conversion makes of it, and nothing where the conversion fails
abbrev pub Converted : {T E : Type 0} → (ℕ → Result T E → Type 0) → Option (ℕ × List (List ℕ)) → Option (T × List (List ℕ)) → Type 0
Converted gives None read = read ≡ None
Converted {T} {E} gives (Some x) read = (t : Result T E) × gives x.0 t × (given (result_ok t) x.1 ≡ read)

-- the number of a shelf has 8 bits
abbrev pub shelf : Reading ℕ
shelf = value (2 ^ 8)

-- a number of nodes has 32 bits
abbrev pub nodes : Reading ℕ
nodes = value (2 ^ 32)
