-- The language of the console: what a line says, with a row for each call.
use Rattle.std.specs.Prelude.{ℕ, cond, List, [], ◌∷◌, Some, None, codes, Option, Ok, Err, Result}
use Rattle.std.specs.Str.{bytes_eq}
use Rattle.script.specs.declared.call.Call.{Call}
use Rattle.script.specs.declared.bad_line.BadLine.{BadLine}
use Rattle.script.specs.Readings.{Reading, return, ◌>>=◌, optional, shelf, nodes}
use Rattle.script.specs.Splitting.{words}
use Rattle.script.specs.Values.{key, lamp}

-- `open N`
abbrev pub open_form : Reading Call
open_form = do
  n ← nodes
  return (Call.Open n)

-- `put S K RECORD`
abbrev pub put_form : Reading Call
put_form = do
  s ← shelf
  k ← key
  r ← lamp
  return (Call.Put s k r)

-- `look S K`
abbrev pub look_form : Reading Call
look_form = do
  s ← shelf
  k ← key
  return (Call.Look s k)

-- `remove S K`
abbrev pub remove_form : Reading Call
remove_form = do
  s ← shelf
  k ← key
  return (Call.Remove s k)

-- `next S` or `next S K`
abbrev pub next_form : Reading Call
next_form = do
  s ← shelf
  k ← optional key
  return (Call.Next s k)

-- `list S`
abbrev pub list_form : Reading Call
list_form = do
  s ← shelf
  return (Call.List s)

-- `clear S`
abbrev pub clear_form : Reading Call
clear_form = do
  s ← shelf
  return (Call.Clear s)

-- `count S`
abbrev pub count_form : Reading Call
count_form = do
  s ← shelf
  return (Call.Count s)

-- `free`
abbrev pub free_form : Reading Call
free_form = return Call.Free

-- no call has the name
abbrev pub no_form : Reading Call
no_form ws = None

-- one form at one name, another at all others
abbrev pub at : List ℕ → List ℕ → Reading Call → Reading Call → Reading Call
at name word form other = cond (bytes_eq name word) form other

-- what follows each name
abbrev pub form : List ℕ → Reading Call
form name =
    at name (codes "open") open_form
    (at name (codes "put") put_form
    (at name (codes "look") look_form
    (at name (codes "remove") remove_form
    (at name (codes "next") next_form
    (at name (codes "list") list_form
    (at name (codes "clear") clear_form
    (at name (codes "count") count_form
    (at name (codes "free") free_form no_form))))))))

-- words that spell no call
abbrev pub bad : Result (Option Call) BadLine
bad = Err (record {})

-- a call is a line's only if no word is left over
abbrev pub alone : Call → List (List ℕ) → Result (Option Call) BadLine
alone c [] = Ok (Some c)
alone c (w ∷ ws) = bad

-- a line's words behind its name, read or not
abbrev pub whole : Option (Call × List (List ℕ)) → Result (Option Call) BadLine
whole None = bad
whole (Some x) = alone x.0 x.1

-- what words say: nothing, a call, or something that is no call
abbrev pub meaning : List (List ℕ) → Result (Option Call) BadLine
meaning [] = Ok None
meaning (name ∷ ws) = whole (form name ws)

-- what a line says
abbrev pub said : List ℕ → Result (Option Call) BadLine
said line = meaning (words line)
