-- What the console does at each call of a script, and what it says of each answer of the pool.
use Rattle.std.specs.Prelude.{ℕ, Ok, Err}
use Rattle.console.specs.declared.task.Task.{Task}
use Rattle.keys.specs.declared.values.Word.{Word}
use Rattle.runs.specs.Runs.{Reply}
use Rattle.runs.specs.declared.answer.Answer.TheVariants.{Done, Found, Entry, Number}
use Rattle.runs.specs.declared.call.Call.{Call as PoolCall}
use Rattle.runs.specs.declared.call.Call.TheVariants as pool
use Rattle.script.specs.Values.{Lamp}
use Rattle.script.specs.declared.answer.Answer.{Answer}
use Rattle.script.specs.declared.call.Call.{Call}
use Rattle.script.specs.declared.call.Call.TheVariants as script

-- what is done at each call
abbrev pub task_of : Call → Task
task_of (script.Open n) = Task.Open n
task_of (script.Put s k r) = Task.Play (pool.Put s k r)
task_of (script.Look s k) = Task.Play (pool.Look s k)
task_of (script.Remove s k) = Task.Play (pool.Remove s k)
task_of (script.Next s b) = Task.Play (pool.Next s b)
task_of (script.List s) = Task.List s
task_of (script.Clear s) = Task.Play (pool.Clear s)
task_of (script.Count s) = Task.Play (pool.Count s)
task_of script.Free = Task.Play pool.Free

-- a number: of nodes where the free ones were asked for, of keys elsewhere
abbrev pub counted : PoolCall Word Lamp → ℕ → Answer
counted (pool.Put s k r) n = Answer.Count n
counted (pool.Look s k) n = Answer.Count n
counted (pool.Remove s k) n = Answer.Count n
counted (pool.Next s b) n = Answer.Count n
counted (pool.Clear s) n = Answer.Count n
counted (pool.Count s) n = Answer.Count n
counted pool.Free n = Answer.Free n

-- what is said of what comes of a call
abbrev pub spoken : PoolCall Word Lamp → Reply Word Lamp → Answer
spoken call (Ok Done) = Answer.Done
spoken call (Ok (Found found)) = Answer.Record found
spoken call (Ok (Entry found)) = Answer.Entry found
spoken call (Ok (Number n)) = counted call n
spoken call (Err cause) = Answer.Refused cause
