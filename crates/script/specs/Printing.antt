-- How calls and answers are printed: words with a space between two.
use Rattle.std.specs.Prelude.{ℕ, List, [], ◌∷◌, ◌++◌, Some, None, codes, decimal}
use Rattle.causes.specs.Causes.{number_of}
use Rattle.script.specs.declared.answer.Answer.{Answer}
use Rattle.script.specs.declared.answer.Answer.TheVariants as answer
use Rattle.script.specs.declared.call.Call.{Call}
use Rattle.script.specs.declared.call.Call.TheVariants.{Open, Put, Look, Remove, Next, List as Listing, Clear, Count, Free}
use Rattle.script.specs.Values.{key_word, lamp_words}

-- words in a line, with a space between two
abbrev pub spaced : List (List ℕ) → List ℕ
spaced [] = []
spaced (w ∷ []) = w
spaced (w ∷ v ∷ ws) = w ++ (32 ∷ spaced (v ∷ ws))

-- the words of each call
abbrev pub call_words : Call → List (List ℕ)
call_words (Open n) = codes "open" ∷ decimal n ∷ []
call_words (Put s k r) = codes "put" ∷ decimal s ∷ key_word k ∷ lamp_words r
call_words (Look s k) = codes "look" ∷ decimal s ∷ key_word k ∷ []
call_words (Remove s k) = codes "remove" ∷ decimal s ∷ key_word k ∷ []
call_words (Next s None) = codes "next" ∷ decimal s ∷ []
call_words (Next s (Some k)) = codes "next" ∷ decimal s ∷ key_word k ∷ []
call_words (Listing s) = codes "list" ∷ decimal s ∷ []
call_words (Clear s) = codes "clear" ∷ decimal s ∷ []
call_words (Count s) = codes "count" ∷ decimal s ∷ []
call_words Free = codes "free" ∷ []

-- the line that spells a call
abbrev pub line_of : Call → List ℕ
line_of c = spaced (call_words c)

-- the words of each answer
abbrev pub answer_words : Answer → List (List ℕ)
answer_words answer.Done = codes "ok" ∷ []
answer_words (answer.Record None) = codes "none" ∷ []
answer_words (answer.Record (Some r)) = codes "record" ∷ lamp_words r
answer_words (answer.Entry None) = codes "none" ∷ []
answer_words (answer.Entry (Some e)) = codes "entry" ∷ key_word e.0 ∷ lamp_words e.1
answer_words (answer.End n) = codes "end" ∷ decimal n ∷ []
answer_words (answer.Count n) = codes "count" ∷ decimal n ∷ []
answer_words (answer.Free n) = codes "free" ∷ decimal n ∷ []
answer_words (answer.Refused c) = codes "refused" ∷ decimal (number_of c) ∷ []
answer_words (answer.BadLine n) = codes "bad" ∷ codes "line" ∷ decimal n ∷ []

-- the line of an answer
abbrev pub answer_line : Answer → List ℕ
answer_line a = spaced (answer_words a)
