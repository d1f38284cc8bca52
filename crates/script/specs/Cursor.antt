-- Where the next word of a line ends.
use Rattle.std.specs.Prelude.{ℕ, suc, cond, List, [], ◌∷◌}
use Rattle.script.specs.Splitting.{blank}

-- how long the word is that a text begins with
unfoldable pub word_end : List ℕ → ℕ
word_end [] = 0
word_end (b ∷ bs) = cond (blank b) 0 (suc (word_end bs))
