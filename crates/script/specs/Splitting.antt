-- How a line is cut into words.
use Rattle.std.specs.Prelude.{ℕ, ◌-◌, Bool, true, false, cond, ◌||◌, List, [], ◌∷◌, length, take, ◌==◌, slice_index}

-- a blank is a space or a tab
abbrev pub blank : ℕ → Bool
blank b = b == 32 || b == 9

-- `#` begins a comment
abbrev pub comment_mark : ℕ → Bool
comment_mark b = b == 35

-- the byte that some systems put before a line feed
abbrev pub carriage_return : ℕ → Bool
carriage_return b = b == 13

-- a line that ends in a carriage return, without that one byte
unfoldable pub unreturned : List ℕ → List ℕ
unreturned line = cond (carriage_return (slice_index line (length line - 1))) (take (length line - 1) line) line

-- what stands before the first comment mark
unfoldable pub uncommented : List ℕ → List ℕ
uncommented [] = []
uncommented (b ∷ bs) = cond (comment_mark b) [] (b ∷ uncommented bs)

-- a byte in front of pieces of text: a blank is an end of the piece before it, any other byte is the first of its piece
unfoldable pub in_front : Bool → ℕ → List (List ℕ) → List (List ℕ)
in_front true b ps = [] ∷ ps
in_front false b [] = (b ∷ []) ∷ []
in_front false b (p ∷ ps) = (b ∷ p) ∷ ps

-- the pieces of a text between its blanks, of which some may be empty
unfoldable pub pieces : List ℕ → List (List ℕ)
pieces [] = [] ∷ []
pieces (b ∷ bs) = in_front (blank b) b (pieces bs)

-- the pieces that are not empty
unfoldable pub filled : List (List ℕ) → List (List ℕ)
filled [] = []
filled ([] ∷ ps) = filled ps
filled ((b ∷ bs) ∷ ps) = (b ∷ bs) ∷ filled ps

-- the words of a text: its pieces that are not empty
unfoldable pub words_in : List ℕ → List (List ℕ)
words_in text = filled (pieces text)

-- the words of a line: those before its comment
unfoldable pub words : List ℕ → List (List ℕ)
words line = words_in (uncommented (unreturned line))
