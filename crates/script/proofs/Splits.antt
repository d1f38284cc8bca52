-- Blanks before a word, and the word that a text begins with.
use Rattle.std.proofs.Common.{◌≡◌, ℕ, suc, ◌+◌, ◌-◌, ◌<◌, ◌≤◌, Bool, true, false, not, cond, eqb, ltb, List, [], ◌∷◌, length, get_or, take, drop, Some, None, Option, MatchOption, unwrap_or, sym, refl, ap, ◌∙◌, arith}
use Rattle.std.specs.Borrow.{Bor}
use Rattle.std.specs.Cmp.Lexicographic.{pointwise}
use Rattle.std.proofs.Math.Bool.{and-true}
use Rattle.std.proofs.Math.ListN.{drop_of_length-le}
use Rattle.std.proofs.Math.Seq.{drop-cons}
use Rattle.std.specs.List.{position_or_len}
use Rattle.std.proofs.lemmas.List.Recursion.{is_position_or_len}
use Rattle.std.proofs.lemmas.List.Sums.{prefix_len-le-length}
use Rattle.script.specs.Cursor.{word_end}
use Rattle.script.specs.Readings.{ended}
use Rattle.std.proofs.lemmas.Bool.{eqb-false, ltb-false, ne_eqb}
use Rattle.script.specs.Splitting.{blank, comment_mark, carriage_return, unreturned, uncommented, in_front, pieces, filled, words_in}

pub words_in_none : words_in [] ≡ []
unfolding words_in pieces filled
words_in_none = refl

-- a blank in front adds no word
pub words_in_blank : (b : ℕ) (bs : List ℕ) → blank b ≡ true → words_in (b ∷ bs) ≡ words_in bs
unfolding words_in pieces filled in_front
words_in_blank b bs e = rw e

-- the first piece, which may be empty, and what gives the other words
record Front (text : List ℕ) : Type 0 where
  others : List (List ℕ)
  first : pieces text ≡ take (word_end text) text ∷ others
  rest : filled others ≡ words_in (drop (word_end text) text)

front : (text : List ℕ) → Front text
unfolding words_in pieces filled in_front word_end
front [] = record { others = []; first = refl; rest = refl }
front (b ∷ bs) = go (blank b) refl (front bs)
  where
    go : (t : Bool) → blank b ≡ t → Front bs → Front (b ∷ bs)
    go true e h = record { others = pieces bs; first = rw e; rest = rw (e, e) }
    go false e h = record { others = h.others; first = rw (e, h.first); rest = rw e h.rest }

-- a text that begins with no blank begins with its first word
pub words_in_front : (text : List ℕ) → 0 < length text → blank (get_or text 0 0) ≡ false → words_in text ≡ take (word_end text) text ∷ words_in (drop (word_end text) text)
unfolding words_in filled word_end
words_in_front [] h e = absurd (omega arith)
words_in_front (b ∷ bs) h e =
    let f = front (b ∷ bs) in
    ap filled f.first ∙ rw e (ap (λ (ws : List (List ℕ)). (b ∷ take (word_end bs) bs) ∷ ws) (rw e at f.rest))

-- the same of a text that was cut where its first word ends
pub first_word : (text word rest : List ℕ) (n : ℕ) → eqb (length text) 0 ≡ false → (0 < length text → blank (get_or text 0 0) ≡ false) → n ≡ word_end text → word ≡ take n text → rest ≡ drop n text → words_in text ≡ word ∷ words_in rest
first_word text word rest n some begins end front back =
    let long : 0 < length text = omega (arith, eqb-false _ _ some) in
    rw (front, back, end) (words_in_front text long (begins long))

-- a text that begins with no blank has no word only where it is empty
pub ended_front : (text : List ℕ) → (0 < length text → blank (get_or text 0 0) ≡ false) → ended (words_in text) ≡ eqb (length text) 0
ended_front [] begins = ap ended words_in_none
ended_front (b ∷ bs) begins =
    let some : 0 < length (b ∷ bs) = omega arith in
    ap ended (words_in_front (b ∷ bs) some (begins some)) ∙ sym (ne_eqb (length (b ∷ bs)) 0 (omega arith))

-- a line ends in a carriage return where its last byte is one
last_byte : (line : List ℕ) → pointwise eqb (drop (length line - 1) line) (13 ∷ []) ≡ carriage_return (get_or line (length line - 1) 0)
last_byte [] = refl
last_byte (b ∷ bs) =
    let line : List ℕ = b ∷ bs in
    let k : ℕ = length line - 1 in
    let here : k < length line = omega arith in
    let past : length line ≤ suc k = omega arith in
    rw (drop-cons line k 0 here) (alone (get_or line k 0) (drop (suc k) line) (drop_of_length-le line past))
  where
    alone : (x : ℕ) (rest : List ℕ) → rest ≡ [] → pointwise eqb (x ∷ rest) (13 ∷ []) ≡ eqb x 13
    alone x rest e = rw e (and-true (eqb x 13))

-- what is left of a line where its ending was taken off
pub returned : (line : Bor (List ℕ)) (r : Option (Bor (List ℕ))) → MatchOption r (pointwise eqb (drop (length line.now - 1) line.now) (13 ∷ []) ≡ false) (λ x. (pointwise eqb (drop (length line.now - 1) line.now) (13 ∷ []) ≡ true) × (x.now ≡ take (length line.now - 1) line.now) × (length x.now + 1 ≡ length line.now)) → (unwrap_or r line).now ≡ unreturned line.now
unfolding unreturned
returned line None h =
    let no = sym (last_byte line.now) ∙ h in
    rw no
returned line (Some x) h =
    let yes = sym (last_byte line.now) ∙ h.0 in
    rw yes h.1

-- where the first byte that passes a test stands, or else the end
pub at_first : (p : ℕ → Bool) (text : List ℕ) (r : Option ℕ) → r ≡ cond (ltb (position_or_len p text) (length text)) (Some (position_or_len p text)) None → unwrap_or r (length text) ≡ position_or_len p text
at_first p text r e = rw e (go (ltb (position_or_len p text) (length text)) refl)
  where
    go : (t : Bool) → ltb (position_or_len p text) (length text) ≡ t → unwrap_or (cond t (Some (position_or_len p text)) None) (length text) ≡ position_or_len p text
    go true h = refl
    go false h = omega (arith, ltb-false _ _ h, prefix_len-le-length (λ b. not (p b)) text)

-- a comment begins at the first comment mark
pub uncommented_front : (line : List ℕ) → take (position_or_len comment_mark line) line ≡ uncommented line
unfolding uncommented
uncommented_front [] = refl
uncommented_front (b ∷ bs) = go (comment_mark b) (uncommented_front bs)
  where
    one : 1 + position_or_len comment_mark bs ≡ suc (position_or_len comment_mark bs)
    one = omega arith

    go : (t : Bool) → take (position_or_len comment_mark bs) bs ≡ uncommented bs → take (cond (not t) (1 + position_or_len comment_mark bs) 0) (b ∷ bs) ≡ cond t [] (b ∷ uncommented bs)
    go true e = refl
    go false e = rw one (ap (λ (t : List ℕ). b ∷ t) e)

-- the blanks in front add no word
pub words_in_ink : (text : List ℕ) → words_in (drop (position_or_len (λ b. not (blank b)) text) text) ≡ words_in text
words_in_ink [] = refl
words_in_ink (b ∷ bs) = go (blank b) refl (words_in_ink bs)
  where
    ink : ℕ
    ink = position_or_len (λ c. not (blank c)) bs

    one : 1 + ink ≡ suc ink
    one = omega arith

    go : (t : Bool) → blank b ≡ t → words_in (drop ink bs) ≡ words_in bs → words_in (drop (cond (not (not t)) (1 + ink) 0) (b ∷ bs)) ≡ words_in (b ∷ bs)
    go true e h = rw one (h ∙ sym (words_in_blank b bs e))
    go false e h = refl

-- a word ends at the first blank
pub word_end_first : (text : List ℕ) → word_end text ≡ position_or_len blank text
unfolding word_end
word_end_first = is_position_or_len word_end blank refl (λ b bs. go (blank b) bs)
  where
    go : (t : Bool) (bs : List ℕ) → cond t 0 (suc (word_end bs)) ≡ cond t 0 (1 + word_end bs)
    go true bs = refl
    go false bs = omega arith

pub word_end_le : (text : List ℕ) → word_end text ≤ length text
word_end_le text = rw (word_end_first text) (prefix_len-le-length (λ b. not (blank b)) text)
