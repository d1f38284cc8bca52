-- Words that are printed with a space between two are the words of that line.
use Rattle.std.proofs.Common.{◌≡◌, ℕ, zero, suc, ◌-◌, ◌<◌, false, eqb, List, [], ◌∷◌, ◌++◌, length, get_or, refl, ap, ◌∙◌, arith}
use Rattle.std.specs.List.{AllByRecursion}
use Rattle.std.proofs.ByRecursion.{All-append, All-weaker}
use Rattle.std.proofs.lemmas.Bool.{ne_eqb, or_from}
use Rattle.script.specs.Printing.{spaced}
use Rattle.script.specs.Splitting.{blank, unreturned, uncommented, in_front, pieces, filled, words_in, words}

-- a byte that no rule on lines speaks of: digits and letters are such
abbrev pub Letter : ℕ → Type 0
Letter b = 35 < b

-- a byte that ends no line and begins no comment
abbrev Ink : ℕ → Type 0
Ink b = (eqb b 13 ≡ false) × (eqb b 35 ≡ false)

-- a word of letters
pub record Solid (w : List ℕ) : Type 0 where
  pub some : 0 < length w
  pub letters : AllByRecursion Letter w

letter_blank : (b : ℕ) → Letter b → blank b ≡ false
letter_blank b h = or_from _ _ (ne_eqb b 32 (omega arith)) (ne_eqb b 9 (omega arith))

letter_ink : (b : ℕ) → Letter b → Ink b
letter_ink b h = (ne_eqb b 13 (omega arith), ne_eqb b 35 (omega arith))

last_ink : (line : List ℕ) (i : ℕ) → AllByRecursion Ink line → eqb (get_or line i 0) 13 ≡ false
last_ink [] i h = refl
last_ink (b ∷ bs) zero h = h.0.0
last_ink (b ∷ bs) (suc i) h = last_ink bs i h.1

unreturned_ink : (line : List ℕ) → AllByRecursion Ink line → unreturned line ≡ line
unfolding unreturned
unreturned_ink line h = rw (last_ink line (length line - 1) h)

uncommented_ink : (line : List ℕ) → AllByRecursion Ink line → uncommented line ≡ line
unfolding uncommented
uncommented_ink [] h = refl
uncommented_ink (b ∷ bs) h = rw h.0.1 (ap (λ (t : List ℕ). b ∷ t) (uncommented_ink bs h.1))

pieces_alone : (w : List ℕ) → AllByRecursion Letter w → pieces w ≡ w ∷ []
unfolding pieces in_front
pieces_alone [] h = refl
pieces_alone (b ∷ bs) h = rw (letter_blank b h.0, pieces_alone bs h.1)

pieces_front : (w rest : List ℕ) → AllByRecursion Letter w → pieces (w ++ (32 ∷ rest)) ≡ w ∷ pieces rest
unfolding pieces in_front
pieces_front [] rest h = refl
pieces_front (b ∷ bs) rest h = rw (letter_blank b h.0, pieces_front bs rest h.1)

filled_front : (w : List ℕ) (ps : List (List ℕ)) → 0 < length w → filled (w ∷ ps) ≡ w ∷ filled ps
unfolding filled
filled_front [] ps h = absurd (omega arith)
filled_front (b ∷ bs) ps h = refl

words_in_spaced : (ws : List (List ℕ)) → AllByRecursion Solid ws → words_in (spaced ws) ≡ ws
unfolding words_in filled pieces
words_in_spaced [] h = refl
words_in_spaced (w ∷ []) h = rw (pieces_alone w h.0.letters) (filled_front w [] h.0.some)
words_in_spaced (w ∷ v ∷ ws) h =
    rw (pieces_front w (spaced (v ∷ ws)) h.0.letters) (filled_front w (pieces (spaced (v ∷ ws))) h.0.some ∙ ap (λ (t : List (List ℕ)). w ∷ t) (words_in_spaced (v ∷ ws) h.1))

spaced_ink : (ws : List (List ℕ)) → AllByRecursion Solid ws → AllByRecursion Ink (spaced ws)
spaced_ink [] h = tt
spaced_ink (w ∷ []) h = All-weaker Letter Ink letter_ink w h.0.letters
spaced_ink (w ∷ v ∷ ws) h =
    All-append Ink w (32 ∷ spaced (v ∷ ws)) (All-weaker Letter Ink letter_ink w h.0.letters) ((refl, refl), spaced_ink (v ∷ ws) h.1)

pub words_spaced : (ws : List (List ℕ)) → AllByRecursion Solid ws → words (spaced ws) ≡ ws
unfolding words
words_spaced ws h =
    let ink = spaced_ink ws h in
    ap (λ (t : List ℕ). words_in (uncommented t)) (unreturned_ink (spaced ws) ink)
    ∙ ap words_in (uncommented_ink (spaced ws) ink)
    ∙ words_in_spaced ws h
