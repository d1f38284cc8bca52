-- A call that is printed as its line reads back.
use Rattle.std.proofs.Common.{◌≡◌, ℕ, ◌+◌, ◌-◌, ◌*◌, ◌^◌, ◌<◌, ◌≤◌, true, List, [], ◌∷◌, length, Ok, Some, None, decimal, refl, ap, ◌∙◌, arith, rules}
use Rattle.std.specs.Char.{is_ascii_digit}
use Rattle.std.specs.List.{AllByRecursion}
use Rattle.std.specs.Str.{all_ascii_digits}
use Rattle.std.proofs.lemmas.Fmt.{digits_decimal, digits_value-decimal, decimal_nonempty}
use Rattle.std.proofs.lemmas.Str.Parse.{IsNumeralModel, numerals_by_fold}
use Rattle.std.proofs.lemmas.Bool.{and_parts, leb-true}
use Rattle.keys.specs.declared.values.Word.{Word}
use Rattle.script.specs.declared.call.Call.{Call}
use Rattle.script.specs.declared.call.Call.TheVariants.{Open, Put, Look, Remove, Next, List as Listing, Clear, Count, Free}
use Rattle.script.specs.Forms.{meaning}
use Rattle.script.specs.Numerals.{numeral}
use Rattle.script.specs.Agreement.{Fitting, Agrees}
use Rattle.script.specs.Printing.{call_words}
use Rattle.script.specs.Readings.{number, value, shelf, nodes}
use Rattle.script.specs.Values.{Lamp, key, lamp, key_word, lamp_words}
use Rattle.script.proofs.Digits.{below_fits}
use Rattle.script.proofs.Spaced.{Letter, Solid, words_spaced}

-- the number that digits spell, as a number alone
abbrev read_on : ℕ → List ℕ → ℕ
read_on n [] = n
read_on n (c ∷ cs) = read_on (n * 10 + (c - 48)) cs

own : IsNumeralModel (λ ds. all_ascii_digits ds ≡ true) (read_on 0)
own = numerals_by_fold _ (search rules) read_on (search rules)

numeral_digits : (n : ℕ) (ds : List ℕ) → all_ascii_digits ds ≡ true → numeral n ds ≡ Some (read_on n ds)
unfolding numeral
numeral_digits n [] h = refl
numeral_digits n (c ∷ cs) h =
    let parts = and_parts (is_ascii_digit c) (all_ascii_digits cs) h in
    rw parts.0 (numeral_digits (n * 10 + (c - 48)) cs parts.1)

letters_digits : (ds : List ℕ) → all_ascii_digits ds ≡ true → AllByRecursion Letter ds
letters_digits [] h = tt
letters_digits (c ∷ cs) h =
    let parts = and_parts (is_ascii_digit c) (all_ascii_digits cs) h in
    let low = leb-true 48 c (and_parts _ _ parts.0).0 in
    (omega arith, letters_digits cs parts.1)

module _ (n : ℕ) (h : n < 2 ^ 64) where
  solid_decimal : Solid (decimal n)
  solid_decimal = record { some = decimal_nonempty n h; letters = letters_digits (decimal n) (digits_decimal own n h) }

  numeral_decimal : numeral 0 (decimal n) ≡ Some n
  numeral_decimal = numeral_digits 0 (decimal n) (digits_decimal own n h) ∙ ap (λ (m : ℕ). Some m) (digits_value-decimal own n h)

-- a printed number is read as that number
number_decimal : (limit n : ℕ) (ws : List (List ℕ)) (fits : n < limit) → limit ≤ 2 ^ 64 → number limit (decimal n ∷ ws) ≡ Some (record { value = n; fits = fits }, ws)
unfolding number
number_decimal limit n ws fits small =
    let room : n < 2 ^ 64 = omega arith in
    rw (numeral_decimal n room, below_fits limit n fits)

value_decimal_read : (limit n : ℕ) (ws : List (List ℕ)) → n < limit → limit ≤ 2 ^ 64 → value limit (decimal n ∷ ws) ≡ Some (n, ws)
unfolding value
value_decimal_read limit n ws fits small = rw (number_decimal limit n ws fits small)

lamp_solid : (r : Lamp) → AllByRecursion Solid (lamp_words r)
lamp_solid r =
    let set = r.second.second.fits in (
      solid_decimal _ (omega (arith, r.first.fits)),
      (
        solid_decimal _ (omega (arith, r.second.first.fits)),
        (
          solid_decimal _ (omega (arith, set.0)),
          (solid_decimal _ (omega (arith, set.1)), (solid_decimal _ (omega (arith, set.2)), tt)),
        ),
      ),
    )

-- a printed record, key and call are read as they were
lamp_reads : (r : Lamp) → lamp (lamp_words r) ≡ Some (r, [])
unfolding lamp
lamp_reads r =
    let hours = r.first in
    let tags = r.second.first in
    let set = r.second.second in
    let wide : 2 ^ 32 ≤ 2 ^ 64 = omega arith in
    let narrow : 2 ^ 16 ≤ 2 ^ 64 = omega arith in
    rw (
      number_decimal (2 ^ 32) hours.count _ hours.fits wide,
      number_decimal (2 ^ 16) tags.bits _ tags.fits narrow,
      number_decimal (2 ^ 32) set.stamp _ set.fits.0 wide,
      number_decimal (2 ^ 16) set.source _ set.fits.1 narrow,
      number_decimal (2 ^ 16) set.word _ set.fits.2 narrow,
    )

key_reads : (k : Word) (ws : List (List ℕ)) → key (key_word k ∷ ws) ≡ Some (k, ws)
unfolding key
key_reads k ws = rw (number_decimal (2 ^ 32) k.light ws k.fits (omega arith))

shelf_reads : (s : ℕ) (ws : List (List ℕ)) → s < 2 ^ 8 → shelf (decimal s ∷ ws) ≡ Some (s, ws)
shelf_reads s ws h = value_decimal_read (2 ^ 8) s ws h (omega arith)

nodes_reads : (n : ℕ) (ws : List (List ℕ)) → n < 2 ^ 32 → nodes (decimal n ∷ ws) ≡ Some (n, ws)
nodes_reads n ws h = value_decimal_read (2 ^ 32) n ws h (omega arith)

meaning_reads : (c : Call) → Fitting c → meaning (call_words c) ≡ Ok (Some c)
meaning_reads (Open n) h = rw (nodes_reads n [] h)
meaning_reads (Put s k r) h = rw (shelf_reads s _ h, key_reads k _, lamp_reads r)
meaning_reads (Look s k) h = rw (shelf_reads s _ h, key_reads k _)
meaning_reads (Remove s k) h = rw (shelf_reads s _ h, key_reads k _)
meaning_reads (Next s None) h = rw (shelf_reads s _ h)
meaning_reads (Next s (Some k)) h = rw (shelf_reads s _ h, key_reads k _)
meaning_reads (Listing s) h = rw (shelf_reads s _ h)
meaning_reads (Clear s) h = rw (shelf_reads s _ h)
meaning_reads (Count s) h = rw (shelf_reads s _ h)
meaning_reads Free h = refl

shelf_solid : (s : ℕ) → s < 2 ^ 8 → Solid (decimal s)
shelf_solid s h = solid_decimal s (omega arith)

key_solid : (k : Word) → Solid (key_word k)
key_solid k = solid_decimal k.light (omega (arith, k.fits))

name_solid : (w : List ℕ) → 0 < length w → AllByRecursion Letter w → Solid w
name_solid w h j = record { some = h; letters = j }

call_solid : (c : Call) → Fitting c → AllByRecursion Solid (call_words c)
call_solid (Open n) h = (name_solid _ (omega arith) (omega arith), (solid_decimal n (omega arith), tt))
call_solid (Put s k r) h = (name_solid _ (omega arith) (omega arith), (shelf_solid s h, (key_solid k, lamp_solid r)))
call_solid (Look s k) h = (name_solid _ (omega arith) (omega arith), (shelf_solid s h, (key_solid k, tt)))
call_solid (Remove s k) h = (name_solid _ (omega arith) (omega arith), (shelf_solid s h, (key_solid k, tt)))
call_solid (Next s None) h = (name_solid _ (omega arith) (omega arith), (shelf_solid s h, tt))
call_solid (Next s (Some k)) h = (name_solid _ (omega arith) (omega arith), (shelf_solid s h, (key_solid k, tt)))
call_solid (Listing s) h = (name_solid _ (omega arith) (omega arith), (shelf_solid s h, tt))
call_solid (Clear s) h = (name_solid _ (omega arith) (omega arith), (shelf_solid s h, tt))
call_solid (Count s) h = (name_solid _ (omega arith) (omega arith), (shelf_solid s h, tt))
call_solid Free h = (name_solid _ (omega arith) (omega arith), tt)

pub agrees : Agrees
agrees c h = ap meaning (words_spaced (call_words c) (call_solid c h)) ∙ meaning_reads c h
