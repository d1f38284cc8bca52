use Rattle.std.proofs.Common.{◌≡◌, ℕ, zero, suc, ◌+◌, ◌-◌, ◌/◌, ◌%◌, ◌<◌, ◌≤◌, List, [], ◌∷◌, ◌++◌, length, drop, set, sym, refl, ap, ◌∙◌, ap₂, append_assoc, arith}
use Rattle.std.proofs.lemmas.List.{drop-set}
use Rattle.number_bytes.specs.BigEndian.{big_endian}
use Rattle.number_bytes.proofs.numbers.write_number.Goals as goal

-- one turn: the lowest byte of what is left goes before what stands
step : (k n : ℕ) (l : List ℕ) → k < length l
    → big_endian k (n / 256) ++ drop k (set l k (n % 256)) ≡ big_endian (suc k) n ++ drop (k + 1) l
unfolding big_endian
step k n l h =
    ap (λ (t : List ℕ). big_endian k (n / 256) ++ t) (drop-set l k (n % 256) h)
    ∙ sym (append_assoc (big_endian k (n / 256)) (n % 256 ∷ []) (drop (k + 1) l))

pub loop-i-preserved : goal.loop-i-preserved
loop-i-preserved c =
    let k = c.loop-i.i - 1 in
    let up : suc k ≡ c.loop-i.i = omega arith in
    let over : k + 1 ≡ c.loop-i.i = omega arith in
    step k c.loop-i.rest c.loop-i.out (omega arith)
    ∙ ap₂ (λ (i j : ℕ). big_endian i c.loop-i.rest ++ drop j c.loop-i.out) up over
    ∙ c.loop-i.invariant

none_left : (i n : ℕ) (l : List ℕ) → i ≤ 0 → l ≡ big_endian i n ++ drop i l
unfolding big_endian
none_left zero n l h = refl
none_left (suc i) n l h = absurd (omega arith)

pub returns : goal.returns
returns c = record { lowest_bytes = none_left c.loop-i.i c.loop-i.rest c.loop-i.out (omega arith) ∙ c.loop-i.invariant }
