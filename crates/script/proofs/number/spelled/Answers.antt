use Rattle.std.proofs.Common.{rules, ◌≡◌, ◌^◌, ◌+◌, ◌*◌, ◌<◌, ◌≤◌, drop, sym, ◌∙◌, arith}
use Rattle.script.specs.Numerals.{below}
use Rattle.script.proofs.Digits.{numeral_more, numeral_other, numeral_past, below_fits, below_over}
use Rattle.script.proofs.number.spelled.Goals as goal

pub returns-in_err-digit : goal.returns-in_err-digit
unfolding below
returns-in_err-digit c =
    let none = numeral_other c.loop-byte.number c.args.word.now c.loop-byte.byte-index c.loop-byte-test.true (rw c.from.ensures at c.in_err-digit.ensures.cases) in
    record { is_the_number = rw (c.from_residual.ensures, sym c.loop-byte.invariant.0 ∙ none) }

pub returns-in_err-number : goal.returns-in_err-number
returns-in_err-number c =
    let word = c.args.word.now in
    let i = c.loop-byte.byte-index in
    let n = c.loop-byte.number in
    let d = c.in_ok-digit.digit in
    let more = numeral_more n word i d c.loop-byte-test.true (rw c.from.ensures at c.in_ok-digit.ensures.cases) (omega (arith, c.in_ok-digit.ensures.value)) in
    let past : 2 ^ 32 ≤ n * 10 + d = search rules in
    let over = below_over (2 ^ 32) (n * 10 + d) (drop (i + 1) word) past in
    record { is_the_number = rw (c.from_residual-in_err-number.ensures, sym c.loop-byte.invariant.0 ∙ more, over) }

pub loop-byte-preserved : goal.loop-byte-preserved
loop-byte-preserved c =
    let word = c.args.word.now in
    let i = c.loop-byte.byte-index in
    let n = c.loop-byte.number in
    let d = c.in_ok-digit.digit in
    let more = numeral_more n word i d c.loop-byte-test.true (rw c.from.ensures at c.in_ok-digit.ensures.cases) (omega (arith, c.in_ok-digit.ensures.value)) in
    let same : (c.in_ok-number.number ≡ n * 10 + d) × (n * 10 + d < 2 ^ 32) = search rules in
    (rw same.0 (sym more ∙ c.loop-byte.invariant.0), omega (arith, same))

pub returns : goal.returns
returns c =
    let n = c.loop-byte.number in
    let all = numeral_past n c.args.word.now c.loop-byte.byte-index c.loop-byte-test.false in
    record { is_the_number = rw (sym c.loop-byte.invariant.0 ∙ all, below_fits (2 ^ 32) n (omega arith)) }
