use Rattle.std.proofs.Common.{◌^◌, arith}
use Rattle.script.specs.Values.{lamp}
use Rattle.script.proofs.Readers.{value_read, number_none, number_read, lamp_read}
use Rattle.script.proofs.words.Words.record.Goals as goal

pub returns-in_err-number : goal.returns-in_err-number
unfolding lamp
returns-in_err-number c =
    let none = value_read _ (2 ^ 32) (omega arith) _ _ c.in_err-number.ensures.reads_a_number in
    record { reads_a_record = rw (c.from_residual.ensures, number_none _ _ none) }

pub returns-in_err-number-2 : goal.returns-in_err-number-2
unfolding lamp
returns-in_err-number-2 c =
    let hours = value_read _ (2 ^ 32) (omega arith) _ _ c.in_ok-number.ensures.reads_a_number in
    let none = value_read _ (2 ^ 16) (omega arith) _ _ c.in_err-number-2.ensures.reads_a_number in
    record { reads_a_record = rw (c.from_residual-in_err-number-2.ensures, number_read _ _ _ _ hours, number_none _ _ none) }

pub returns-in_err-number-3 : goal.returns-in_err-number-3
unfolding lamp
returns-in_err-number-3 c =
    let hours = value_read _ (2 ^ 32) (omega arith) _ _ c.in_ok-number.ensures.reads_a_number in
    let tags = value_read _ (2 ^ 16) (omega arith) _ _ c.in_ok-number-2.ensures.reads_a_number in
    let none = value_read _ (2 ^ 32) (omega arith) _ _ c.in_err-number-3.ensures.reads_a_number in
    record { reads_a_record = rw (c.from_residual-in_err-number-3.ensures, number_read _ _ _ _ hours, number_read _ _ _ _ tags, number_none _ _ none) }

pub returns-in_err-number-4 : goal.returns-in_err-number-4
unfolding lamp
returns-in_err-number-4 c =
    let hours = value_read _ (2 ^ 32) (omega arith) _ _ c.in_ok-number.ensures.reads_a_number in
    let tags = value_read _ (2 ^ 16) (omega arith) _ _ c.in_ok-number-2.ensures.reads_a_number in
    let stamp = value_read _ (2 ^ 32) (omega arith) _ _ c.in_ok-number-3.ensures.reads_a_number in
    let none = value_read _ (2 ^ 16) (omega arith) _ _ c.in_err-number-4.ensures.reads_a_number in
    record { reads_a_record = rw (c.from_residual-in_err-number-4.ensures, number_read _ _ _ _ hours, number_read _ _ _ _ tags, number_read _ _ _ _ stamp, number_none _ _ none) }

pub returns-in_err-number-5 : goal.returns-in_err-number-5
unfolding lamp
returns-in_err-number-5 c =
    let hours = value_read _ (2 ^ 32) (omega arith) _ _ c.in_ok-number.ensures.reads_a_number in
    let tags = value_read _ (2 ^ 16) (omega arith) _ _ c.in_ok-number-2.ensures.reads_a_number in
    let stamp = value_read _ (2 ^ 32) (omega arith) _ _ c.in_ok-number-3.ensures.reads_a_number in
    let source = value_read _ (2 ^ 16) (omega arith) _ _ c.in_ok-number-4.ensures.reads_a_number in
    let none = value_read _ (2 ^ 16) (omega arith) _ _ c.in_err-number-5.ensures.reads_a_number in
    record { reads_a_record = rw (c.from_residual-in_err-number-5.ensures, number_read _ _ _ _ hours, number_read _ _ _ _ tags, number_read _ _ _ _ stamp, number_read _ _ _ _ source, number_none _ _ none) }

pub returns : goal.returns
returns c =
    let hours = value_read _ (2 ^ 32) (omega arith) _ _ c.in_ok-number.ensures.reads_a_number in
    let tags = value_read _ (2 ^ 16) (omega arith) _ _ c.in_ok-number-2.ensures.reads_a_number in
    let stamp = value_read _ (2 ^ 32) (omega arith) _ _ c.in_ok-number-3.ensures.reads_a_number in
    let source = value_read _ (2 ^ 16) (omega arith) _ _ c.in_ok-number-4.ensures.reads_a_number in
    let word = value_read _ (2 ^ 16) (omega arith) _ _ c.in_ok-number-5.ensures.reads_a_number in
    record { reads_a_record = lamp_read _ _ _ _ _ _ _ _ _ _ _ hours tags stamp source word _ _ _ }
