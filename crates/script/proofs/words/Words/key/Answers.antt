use Rattle.std.proofs.Common.{◌^◌, arith}
use Rattle.script.specs.Values.{key}
use Rattle.script.proofs.Readers.{value_read, number_none, key_read}
use Rattle.script.proofs.words.Words.key.Goals as goal

pub returns-in_err-number : goal.returns-in_err-number
unfolding key
returns-in_err-number c =
    let none = value_read _ (2 ^ 32) (omega arith) _ _ c.in_err-number.ensures.reads_a_number in
    record { reads_a_key = rw (c.from_residual.ensures, number_none _ _ none) }

pub returns : goal.returns
returns c = record { reads_a_key = key_read _ _ _ (value_read _ (2 ^ 32) (omega arith) _ _ c.in_ok-number.ensures.reads_a_number) _ }
