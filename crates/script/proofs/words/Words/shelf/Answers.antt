use Rattle.std.proofs.Common.{◌^◌, arith}
use Rattle.script.proofs.Readers.{value_read}
use Rattle.script.proofs.words.Words.shelf.Goals as goal

pub returns : goal.returns
returns c = record { reads_a_shelf = value_read _ (2 ^ 8) (omega arith) _ _ c.number.ensures.reads_a_number }
