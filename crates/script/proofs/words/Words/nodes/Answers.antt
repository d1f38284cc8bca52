use Rattle.std.proofs.Common.{◌^◌, arith}
use Rattle.script.proofs.Readers.{value_read}
use Rattle.script.proofs.words.Words.nodes.Goals as goal

pub returns : goal.returns
returns c = record { reads_nodes = value_read _ (2 ^ 32) (omega arith) _ _ c.number.ensures.reads_a_number }
