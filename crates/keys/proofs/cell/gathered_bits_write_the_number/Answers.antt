use Rattle.keys.specs.Binary.{binary_lt}
use Rattle.keys.specs.Cells.{gathered}
use Rattle.keys.proofs.cell.gathered_bits_write_the_number.Goals as goal

pub returns : goal.returns
returns c = record { back_again = gathered; none_above = binary_lt 32 }
