use Rattle.std.proofs.Common.{sym}
use Rattle.keys.specs.Binary.{binary_lt, binary_bits_of}
use Rattle.keys.proofs.numbers.bits_write_their_number.Goals as goal

pub returns : goal.returns
returns c = record { back_again = λ w n small. sym (binary_bits_of w n small); none_above = binary_lt }
