use Rattle.std.proofs.Common.{◌≡◌, ◌++◌, length, drop}
use Rattle.number_bytes.specs.BigEndian.{big_endian}
use Rattle.number_bytes.proofs.numbers.write_number.Given as goal

-- what is still to be written, before what stands already
abbrev pub invariant-loop-i : goal.invariant-loop-i
invariant-loop-i l = big_endian l.i l.rest ++ drop l.i l.out ≡ big_endian (length l.initial.out) l.n
