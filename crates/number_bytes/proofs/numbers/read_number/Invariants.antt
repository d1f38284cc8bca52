use Rattle.std.proofs.Common.{◌≡◌, ◌^◌, ◌<◌, take}
use Rattle.number_bytes.specs.BigEndian.{from_big_endian}
use Rattle.number_bytes.proofs.numbers.read_number.Given as goal

-- what the bytes so far write
abbrev pub invariant-loop-byte : goal.invariant-loop-byte
invariant-loop-byte l = (l.n ≡ from_big_endian (take l.byte-index l.bytes)) × (l.n < 2 ^ 64)
