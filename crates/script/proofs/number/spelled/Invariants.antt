use Rattle.std.proofs.Common.{◌≡◌, ◌^◌, ◌<◌, drop}
use Rattle.script.specs.Numerals.{numeral}
use Rattle.script.proofs.number.spelled.Given as goal

abbrev pub invariant-loop-byte : goal.invariant-loop-byte
invariant-loop-byte l = (numeral l.number (drop l.byte-index l.word) ≡ numeral 0 l.word) × (l.number < 2 ^ 32)
