use Rattle.std.proofs.Common.{◌≡◌, ◌-◌, ◌*◌}
use Rattle.keys.specs.Bits.{digit, binary}
use Rattle.keys.proofs.cell.gather.Given as goal

abbrev pub invariant-loop-i : goal.invariant-loop-i
invariant-loop-i l = l.r ≡ binary l.i (λ i. digit l.n (l.top - 2 * i))
