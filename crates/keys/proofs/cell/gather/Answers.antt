use Rattle.std.proofs.Common.{◌≡◌, ℕ, ◌-◌, ◌*◌, sym, ap, ◌∙◌, arith}
use Rattle.keys.specs.Kinds.{every_second_bit}
use Rattle.keys.specs.Bits.{digit, binary}
use Rattle.keys.specs.Binary.{binary_none, binary_next, binary_room, digit_weight}
use Rattle.keys.proofs.cell.gather.Goals as goal

pub loop-i-init : goal.loop-i-init
loop-i-init c = binary_none (λ i. digit c.args.n (c.args.top - 2 * i))

pub overflow_mul-r : goal.overflow_mul-r
overflow_mul-r c = omega (arith, binary_room c.loop-i.r c.loop-i.i 15 (λ i. digit c.args.n (c.args.top - 2 * i)) c.loop-i.invariant (omega arith))

pub overflow_add-r : goal.overflow_add-r
overflow_add-r c = omega (arith, binary_room c.loop-i.r c.loop-i.i 15 (λ i. digit c.args.n (c.args.top - 2 * i)) c.loop-i.invariant (omega arith))

pub loop-i-preserved : goal.loop-i-preserved
loop-i-preserved c =
    binary_next c.loop-i.r c.loop-i.i _ (λ i. digit c.args.n (c.args.top - 2 * i)) c.loop-i.invariant
    (sym (digit_weight c.args.n (c.args.top - 2 * c.loop-i.i)))

pub returns : goal.returns
unfolding every_second_bit
returns c =
    let done : c.loop-i.i ≡ 16 = omega arith in
    record { is_every_second_bit = c.loop-i.invariant ∙ ap (λ (k : ℕ). binary k (λ i. digit c.args.n (c.args.top - 2 * i))) done }
