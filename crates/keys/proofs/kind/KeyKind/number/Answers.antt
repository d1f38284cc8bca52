use Rattle.std.proofs.Common.{Bool, cond, ap, ◌∙◌, arith}
use Rattle.keys.specs.Binary.{binary_none, binary_next, binary_room, byte_weight, byte_le}
use Rattle.keys.proofs.kind.KeyKind.number.Goals as goal

pub loop-p-init : goal.loop-p-init
loop-p-init g c = binary_none (g.Self.KeyKind.bit c.args.self)

pub overflow_mul-n : goal.overflow_mul-n
overflow_mul-n g c =
    let w = g.met.Self.KeyKind.places_bounded in
    omega (arith, binary_room c.loop-p.n c.loop-p.p 63 (g.Self.KeyKind.bit c.args.self) c.loop-p.invariant (omega arith))

pub overflow_add-n : goal.overflow_add-n
overflow_add-n g c =
    let w = g.met.Self.KeyKind.places_bounded in
    omega (arith, byte_le c.bit_at.result, binary_room c.loop-p.n c.loop-p.p 63 (g.Self.KeyKind.bit c.args.self) c.loop-p.invariant (omega arith))

pub loop-p-preserved : goal.loop-p-preserved
loop-p-preserved g c =
    binary_next c.loop-p.n c.loop-p.p _ (g.Self.KeyKind.bit c.args.self) c.loop-p.invariant
    (byte_weight c.bit_at.result ∙ ap (λ (b : Bool). cond b 1 0) c.bit_at.ensures.is_bit)
