-- The lower of two does not depend on their order: where neither is lower, they are the same.
use Rattle.std.specs.Prelude.{◌≡◌, refl, Bool, true, false, cond, nat_lt}
use Rattle.std.proofs.Common.{arith, ltb-true, ltb-false}
use Rattle.own_kinds.specs.declared.values.Charge.{Charge}
use Rattle.own_kinds.specs.Kinds.{lower}
use Rattle.own_kinds.specs.Same.{charge_same}

either_way : (a b : Charge) (p q : Bool) → nat_lt b.percent a.percent ≡ p → nat_lt a.percent b.percent ≡ q → cond p b a ≡ cond q a b
either_way a b true true e f = charge_same b a (omega (arith, ltb-true b.percent a.percent e, ltb-true a.percent b.percent f))
either_way a b true false e f = refl
either_way a b false true e f = refl
either_way a b false false e f = charge_same a b (omega (arith, ltb-false b.percent a.percent e, ltb-false a.percent b.percent f))

pub lower_comm : (a b : Charge) → lower a b ≡ lower b a
lower_comm a b = either_way a b (nat_lt b.percent a.percent) (nat_lt a.percent b.percent) refl refl
