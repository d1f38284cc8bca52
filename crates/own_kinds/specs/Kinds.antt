-- The bits of a buoy, and the join of two charges.
use Rattle.std.specs.Prelude.{Bool, cond, ℕ, nat_lt}
use Rattle.keys.specs.Bits.{bits_of}
use Rattle.own_kinds.specs.declared.values.Buoy.{Buoy}
use Rattle.own_kinds.specs.declared.values.Charge.{Charge}

-- the bit at each place of a buoy: those of its number, in 20 places
abbrev pub buoy_bit : Buoy → ℕ → Bool
buoy_bit b = bits_of 20 b.number

-- the lower of two charges
abbrev pub lower : Charge → Charge → Charge
lower a b = cond (nat_lt b.percent a.percent) b a
