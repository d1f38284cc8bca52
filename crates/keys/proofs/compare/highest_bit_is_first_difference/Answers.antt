use Rattle.std.proofs.Common.{◌≡◌, ℕ, ◌-◌, sym, ap, ◌∙◌, subst, arith}
use lib.Bits.{bit_xor}
use lib.Count.{count_leading_zeros}
use Rattle.keys.specs.Model.{FirstDifference}
use Rattle.keys.specs.Split.{split}
use Rattle.keys.specs.Binary.{binary_same}
use Rattle.keys.proofs.Differences.{led, xor_same}
use Rattle.keys.proofs.Splits.{split_refl, first_is_split}
use Rattle.keys.proofs.compare.highest_bit_is_first_difference.Goals as goal

pub returns : goal.returns
returns g c =
    let κ = g.K.KeyKind in
    let a = c.args.a in
    let b = c.args.b in
    record {
      equal_numbers = λ x y n e.
          let same : a ≡ b = g.met.K.KeyKind.same_bits a b (binary_same κ.PLACES (κ.bit a) (κ.bit b) (sym n.first ∙ xor_same x y e ∙ n.second)) in
          (same, ap (split κ a) (sym same) ∙ split_refl κ a);
      zeros_past_idle_places = λ x y w n e some.
          let l = led κ a b x y n.first n.second g.met.K.KeyKind.places_bounded.1 (omega arith) in
          omega (arith, l.idle);
      first_place = λ x y w n e some.
          let l = led κ a b x y n.first n.second g.met.K.KeyKind.places_bounded.1 (omega arith) in
          let first = subst (λ (v : ℕ). FirstDifference κ a b (count_leading_zeros 64 (bit_xor x y) - (64 - v))) (sym e) l.first in
          (first, first_is_split κ a b _ first);
    }
