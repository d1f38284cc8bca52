use Rattle.std.proofs.Math.Nat.{zero-add}
use Rattle.std.proofs.Common.{◌≡◌, ℕ, ◌+◌, ◌^◌, ◌<◌, ◌≤◌, ◌/◌, ◌%◌, nat_eq, sym, ap, ◌∙◌, arith, pow_mono, shr_lt, ◌-◌}
use Rattle.std.specs.Prelude.{Option, Some, None}
use Rattle.std.specs.Option.{SomeIff, unwrap_or}
use Rattle.keys.specs.Binary.{inside}
use Rattle.keys.specs.Bits.{digit}
use Rattle.keys.proofs.numbers.number_bit.Goals as goal

-- a shift by too many bits for the type would give 0, which is what stands in for it
shifted : (r : Option ℕ) (n k : ℕ) → n < 2 ^ 64 → SomeIff r (k < 64) (n / 2 ^ k) → unwrap_or r 0 ≡ n / 2 ^ k
shifted (Some x) n k h s = s.1
shifted None n k h s =
    let wide : 64 ≤ k = omega (arith, s) in
    let fits : n < 2 ^ (0 + k) = rw zero-add (omega (arith, h, pow_mono wide)) in
    let small : n / 2 ^ k < 2 ^ 0 = shr_lt 0 k fits in
    omega arith

pub returns : goal.returns
returns c =
    let k = c.args.places - 1 - c.args.place in
    let at : c.unwrap_or.result ≡ c.args.number / 2 ^ k = c.unwrap_or.ensures ∙ shifted c.checked_shr.result c.args.number k c.ranges.number.fits c.checked_shr.ensures in
    record {
      is_bit_of_number = ap (λ (x : ℕ). nat_eq (x % 2) 1) at
          ∙ sym (inside c.args.places c.args.place (digit c.args.number k) c.if-place-places.false);
    }
