-- The width of a pair is the sum of the widths where that is at most 64, so that each part is as narrow.
use Rattle.std.specs.Prelude.{◌≡◌, ℕ, ◌+◌, ◌≤◌, min}
use Rattle.std.proofs.Common.{arith}

module _ (m n : ℕ) (narrow : min (m + n) 65 ≤ 64) where
  pub first_narrow : m ≤ 64
  first_narrow = omega arith

  pub second_narrow : n ≤ 64
  second_narrow = omega arith

  pub width_sum : min (m + n) 65 ≡ m + n
  width_sum = omega arith
