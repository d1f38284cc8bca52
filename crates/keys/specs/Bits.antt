-- Numbers and bits: the digits of a number in base two, and the number that a row of bits writes.
use Rattle.std.specs.Prelude.{ℕ, zero, suc, ◌+◌, ◌-◌, ◌*◌, ◌/◌, ◌%◌, ◌^◌, Bool, false, cond, ◌==◌, nat_lt}

-- bit k of n, of which bit 0 is the lowest
abbrev pub digit : ℕ → ℕ → Bool
digit n k = n / 2 ^ k % 2 == 1

-- the bits of n in w places, the highest first
abbrev pub bits_of : ℕ → ℕ → ℕ → Bool
bits_of w n p = cond (nat_lt p w) (digit n (w - 1 - p)) false

-- the number that the first k bits of f write in base two, the first of them the highest
unfoldable pub binary : ℕ → (ℕ → Bool) → ℕ
binary zero f = 0
binary (suc k) f = binary k f * 2 + cond (f k) 1 0
