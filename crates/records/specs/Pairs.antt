-- The code and the width of a pair, from those of its parts.
use Rattle.std.specs.Prelude.{ℕ, ◌+◌, ◌*◌, ◌%◌, min}

-- the parts' codes give the pair's, within two bytes
abbrev pub pair_code : ℕ → ℕ → ℕ
pair_code first second = (256 + 16 * first + second) % 65536

-- the sum of the parts' widths where it is at most 64, else 65, which means too wide for files
abbrev pub pair_width : ℕ → ℕ → ℕ
pair_width first second = min (first + second) 65
