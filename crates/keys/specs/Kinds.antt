-- Our own key kinds: the bit at each place of a word and of a chart cell.
use Rattle.std.specs.Prelude.{ℕ, ◌-◌, ◌*◌, ◌/◌, ◌%◌, Bool, false, cond, ◌==◌, nat_lt}
use Rattle.keys.specs.declared.values.Word.{Word}
use Rattle.keys.specs.declared.values.Cell.{Cell}
use Rattle.keys.specs.Bits.{digit, bits_of, binary}

-- 16 bits of a row and 16 of a column in turn, the row's first, the highest first
abbrev pub interleaved : ℕ → ℕ → ℕ → Bool
interleaved row column p = cond (nat_lt p 32) (cond (p % 2 == 0) (digit row (15 - p / 2)) (digit column (15 - p / 2))) false

-- the number that every second bit of n writes, sixteen of them, from bit `top` down
unfoldable pub every_second_bit : ℕ → ℕ → ℕ
every_second_bit n top = binary 16 (λ i. digit n (top - 2 * i))

-- a word's bits are those of its light number
abbrev pub word_bit : Word → ℕ → Bool
word_bit w = bits_of 32 w.light

-- a cell's bits take turns between its row and its column
abbrev pub cell_bit : Cell → ℕ → Bool
cell_bit c = interleaved c.row c.column
