-- Numbers written as bytes, the highest byte first, and the number that bytes write.
use Rattle.std.specs.Prelude.{◌≡◌, ℕ, zero, suc, ◌/◌, ◌%◌, ◌<◌, List, [], ◌∷◌, ◌++◌, length, Option, MatchOption, ◌≢◌, slice_index}
use Rattle.std.specs.Int.Digits.{number_from_digits}

-- the k lowest bytes of n, the highest of them first
unfoldable pub big_endian : ℕ → ℕ → List ℕ
big_endian zero n = []
big_endian (suc k) n = big_endian k (n / 256) ++ (n % 256 ∷ [])

-- the number that bytes write: they are its digits in base 256
abbrev pub from_big_endian : List ℕ → ℕ
from_big_endian bytes = number_from_digits 256 bytes

-- each number of the list is a byte
abbrev pub Octets : List ℕ → Type 0
Octets bytes = (i : ℕ) → slice_index bytes i < 256

-- n is the number that k bytes write, and it is written as these bytes
abbrev pub WrittenAs : ℕ → List ℕ → ℕ → Type 0
WrittenAs k bytes n = (length bytes ≡ k) × (n ≡ from_big_endian bytes) × (big_endian k n ≡ bytes)

-- k bytes give the value of the number that they write and that is written as these bytes; any other count gives none
abbrev pub ReadsNumber : {T : Type 0} → (T → ℕ) → ℕ → List ℕ → Option T → Type 0
ReadsNumber number k bytes read = MatchOption read (length bytes ≢ k) (λ x. WrittenAs k bytes (number x))
