-- What it means to write a record into a slice and to read one from bytes.
-- `width` is the kind's width and `bytes` what it writes. A kind wider than 64 bytes promises none of this.
use Rattle.std.specs.Prelude.{◌≡◌, ℕ, ◌≤◌, List, length, Option, MatchOption, ◌≢◌}

-- a slice of exactly the kind's width is filled with the record's bytes
abbrev pub Fills : ℕ → List ℕ → List ℕ → List ℕ → Type 0
Fills width bytes before after = width ≤ 64 → length before ≡ width → after ≡ bytes

-- a slice of any other length stays as it was
abbrev pub Spares : ℕ → List ℕ → List ℕ → Type 0
Spares width before after = width ≤ 64 → (length before ≢ width) → after ≡ before

-- a record is read exactly where one writes these bytes, and it is that record
abbrev pub Reads : {V : Type 0} → ℕ → (V → List ℕ) → List ℕ → Option V → Type 0
Reads {V} width bytes input read = width ≤ 64 → MatchOption read ((a : V) → bytes a ≢ input) (λ a. bytes a ≡ input)
