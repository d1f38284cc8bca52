-- What comes of writing a record into a slice and reading the slice. `before` and `after` are what the slice holds.
use Rattle.std.specs.Prelude.{◌≡◌, ℕ, ◌≤◌, List, length, Some, None, Option, ◌≢◌}
use Rattle.records.specs.Model.{RecordModel}

-- a slice of exactly the kind's width holds the record's bytes, and the very record is read
abbrev pub ReadsBack : {V : Type 0} → RecordModel V → V → List ℕ → List ℕ → Option V → Type 0
ReadsBack kind a before after read =
    kind.WIDTH ≤ 64 → length before ≡ kind.WIDTH → (after ≡ kind.bytes a) × (read ≡ Some a)

-- a slice of any other length stays as it was, and no record is read
abbrev pub Refuses : {V : Type 0} → RecordModel V → List ℕ → List ℕ → Option V → Type 0
Refuses kind before after read =
    kind.WIDTH ≤ 64 → (length before ≢ kind.WIDTH) → (after ≡ before) × (read ≡ None)
