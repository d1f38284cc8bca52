-- A kind of record as contracts see it, in one: its code, its width and the bytes of each record.
use Rattle.records.specs.declared.kind.RecordKind.{Ghosts}

abbrev pub RecordModel : Type 0 → Type 1
RecordModel V = Ghosts V
