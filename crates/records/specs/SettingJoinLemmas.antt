-- That no two settings have one rank, for the proof that the order of a join does not matter.
use Rattle.std.specs.Prelude.{◌≡◌}
use Rattle.std.proofs.Common.{arith}
use Rattle.records.specs.declared.values.Setting.{Setting}
use Rattle.records.specs.Joins.{setting_rank}
use Rattle.records.specs.SameValues.{setting_same}

-- settings of one rank are the same, since source and word fit two bytes each
pub same_from_rank : (a b : Setting) → setting_rank a ≡ setting_rank b → a ≡ b
same_from_rank a b e = setting_same a b (omega arith) (omega arith) (omega arith)
