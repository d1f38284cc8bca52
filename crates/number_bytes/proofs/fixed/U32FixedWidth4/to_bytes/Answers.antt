use Rattle.std.proofs.Common.{sym, ◌∙◌}
use Rattle.number_bytes.proofs.ClosedForms.{big_endian_four}
use Rattle.number_bytes.proofs.fixed.U32FixedWidth4.to_bytes.Goals as goal

pub returns : goal.returns
returns c = record { written = c.to_be_bytes.ensures ∙ sym (big_endian_four c.args.self) }
