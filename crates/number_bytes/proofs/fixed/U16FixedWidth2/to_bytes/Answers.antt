use Rattle.std.proofs.Common.{sym, ◌∙◌}
use Rattle.number_bytes.proofs.ClosedForms.{big_endian_two}
use Rattle.number_bytes.proofs.fixed.U16FixedWidth2.to_bytes.Goals as goal

pub returns : goal.returns
returns c = record { written = c.to_be_bytes.ensures ∙ sym (big_endian_two c.args.self) }
