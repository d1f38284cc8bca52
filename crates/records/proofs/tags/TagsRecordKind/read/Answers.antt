use Rattle.std.proofs.Common.{length, sym, ap, ◌∙◌}
use Rattle.number_bytes.proofs.BigEndian.{length_big_endian}
use Rattle.records.proofs.Encoding.{refuses}
use Rattle.records.proofs.tags.TagsRecordKind.read.Goals as goal

pub returns-in_err-read : goal.returns-in_err-read
returns-in_err-read c = record {
  reads_what_is_written = refuses _ _ c.args.from.now _ c.from_residual.ensures
      (λ h a e. c.in_err-read.ensures.reads_so_many (sym (ap length e) ∙ length_big_endian 2 a.bits));
}
