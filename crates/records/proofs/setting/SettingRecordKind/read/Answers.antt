use Rattle.std.proofs.Common.{◌≡◌, length, sym, ap, ◌∙◌, arith, length-append}
use Rattle.number_bytes.proofs.BigEndian.{length_big_endian}
use Rattle.records.proofs.setting.SettingRecordKind.read.Goals as goal

pub returns-then-from : goal.returns-then-from
returns-then-from c = record {
  reads_what_is_written = λ h a e.
      let eight : length c.args.from.now ≡ 8 = sym (ap length e) ∙ simp (length-append, length_big_endian) in
      omega arith;
}
