use Rattle.std.proofs.Common.{◌≡◌, ◌++◌, length, ap, ◌∙◌, ap₂, arith}
use Rattle.std.proofs.lemmas.Grind.{common_steps}
use Rattle.number_bytes.specs.BigEndian.{big_endian}
use Rattle.number_bytes.proofs.BigEndian.{length_big_endian}
use Rattle.records.specs.ListParts.{filled_in_three}
use Rattle.records.proofs.setting.SettingRecordKind.write.Goals as goal

pub returns-clause-fills_its_width : goal.returns-clause-fills_its_width
returns-clause-fills_its_width c h e =
    let s = c.args.self in
    let xs = c.write.new.out in
    let ys = c.write-2.new.out in
    let zs = c.write-3.new.out in
    let stamp : xs ≡ big_endian 4 s.stamp = c.write.ensures.fills_so_many (grind (arith, common_steps)) in
    let source : ys ≡ big_endian 2 s.source = c.write-2.ensures.fills_so_many (grind (arith, common_steps)) in
    let word : zs ≡ big_endian 2 s.word = c.write-3.ensures.fills_so_many (grind (arith, common_steps)) in
    filled_in_three 4 2 2 c.args.out.now xs ys zs (ap length stamp ∙ length_big_endian 4 s.stamp) (ap length source ∙ length_big_endian 2 s.source) e
    ∙ ap₂ ◌++◌ stamp (ap₂ ◌++◌ source word)
