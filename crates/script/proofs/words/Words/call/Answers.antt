use Rattle.std.proofs.Common.{codes, arith}
use Rattle.script.proofs.Names.{no_text, no_text_no_name}
use Rattle.script.proofs.words.Words.call.Goals as goal

pub returns-in_err-ok : goal.returns-in_err-ok
returns-in_err-ok c =
    let name = c.args.name.now in
    let broken = no_text c.from_utf8.result _ _ _ c.in_err-ok.ensures.value c.from_utf8.ensures.cases in
    record {
      reads_the_call = rw (
        c.from_residual.ensures,
        no_text_no_name name (codes "open") broken (omega arith),
        no_text_no_name name (codes "put") broken (omega arith),
        no_text_no_name name (codes "look") broken (omega arith),
        no_text_no_name name (codes "remove") broken (omega arith),
        no_text_no_name name (codes "next") broken (omega arith),
        no_text_no_name name (codes "list") broken (omega arith),
        no_text_no_name name (codes "clear") broken (omega arith),
        no_text_no_name name (codes "count") broken (omega arith),
        no_text_no_name name (codes "free") broken (omega arith),
      );
    }
