use Rattle.std.proofs.Common.{take, ap, ◌∙◌, rules, tests}
use Rattle.std.proofs.lemmas.Iterator.{YieldsList-from_slice}
use Rattle.std.proofs.lemmas.Iterator.Search.{position_from_yields_List}
use Rattle.script.specs.Splitting.{comment_mark}
use Rattle.script.proofs.Splits.{at_first, uncommented_front}
use Rattle.script.proofs.words.without_comment.Goals as goal

pub returns : goal.returns
returns c =
    let line = c.args.line.now in
    let first = position_from_yields_List comment_mark _ _ c.position.result c.position.ensures.ran (YieldsList-from_slice line (cc)) (λ x b q k. search (rules, tests)) in
    record { cuts_the_comment = ap (λ n. take n line) (c.unwrap_or-end.ensures ∙ at_first comment_mark line c.position.result first) ∙ uncommented_front line }
