use Rattle.std.proofs.Common.{sym, ◌∙◌, rules, tests}
use Rattle.std.proofs.lemmas.Iterator.{YieldsList-from_slice}
use Rattle.std.proofs.lemmas.Iterator.Search.{position_from_yields_List}
use Rattle.script.specs.Splitting.{blank}
use Rattle.script.proofs.Splits.{at_first, word_end_first}
use Rattle.script.proofs.words.word_length.Goals as goal

pub returns : goal.returns
returns c =
    let text = c.args.text.now in
    let first = position_from_yields_List blank _ _ c.position.result c.position.ensures.ran (YieldsList-from_slice text (cc)) (λ x b q k. search (rules, tests)) in
    record { ends_at_the_blank = c.unwrap_or.ensures ∙ at_first blank text c.position.result first ∙ sym (word_end_first text) }
