use Rattle.std.proofs.Common.{ℕ, not, drop, ap, ◌∙◌, rules, tests}
use Rattle.std.proofs.lemmas.Iterator.{YieldsList-from_slice}
use Rattle.std.proofs.lemmas.Iterator.Search.{position_from_yields_List}
use Rattle.std.proofs.lemmas.List.{take_rest}
use Rattle.script.specs.Splitting.{blank, words_in}
use Rattle.script.proofs.Splits.{at_first, words_in_ink}
use Rattle.script.proofs.words.without_blanks.Goals as goal

pub returns-clause-has_the_same_words : goal.returns-clause-has_the_same_words
returns-clause-has_the_same_words c =
    let text = c.args.text.now in
    let ink = λ (b : ℕ). not (blank b) in
    let first = position_from_yields_List ink _ _ c.position.result c.position.ensures.ran (YieldsList-from_slice text (cc)) (λ x b q k. search (rules, tests)) in
    rw take_rest (ap (λ n. words_in (drop n text)) (c.unwrap_or-start.ensures ∙ at_first ink text c.position.result first) ∙ words_in_ink text)
