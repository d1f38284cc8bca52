use Rattle.std.proofs.Common.{length, sym, ap, ◌∙◌, arith, rules}
use Rattle.std.proofs.lemmas.List.{nil_from_length}
use Rattle.std.proofs.lemmas.Bool.{eqb-true}
use Rattle.script.specs.Splitting.{words_in}
use Rattle.script.proofs.Splits.{words_in_none, first_word, word_end_le}
use Rattle.script.proofs.words.WordsIterator.next.Goals as goal

pub returns-then-is_empty-clause-steps : goal.returns-then-is_empty-clause-steps
returns-then-is_empty-clause-steps c =
    let text = c.without_blanks-text.result.now in
    let none = nil_from_length text (eqb-true _ _ (sym c.if-is_empty.ensures)) in
    let ended = sym c.self.view_is ∙ sym c.without_blanks-text.ensures.has_the_same_words ∙ ap words_in none ∙ words_in_none in
    (ended, ended)

pub split_at-requires : goal.split_at-requires
split_at-requires c = omega (arith, c.word_length.ensures.ends_at_the_blank, word_end_le c.without_blanks-text.result.now)

pub returns-clause-steps : goal.returns-clause-steps
returns-clause-steps c =
    let text = c.without_blanks-text in
    let first = first_word text.result.now _ _ c.word_length.result (sym c.if-is_empty.ensures) text.ensures.begins_a_word c.word_length.ensures.ends_at_the_blank c.split_at.ensures.front c.split_at.ensures.back in
    sym c.self.view_is ∙ sym text.ensures.has_the_same_words ∙ first

pub returns-clause-goes : goal.returns-clause-goes
returns-clause-goes c =
    let text = c.without_blanks-text in
    let first = first_word text.result.now _ _ c.word_length.result (sym c.if-is_empty.ensures) text.ensures.begins_a_word c.word_length.ensures.ends_at_the_blank c.split_at.ensures.front c.split_at.ensures.back in
    let fewer = ap length (sym c.self.view_is ∙ sym text.ensures.has_the_same_words ∙ first) in
    search rules
