use Rattle.std.proofs.Common.{ap, ◌∙◌}
use Rattle.script.specs.Splitting.{words, words_in, uncommented}
use Rattle.script.proofs.words.Words.of.Goals as goal

pub returns : goal.returns
unfolding words
returns c = record {
  has_all_words = ap words_in (c.without_comment.ensures.cuts_the_comment ∙ ap uncommented c.without_return.ensures.cuts_the_return);
}
