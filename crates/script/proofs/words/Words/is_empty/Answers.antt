use Rattle.std.proofs.Common.{sym, ap, ◌∙◌}
use Rattle.script.specs.Readings.{ended}
use Rattle.script.proofs.Splits.{ended_front}
use Rattle.script.proofs.words.Words.is_empty.Goals as goal

pub returns : goal.returns
returns c =
    let text = c.without_blanks.result.now in
    let same = ap ended (c.without_blanks.ensures.has_the_same_words ∙ c.self.view_is) in
    record { tells_whether_none_is_left = c.is_empty.ensures ∙ sym (ended_front text c.without_blanks.ensures.begins_a_word) ∙ same }
