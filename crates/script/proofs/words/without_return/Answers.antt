use Rattle.std.proofs.Common.{ap, ◌∙◌}
use Rattle.script.proofs.Splits.{returned}
use Rattle.script.proofs.words.without_return.Goals as goal

pub returns : goal.returns
returns c = record { cuts_the_return = ap (λ b. b.now) c.unwrap_or.ensures ∙ returned c.args.line c.strip_suffix.result c.strip_suffix.ensures.cases }
