use Rattle.std.proofs.Common.{rules, false, Ok, ap, ◌∙◌}
use Rattle.walks.specs.declared.descent.Landing.{Landing}
use Rattle.walks.proofs.Descending.{landing_first}
use Rattle.walks.proofs.order.leftmost.Goals as goal

pub returns-in_err-landing : goal.returns-in_err-landing
returns-in_err-landing g c = record {
  first_entry = λ t h. absurd (c.in_err-landing.ensures.where_the_bits_lead (λ _. false) (λ p b e. search rules) t h);
}

pub returns : goal.returns
returns g c = record {
  first_entry = λ t h. ap Ok (ap (λ (d : Landing _ _). (d.own, d.held)) (c.in_ok-landing.ensures.where_the_bits_lead (λ _. false) (λ p b e. search rules) t h)
      ∙ landing_first _ t);
}
