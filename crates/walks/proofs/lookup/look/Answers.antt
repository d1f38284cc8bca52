use Rattle.std.proofs.Common.{ℕ, Option, Ok, sym, ap, ◌∙◌, subst}
use Rattle.pool.specs.Walks.{Rooted}
use Rattle.walks.proofs.Descending.{lands_tested}
use Rattle.walks.proofs.lookup.look.Goals as goal

pub returns-in_err-landing : goal.returns-in_err-landing
returns-in_err-landing g c = record {
  finds_the_record = λ map h.
      absurd (c.in_err-landing.ensures.only_leaf_for_the_key map (subst (λ (r : Option ℕ). Rooted g.K.KeyKind c.args.nodes.now r map) c.in-Some.is h));
}

pub returns : goal.returns
returns g c = record {
  finds_the_record = λ map h.
      let lands = c.in_ok-landing.ensures.only_leaf_for_the_key map (subst (λ (r : Option ℕ). Rooted g.K.KeyKind c.args.nodes.now r map) c.in-Some.is h) in
      ap Ok (c.then_some.ensures ∙ sym (lands_tested g.K.KeyKind _ _ map lands _ c.same_key.ensures.true_of_one_key c.same_key.ensures.false_of_two));
}
