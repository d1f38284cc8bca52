use Rattle.std.proofs.Common.{refl, arith}
use Rattle.edits.proofs.Updating.{inserted_fork}
use Rattle.edits.proofs.inserting.fork.Goals as goal

pub returns-in_err-sides : goal.returns-in_err-sides
returns-in_err-sides g c = record {
  adds_one_update = λ map chain rooted beside seated. absurd (c.in_err-sides.ensures.first_two_of_chain map chain beside (omega arith));
  too_few_changes_nothing = λ e. refl;
}

pub returns : goal.returns
returns g c = record {
  adds_one_update = λ map chain rooted beside seated. inserted_fork g.K.KeyKind g.V.Joining.joined _ _ _ _ _ _ _ _ _ _ map chain rooted beside seated
      c.in_ok-old.ensures.node_or_past_end c.in_ok-sides.ensures.first_two_of_chain c.write_fork.ensures.forked_there;
  too_few_changes_nothing = λ e. absurd cc;
}
