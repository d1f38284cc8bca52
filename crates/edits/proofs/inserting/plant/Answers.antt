use Rattle.std.proofs.Common.{refl, arith}
use Rattle.edits.proofs.Writing.{one_node_free}
use Rattle.edits.proofs.Updating.{inserted_first}
use Rattle.edits.proofs.inserting.plant.Goals as goal

pub returns-in_err-at : goal.returns-in_err-at
returns-in_err-at g c = record {
  adds_one_update = λ map chain rooted beside. absurd (one_node_free _ c.args.account chain beside.linked beside.counted (omega arith) c.in_err-at.ensures.first_of_chain);
  too_few_changes_nothing = λ e. refl;
}

pub returns : goal.returns
returns g c = record {
  adds_one_update = λ map chain rooted beside. inserted_first g.K.KeyKind g.V.Joining.joined _ _ _ _ _ _ _ map chain rooted beside
      c.in_ok-at.ensures.first_of_chain c.write_node.ensures.written;
  too_few_changes_nothing = λ e. absurd cc;
}
