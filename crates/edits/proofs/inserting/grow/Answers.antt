use Rattle.std.proofs.Common.{subst}
use Rattle.edits.specs.Seats.{SeatedIfAny}
use Rattle.edits.specs.declared.seat.Seat.{Seat}
use Rattle.edits.proofs.Updating.{inserted_join}
use Rattle.edits.proofs.inserting.grow.Goals as goal

pub returns-in-Taken : goal.returns-in-Taken
returns-in-Taken g c = record {
  adds_one_update = λ map chain rooted beside. inserted_join g.K.KeyKind g.V.Joining.joined _ _ _ _ _ _ _ _ _ map chain rooted beside
      (subst (λ (s : Seat g.row.K.Denot g.row.V.Denot). SeatedIfAny g.K.KeyKind c.args.nodes.now c.args.key s map) c.in-Taken.is
      (c.in_ok-at.ensures.where_the_key_belongs map rooted))
      c.join_leaf.ensures.joined_there;
  too_few_changes_nothing = λ e. absurd cc;
}

pub returns-in-Open : goal.returns-in-Open
returns-in-Open g c = record {
  adds_one_update = λ map chain rooted beside. c.fork.ensures.adds_one_update map chain rooted beside
      (subst (λ (s : Seat g.row.K.Denot g.row.V.Denot). SeatedIfAny g.K.KeyKind c.args.nodes.now c.args.key s map) c.in-Open.is
      (c.in_ok-at.ensures.where_the_key_belongs map rooted));
  too_few_changes_nothing = c.fork.ensures.too_few_changes_nothing;
}
