use Rattle.std.proofs.Common.{arith}
use Rattle.std.proofs.lemmas.Result.{MatchResult-from_err}
use Rattle.edits.proofs.Writing.{one_node_free, two_nodes_free}
use Rattle.edits.proofs.inserting.take_sides.Goals as goal

pub returns-in_err-far : goal.returns-in_err-far
returns-in_err-far g c = record {
  first_two_of_chain = MatchResult-from_err c.from_residual.result _ _ c.from_residual.ensures.0
      (λ e map chain beside two. one_node_free _ c.args.account chain beside.linked beside.counted (omega arith) c.in_err-far.ensures.first_of_chain);
}

pub returns-in_err-near : goal.returns-in_err-near
returns-in_err-near g c = record {
  first_two_of_chain = MatchResult-from_err c.from_residual-in_err-near.result _ _ c.from_residual-in_err-near.ensures.0
      (λ e map chain beside two. two_nodes_free _ c.args.account c.in_ok-far.between _ chain beside.linked beside.counted two
      c.in_ok-far.ensures.first_of_chain c.in_err-near.ensures.first_of_chain);
}
