use Rattle.std.proofs.Common.{Ok, Err, refl, subst, arith}
use Rattle.pool.specs.Slice.{At}
use Rattle.pool.specs.declared.node.Node.{Node}
use Rattle.walks.proofs.Growing.{none_past_end, none_at_free, none_out_of_place}
use Rattle.edits.specs.declared.seat.Seat.TheVariants.{Taken, Open}
use Rattle.edits.proofs.Seeking.{onward_start, sought_taken, sought_other_leaf, sought_above, sought_below}
use Rattle.edits.proofs.seat.seek.Goals.{then-place-least-via-then-place-least, then-place-least-via-else-place-least+then-place-places}
use Rattle.edits.proofs.seat.seek.Goals as goal

pub loop-node-init : goal.loop-node-init
loop-node-init g c = onward_start g.K.KeyKind _ _ _

pub returns-in_err-node : goal.returns-in_err-node
returns-in_err-node g c = record {
  where_the_key_belongs = c.loop-node.invariant c.from_residual.result
      (λ u h. absurd (none_past_end g.K.KeyKind c.args.nodes.now _ _ c.in_err-node.ensures.node_or_past_end u h));
}

pub returns-in-Free : goal.returns-in-Free
returns-in-Free g c = record {
  where_the_key_belongs = c.loop-node.invariant (Err (record {}))
      (λ u h. absurd (none_at_free g.K.KeyKind _ _ _ c.in_ok-node.ensures.node_or_past_end c.in-Free.is u h));
}

pub returns-then-place-least : goal.returns-then-place-least
returns-then-place-least g c = record {
  where_the_key_belongs = c.loop-node.invariant (Err (record {}))
      (λ u h. absurd (none_out_of_place g.K.KeyKind _ _ _ c.in_ok-node.ensures.node_or_past_end c.in-Branch.is (λ low high.
      elim c.then-place-least.branch [
        | then-place-least-via-then-place-least w ↦ omega arith
        | then-place-least-via-else-place-least+then-place-places w ↦ omega arith
      ]) u h));
}

pub returns-in-None : goal.returns-in-None
returns-in-None g c = record {
  where_the_key_belongs = c.loop-node.invariant (Ok (Taken c.loop-node.at c.in-Leaf.own c.in-Leaf.held))
      (sought_taken g.K.KeyKind _ _ _ _ (subst (λ (x : Node _ _). At c.args.nodes.now c.loop-node.at x) c.in-Leaf.is c.in_ok-node.ensures.node_or_past_end) refl
      c.in-None.ensures.first_place_or_same_key.1);
}

pub returns-in-Some : goal.returns-in-Some
returns-in-Some g c = record {
  where_the_key_belongs = c.loop-node.invariant (Ok (Open (record { at = c.loop-node.at; place = c.in-Some.place })))
      (sought_other_leaf g.K.KeyKind _ _ _ _ _ (subst (λ (x : Node _ _). At c.args.nodes.now c.loop-node.at x) c.in-Leaf.is c.in_ok-node.ensures.node_or_past_end) refl
      c.in-Some.ensures.first_place_or_same_key.1 c.in-Some.ensures.first_place_or_same_key.0.within);
}

pub returns-in-Some-split_before : goal.returns-in-Some-split_before
returns-in-Some-split_before g c = record {
  where_the_key_belongs = c.loop-node.invariant (Ok (Open (record { at = c.loop-node.at; place = c.in-Some-split_before.earlier })))
      (sought_above g.K.KeyKind _ _ _ _ _ (subst (λ (x : Node _ _). At c.args.nodes.now c.loop-node.at x) c.in-Branch.is c.in_ok-node.ensures.node_or_past_end, omega arith) refl
      c.in-Some-split_before.ensures.split_or_later.0 c.in-Some-split_before.ensures.split_or_later.1);
}

pub loop-node-preserved : goal.loop-node-preserved
loop-node-preserved g c r next =
    c.loop-node.invariant r
    (sought_below g.K.KeyKind _ _ _ _ (subst (λ (x : Node _ _). At c.args.nodes.now c.loop-node.at x) c.in-Branch.is c.in_ok-node.ensures.node_or_past_end, omega arith) refl
    c.in-None-split_before.ensures.split_or_later c.towards-at.ensures.near_by_bit r next)
