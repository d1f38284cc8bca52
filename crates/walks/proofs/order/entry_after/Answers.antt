use Rattle.std.proofs.Common.{sym, ltb-false, ltb-true}
use Rattle.walks.proofs.Following.{onward_begins, onward_none, leaf_nothing, branch_nothing, falls_back, leaf_after, branch_after, onward_along}
use Rattle.walks.proofs.order.entry_after.Goals as goal

pub loop-key-init : goal.loop-key-init
loop-key-init g c = onward_begins g.K.KeyKind _ _ _

pub returns-in_err-key : goal.returns-in_err-key
returns-in_err-key g c = record {
  first_entry_after = λ t h. absurd (onward_none g.K.KeyKind _ _ _ _ _ _ c.loop-key.invariant
      c.in_err-key.ensures.node_or_no_tree t h);
}

pub returns-then-comes_before : goal.returns-then-comes_before
returns-then-comes_before g c = record {
  first_entry_after = leaf_after g.K.KeyKind _ _ _ _ _ _ c.loop-key.invariant c.in_ok-key.ensures.node_or_no_tree c.in-Leaf.is
      (ltb-true _ _ (sym c.if-comes_before.ensures.by_number));
}

pub returns-in-Leaf : goal.returns-in-Leaf
returns-in-Leaf g c = record {
  first_entry_after = falls_back g.K.KeyKind _ _ _ _ _ _ c.loop-key.invariant c.first_of.result c.first_of.ensures.first_entry_if_any
      (leaf_nothing g.K.KeyKind _ _ _ _ _ _ c.loop-key.invariant c.in_ok-key.ensures.node_or_no_tree c.in-Leaf.is (ltb-false _ _ (sym c.if-comes_before.ensures.by_number)));
}

pub returns-in-After : goal.returns-in-After
returns-in-After g c = record {
  first_entry_after = branch_after g.K.KeyKind _ _ _ _ _ _ c.loop-key.invariant c.in_ok-key.ensures.node_or_no_tree c.in-Branch.is c.in-After.ensures.by_the_first_difference
      c.first_of-in-After.result c.first_of-in-After.ensures.first_entry_if_any;
}

pub returns-in-Before : goal.returns-in-Before
returns-in-Before g c = record {
  first_entry_after = falls_back g.K.KeyKind _ _ _ _ _ _ c.loop-key.invariant c.first_of-in-Before.result c.first_of-in-Before.ensures.first_entry_if_any
      (branch_nothing g.K.KeyKind _ _ _ _ _ _ c.loop-key.invariant c.in_ok-key.ensures.node_or_no_tree c.in-Branch.is c.in-Before.ensures.by_the_first_difference);
}

pub loop-key-preserved : goal.loop-key-preserved
loop-key-preserved g c =
    onward_along g.K.KeyKind _ _ _ _ _ _ c.loop-key.invariant c.in-Along.to_one c.go_along-side.result c.in_ok-key.ensures.node_or_no_tree c.in-Branch.is
    c.in-Along.ensures.by_the_first_difference c.go_along-side.ensures.side_one_is_later
