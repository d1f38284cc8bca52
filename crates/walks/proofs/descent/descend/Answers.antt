use Rattle.walks.proofs.Descending.{onward_leaf, onward_below}
use Rattle.walks.proofs.Passing.{way_begins, way_below, way_ends}
use Rattle.walks.proofs.descent.descend.Goals as goal

pub loop-bit-init : goal.loop-bit-init
loop-bit-init g c = (λ goes named r below. below, λ own. way_begins g.K.KeyKind _ _)

pub returns-in-Leaf : goal.returns-in-Leaf
returns-in-Leaf g c = record {
  where_the_bits_lead = λ goes named. onward_leaf g.K.KeyKind _ goes _ _ _ _ (c.loop-bit.invariant.0 goes named)
      c.in_ok-own.ensures.node_or_no_tree c.in-Leaf.is;
  by_own_places = λ own. way_ends g.K.KeyKind _ _ _ _ (c.loop-bit.invariant.1 own) c.in_ok-own.ensures.node_or_no_tree c.in-Leaf.is;
}

pub loop-bit-preserved : goal.loop-bit-preserved
loop-bit-preserved g c = (
  λ goes named.
      let e = named _ _ c.bit.ensures in
      onward_below g.K.KeyKind _ goes _ _ _ _ (c.loop-bit.invariant.0 goes named) c.in_ok-own.ensures.node_or_no_tree c.in-Branch.is
      (rw (← e) c.by-sides.ensures.near_by_bit) (rw (← e) c.by-sides.ensures.far_by_bit),
  λ own.
      way_below g.K.KeyKind _ _ _ _ (c.loop-bit.invariant.1 own) _ c.in_ok-own.ensures.node_or_no_tree (c.in_ok-own.ensures.own_places own)
      c.in-Branch.is c.by-sides.ensures.near_by_bit,
)
