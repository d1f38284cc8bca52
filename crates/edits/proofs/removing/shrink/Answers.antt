use Rattle.std.proofs.Common.{rules, ℕ, List, Option, sym, refl, subst, subst₂, arith}
use Rattle.pool.specs.declared.node.Node.{Node}
use Rattle.pool.specs.declared.account.Account.{Account}
use Rattle.pool.specs.Walks.{Left}
use Rattle.edits.specs.Owned.{owned}
use Rattle.edits.specs.Removed.{without_key}
use Rattle.edits.proofs.Dropping.{absent_key, removed_lone, removed_closed, room_for_one, room_for_two}
use Rattle.walks.specs.Ways.{OwnWayEnds}
use Rattle.walks.proofs.Descending.{lands_hit, lands_miss}
use Rattle.edits.proofs.removing.shrink.Goals.{in-None+in_ok-release-in-None, in-Some+in_ok-content-in-Some+in_ok-after-in-Some}
use Rattle.edits.proofs.removing.shrink.Goals as goal

pub returns-then-not-same_key : goal.returns-then-not-same_key
returns-then-not-same_key g c = record {
  by_own_places = tt;
  drops_one_key = λ map chain rooted beside.
      let lands = c.in_ok-landing.ensures.only_leaf_for_the_key map rooted in
      let none = lands_miss g.K.KeyKind _ _ map lands (c.same_key.ensures.false_of_two c.if-not-same_key.true) in
      (sym none, absent_key g.K.KeyKind _ _ _ _ map chain rooted beside none);
}

pub returns-in_err-release-in-None : goal.returns-in_err-release-in-None
returns-in_err-release-in-None g c = record {
  by_own_places = search rules;
  drops_one_key = λ map chain rooted beside.
      let lands = c.in_ok-landing.ensures.only_leaf_for_the_key map rooted in
      let room = room_for_one g.K.KeyKind _ _ _ _ _ map chain rooted beside lands in
      absurd (omega (arith, c.in_err-release-in-None.ensures.first_of_chain_now.0));
}

pub returns-in_err-content-in-Some : goal.returns-in_err-content-in-Some
returns-in_err-content-in-Some g c = record {
  by_own_places = search rules;
  drops_one_key = λ map chain rooted beside.
      let lands = c.in_ok-landing.ensures.only_leaf_for_the_key map rooted in
      let room = room_for_two g.K.KeyKind _ _ _ _ _ _ map chain rooted beside lands c.in-Some.is in
      absurd (omega (arith, c.in_err-content-in-Some.ensures.node_or_past_end));
}

pub returns-in_err-after-in-Some : goal.returns-in_err-after-in-Some
returns-in_err-after-in-Some g c = record {
  by_own_places = search rules;
  drops_one_key = λ map chain rooted beside.
      let lands = c.in_ok-landing.ensures.only_leaf_for_the_key map rooted in
      let room = room_for_two g.K.KeyKind _ _ _ _ _ _ map chain rooted beside lands c.in-Some.is in
      absurd (omega (arith, c.in_err-after-in-Some.ensures.closed_up));
}

pub returns : goal.returns
returns g c = record {
  by_own_places =
      let own = c.same_key.ensures.true_of_one_key c.if-not-same_key.false in
      record {
        top = _;
        is_root = refl;
        at = c.in_ok-landing.landing.at;
        ends = subst (λ k. OwnWayEnds g.K.KeyKind c.args.nodes.now c.args.top c.in_ok-landing.landing.at k c.in_ok-landing.landing.held) own
            (c.in_ok-landing.ensures.by_own_places refl);
      };
  drops_one_key = λ map chain rooted beside.
      let κ = g.K.KeyKind in
      let lands = c.in_ok-landing.ensures.only_leaf_for_the_key map rooted in
      let own = c.same_key.ensures.true_of_one_key c.if-not-same_key.false in
      let Gone : List (Node _ _) → Option ℕ × Account → Type 0 =
      λ ns p. Left κ c.args.nodes.now ns (without_key κ c.args.key map) (owned map chain) c.args.account p.1 p.0 in (
        sym (lands_hit κ _ _ map lands own),
        elim c.match-landing.branch [
          | in-None+in_ok-release-in-None w ↦
              subst₂ Gone (sym w.nodes-is) (sym w.root-is)
              (removed_lone κ _ _ _ _ _ _ _ map chain rooted beside lands own w.in-None.is w.in_ok-release-in-None.ensures.first_of_chain_now)
          | in-Some+in_ok-content-in-Some+in_ok-after-in-Some w ↦
              subst₂ Gone (sym w.nodes-is) (sym w.root-is)
              (removed_closed κ _ _ _ _ _ _ _ _ _ map chain rooted beside lands own w.in-Some.is
              w.in_ok-content-in-Some.ensures.node_or_past_end w.in_ok-after-in-Some.ensures.closed_up)
        ],
      );
}
