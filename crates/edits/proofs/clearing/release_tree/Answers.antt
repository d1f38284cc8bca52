use Rattle.std.proofs.Common.{ℕ, ◌+◌, List, ◌∷◌, ◌++◌, Option, sym, ap, ◌∙◌, subst, ⊎_elim}
use Rattle.std.specs.Option.{option_to_list}
use Rattle.trees.specs.Tree.{uses, times}
use Rattle.edits.proofs.Pending.{Pending, whole_waits, all_back, first_within, first_room, first_not_stuck, turned}
use Rattle.edits.proofs.clearing.release_tree.Goals as goal

pub loop-node-init : goal.loop-node-init
loop-node-init g c t chain r b =
    let κ = g.K.KeyKind in
    let ns = c.args.nodes.now in
    let account = c.args.account in
    subst (λ (is : List ℕ). Pending κ ns account (λ j. uses j t + times j chain) ns account (c.args.top ∷ is))
    (sym c.new-waiting.ensures.empty) (whole_waits κ ns account c.args.top t chain r b)

pub returns-in_err-node : goal.returns-in_err-node
returns-in_err-node g c = record {
  gives_all_back = λ t chain r b.
      absurd (first_within g.K.KeyKind _ _ _ _ _ _ _ (c.loop-node.invariant t chain r b) c.in_err-node.ensures.node_or_past_end);
}

pub returns-in_err-account : goal.returns-in_err-account
returns-in_err-account g c = record {
  gives_all_back = λ t chain r b.
      absurd (⊎_elim
      (first_within g.K.KeyKind _ _ _ _ _ _ _ (c.loop-node.invariant t chain r b))
      (first_room g.K.KeyKind _ _ _ _ _ _ _ (c.loop-node.invariant t chain r b))
      c.in_err-account.ensures.first_of_chain_now.0);
}

pub returns-in_err-after_node : goal.returns-in_err-after_node
returns-in_err-after_node g c = record {
  gives_all_back = λ t chain r b.
      absurd (first_not_stuck g.K.KeyKind _ _ _ _ _ _ _ (c.loop-node.invariant t chain r b) g.met.K.KeyKind.places_bounded.1
      c.in_ok-node.node c.in_ok-node.ensures.node_or_past_end c.in_err-after_node.ensures.sides_before_others);
}

pub returns-in-None : goal.returns-in-None
returns-in-None g c = record {
  gives_all_back = λ t chain r b.
      let κ = g.K.KeyKind in
      let rest = c.after_node.new.waiting in
      let queued = c.in_ok-after_node.ensures.sides_before_others in
      let turn = turned κ _ _ _ _ _ _ _ (c.loop-node.invariant t chain r b) b.once c.in_ok-node.node c.in_ok-node.ensures.node_or_past_end
      c.release.new.nodes c.in_ok-account.account c.in_ok-account.ensures.first_of_chain_now in
      all_back κ _ _ _ _ _ (subst
      (λ (is : List ℕ). Pending κ c.args.nodes.now c.args.account (λ j. uses j t + times j chain) c.release.new.nodes c.in_ok-account.account is)
      (queued.0 ∙ ap (λ (o : Option ℕ). option_to_list o ++ rest) c.in-None.is ∙ queued.1 c.in-None.is) turn);
}

pub loop-node-preserved : goal.loop-node-preserved
loop-node-preserved g c t chain r b =
    let κ = g.K.KeyKind in
    let rest = c.after_node.new.waiting in
    let queued = c.in_ok-after_node.ensures.sides_before_others in
    let turn = turned κ _ _ _ _ _ _ _ (c.loop-node.invariant t chain r b) b.once c.in_ok-node.node c.in_ok-node.ensures.node_or_past_end
    c.release.new.nodes c.in_ok-account.account c.in_ok-account.ensures.first_of_chain_now in
    subst
    (λ (is : List ℕ). Pending κ c.args.nodes.now c.args.account (λ j. uses j t + times j chain) c.release.new.nodes c.in_ok-account.account is)
    (queued.0 ∙ ap (λ (o : Option ℕ). option_to_list o ++ rest) c.in-Some.is) turn
