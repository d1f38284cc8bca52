use Rattle.std.proofs.lemmas.Result.{MatchResult-from_err, MatchResult-weaker}
use Rattle.keys.proofs.Laws.{key_laws}
use Rattle.unions.proofs.Stages.{first_vacant, second_vacant, none_free, step_apart, step_into, step_into_failed, step_under, step_under_failed, step_leveled, step_level_failed}
use Rattle.unions.proofs.stepping.step.Goals as goal

pub returns-in_err-face : goal.returns-in_err-face
returns-in_err-face g c = record {
  does_its_part = λ rest turns end last. MatchResult-from_err c.from_residual-in_err-face.result _ _ c.from_residual-in_err-face.ensures.0
      (λ e. first_vacant g.K.KeyKind g.V.Joining.joined _ _ _ rest turns end last _ c.in_ok-first.ensures.node_or_past_end c.in_err-face.ensures.place_and_key);
}

pub returns-in_err-other : goal.returns-in_err-other
returns-in_err-other g c = record {
  does_its_part = λ rest turns end last. MatchResult-from_err c.from_residual-in_err-other.result _ _ c.from_residual-in_err-other.ensures.0
      (λ e. second_vacant g.K.KeyKind g.V.Joining.joined _ _ _ rest turns end last _ c.in_ok-second.ensures.node_or_past_end c.in_err-other.ensures.place_and_key);
}

pub returns-in_err-after-in-Apart : goal.returns-in_err-after-in-Apart
returns-in_err-after-in-Apart g c = record {
  does_its_part = λ rest turns end last. MatchResult-from_err c.from_residual-in_err-after-in-Apart.result _ _ c.from_residual-in_err-after-in-Apart.ensures.0
      (λ e. none_free g.K.KeyKind g.V.Joining.joined _ _ _ rest turns end last c.in_err-after-in-Apart.ensures.parted_or_none_free);
}

pub returns-in_err-next-in-Into : goal.returns-in_err-next-in-Into
returns-in_err-next-in-Into g c = record {
  does_its_part = λ rest turns end last. MatchResult-from_err c.from_residual-in_err-next-in-Into.result _ _ c.from_residual-in_err-next-in-Into.ensures.0
      (λ e. step_into_failed g.K.KeyKind g.V.Joining.joined _ _ _ rest turns end last _ _ _ _ _ _ c.in_ok-first.ensures.node_or_past_end c.in_ok-second.ensures.node_or_past_end
      c.in_ok-face.ensures.place_and_key c.in_ok-other.ensures.place_and_key
      c.in-Into.ensures.by_prefix_and_place c.in_err-next-in-Into.ensures.side_by_bit);
}

pub returns-in_err-next-in-Under : goal.returns-in_err-next-in-Under
returns-in_err-next-in-Under g c = record {
  does_its_part = λ rest turns end last. MatchResult-from_err c.from_residual-in_err-next-in-Under.result _ _ c.from_residual-in_err-next-in-Under.ensures.0
      (λ e. step_under_failed g.K.KeyKind g.V.Joining.joined _ _ _ rest turns end last _ _ _ _ _ _ c.in_ok-first.ensures.node_or_past_end c.in_ok-second.ensures.node_or_past_end
      c.in_ok-face.ensures.place_and_key c.in_ok-other.ensures.place_and_key
      c.in-Under.ensures.by_prefix_and_place c.in_err-next-in-Under.ensures.swapped);
}

pub returns-in_ok-after-in-Apart : goal.returns-in_ok-after-in-Apart
returns-in_ok-after-in-Apart g c = record {
  does_its_part = λ rest turns end last. step_apart g.K.KeyKind g.V.Joining.joined _ _ _ rest turns end last _ _ _ _ _ _ c.in_ok-first.ensures.node_or_past_end c.in_ok-second.ensures.node_or_past_end
      c.in_ok-face.ensures.place_and_key c.in_ok-other.ensures.place_and_key _ _ _
      c.in-Apart.ensures.by_prefix_and_place c.in_ok-after-in-Apart.ensures.parted_or_none_free;
}

pub returns-in_ok-next-in-Into : goal.returns-in_ok-next-in-Into
returns-in_ok-next-in-Into g c = record {
  does_its_part = λ rest turns end last. step_into g.K.KeyKind g.V.Joining.joined _ _ _ rest turns end last _ _ _ _ _ _ _ c.in_ok-first.ensures.node_or_past_end c.in_ok-second.ensures.node_or_past_end
      c.in_ok-face.ensures.place_and_key c.in_ok-other.ensures.place_and_key
      c.in-Into.ensures.by_prefix_and_place c.in_ok-next-in-Into.ensures.side_by_bit;
}

pub returns-in_ok-next-in-Under : goal.returns-in_ok-next-in-Under
returns-in_ok-next-in-Under g c = record {
  does_its_part = λ rest turns end last. step_under g.K.KeyKind g.V.Joining.joined _ _ _ rest turns end last _ _ _ _ _ _ _ _ c.in_ok-first.ensures.node_or_past_end c.in_ok-second.ensures.node_or_past_end
      c.in_ok-face.ensures.place_and_key c.in_ok-other.ensures.place_and_key
      c.in-Under.ensures.by_prefix_and_place c.in_ok-next-in-Under.ensures.swapped;
}

pub returns-in-Level : goal.returns-in-Level
returns-in-Level g c = record {
  does_its_part = λ rest turns end last.
      let law = key_laws g.K.KeyKind g.met.K.KeyKind.places_bounded.1 g.met.K.KeyKind.same_bits in
      let meets = c.in-Level.ensures.by_prefix_and_place in
      MatchResult-weaker c.level.result c.level.ensures.leveled_or_not_alike
      (λ o leveled. step_leveled g.K.KeyKind g.V.Joining.joined _ _ _ rest turns end last law _ _ _ _ _ _ _ o.0 o.1 c.in_ok-first.ensures.node_or_past_end c.in_ok-second.ensures.node_or_past_end
      c.in_ok-face.ensures.place_and_key c.in_ok-other.ensures.place_and_key meets leveled)
      (λ e failed. step_level_failed g.K.KeyKind g.V.Joining.joined _ _ _ rest turns end last _ _ _ _ _ _ c.in_ok-first.ensures.node_or_past_end c.in_ok-second.ensures.node_or_past_end
      c.in_ok-face.ensures.place_and_key c.in_ok-other.ensures.place_and_key law meets failed);
}
