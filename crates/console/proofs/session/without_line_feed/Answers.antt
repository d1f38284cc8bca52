use Rattle.std.proofs.Common.{[], ◌∷◌, sym, refl, ◌∙◌}
use Rattle.console.proofs.session.without_line_feed.Goals as goal
use Rattle.std.proofs.lemmas.Slice.Eq.{strip_suffix_is}
use Rattle.std.proofs.lemmas.List.{append_cancel_right}
use Rattle.std.proofs.lemmas.Option.{MatchOption-at_some, MatchOption-at_none}
use Rattle.std.proofs.lemmas.Bool.Decides.{Decides-eqb}

pub returns-in-Some : goal.returns-in-Some
returns-in-Some c =
    let line = c.args.line.now in
    let told = strip_suffix_is Decides-eqb line (10 ∷ []) c.strip_suffix.result c.strip_suffix.ensures.cases in
    let cut = MatchOption-at_some _ _ c.in-Some.text c.in-Some.is told in
    record {
      cuts_the_line_feed = λ text e. append_cancel_right c.in-Some.text.now text (10 ∷ []) (sym cut ∙ e);
      keeps_another_line = λ other. absurd (other c.in-Some.text.now cut);
    }

pub returns-in-None : goal.returns-in-None
returns-in-None c =
    let line = c.args.line.now in
    let told = strip_suffix_is Decides-eqb line (10 ∷ []) c.strip_suffix.result c.strip_suffix.ensures.cases in
    let whole = MatchOption-at_none _ _ c.in-None.is told in
    record { cuts_the_line_feed = λ text e. absurd (whole text e); keeps_another_line = λ other. refl }
