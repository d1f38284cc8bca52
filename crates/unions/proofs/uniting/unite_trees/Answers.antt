use Rattle.std.proofs.Common.{◌≡◌, ℕ, ◌+◌, ◌-◌, List, ◌∷◌, ◌++◌, Option, sym, ap, ◌∙◌, subst₂, arith}
use Rattle.std.specs.Option.{option_to_list}
use Rattle.std.proofs.lemmas.Result.{MatchResult-from_err}
use Rattle.keys.proofs.Laws.{key_laws}
use Rattle.pool.specs.declared.stack.Stack.{Stack}
use Rattle.unions.specs.declared.job.Job.{Job}
use Rattle.unions.specs.declared.step.Step.{Step}
use Rattle.unions.specs.Work.{Work}
use Rattle.unions.specs.Steps.{ahead}
use Rattle.unions.proofs.Working.{work_done, work_out, work_deep, whole_turns, turned}
use Rattle.unions.proofs.uniting.unite_trees.Goals.{in-Done+in-Some, in-Next, in-Both+in_ok-push-in-Both}
use Rattle.unions.proofs.uniting.unite_trees.Goals as goal

pub loop-init : goal.loop-init
loop-init g c = λ end last work.
    let all : c.args.start.capacity - 0 ≡ c.args.start.capacity = omega arith in
    subst₂ (λ (n : ℕ) (js : List Job). Work g.K.KeyKind g.V.Joining.joined c.args.nodes.now c.args.start n (record { into = c.args.top; from = c.args.other } ∷ js) end last)
    all c.new-waiting.ensures.empty work

pub returns-in_err-after : goal.returns-in_err-after
returns-in_err-after g c = record {
  does_the_work = MatchResult-from_err c.from_residual.result _ _ c.from_residual.ensures.0
      (λ e end last. c.loop.invariant end last (whole_turns g.K.KeyKind g.V.Joining.joined _ _ _ _ _ _ end last (omega arith)
      (c.in_err-after.ensures.does_its_part c.loop.waiting (c.args.start.capacity - (c.loop.counter + 1)) end last)));
}

pub returns-in-None : goal.returns-in-None
returns-in-None g c =
    let rest = c.loop.waiting in
    let end = c.step.new.nodes in
    let last = c.in_ok-after.after in
    record {
      does_the_work = c.loop.invariant end last (turned g.K.KeyKind g.V.Joining.joined _ _ _ _ _ _ end last (omega arith) _ _ _ _
          (c.in_ok-after.ensures.does_its_part rest (c.args.start.capacity - (c.loop.counter + 1)) end last)
          (ap (λ (s : Step). ahead s rest) c.in-Done.is ∙ c.pop.ensures.from_the_top
          ∙ ap (λ (o : Option Job). option_to_list o ++ c.pop.new.self) c.in-None.is ∙ c.pop.ensures.none_of_an_empty_one c.in-None.is)
          (work_done g.K.KeyKind g.V.Joining.joined _ _ _));
    }

pub returns-in_err-push-in-Both : goal.returns-in_err-push-in-Both
returns-in_err-push-in-Both g c =
    let law = key_laws g.K.KeyKind g.met.K.KeyKind.places_bounded.1 g.met.K.KeyKind.same_bits in
    let rest = c.loop.waiting in
    record {
      does_the_work = MatchResult-from_err c.from_residual-in_err-push-in-Both.result _ _ c.from_residual-in_err-push-in-Both.ensures.0
          (λ e end last. c.loop.invariant end last (turned g.K.KeyKind g.V.Joining.joined _ _ _ _ _ _ end last (omega arith) _ _ _ _
          (c.in_ok-after.ensures.does_its_part rest (c.args.start.capacity - (c.loop.counter + 1)) end last)
          (ap (λ (s : Step). ahead s rest) c.in-Both.is)
          (work_deep g.K.KeyKind g.V.Joining.joined _ _ law _ _ _ _ end last c.in_err-push-in-Both.ensures.on_top_or_full.0)));
    }

pub loop-preserved : goal.loop-preserved
loop-preserved g c = λ end last work.
    let rest = c.loop.waiting in
    let jobs : ahead c.in_ok-after.left rest ≡ c.match-left.job ∷ c.match-left.waiting =
    elim c.match-left.branch [
      | in-Done+in-Some w ↦
          ap (λ (s : Step). ahead s rest) w.in-Done.is ∙ w.pop.ensures.from_the_top
          ∙ ap (λ (o : Option Job). option_to_list o ++ w.pop.new.self) w.in-Some.is
          ∙ in_place w.job-is w.waiting-is
      | in-Next w ↦ ap (λ (s : Step). ahead s rest) w.in-Next.is ∙ in_place w.job-is w.waiting-is
      | in-Both+in_ok-push-in-Both w ↦
          ap (λ (s : Step). ahead s rest) w.in-Both.is ∙ ap (λ (js : List Job). w.in-Both.next ∷ js) (sym w.in_ok-push-in-Both.ensures.on_top_or_full)
          ∙ in_place w.job-is w.waiting-is
    ] in
    c.loop.invariant end last (turned g.K.KeyKind g.V.Joining.joined _ _ _ _ _ _ end last (omega arith) _ _ _ _
    (c.in_ok-after.ensures.does_its_part rest (c.args.start.capacity - (c.loop.counter + 1)) end last) jobs work)
  where
    in_place : {i j : Job} {s t : Stack Job} → i ≡ j → s ≡ t → j ∷ t ≡ i ∷ s
    in_place e f = cc

pub returns : goal.returns
returns g c = record {
  does_the_work = λ end last. c.loop.invariant end last (work_out g.K.KeyKind g.V.Joining.joined _ _ _ _ _ end last (omega arith));
}
