use Rattle.std.proofs.Common.{◌≡◌, Some, None, Ok, Option, sym, ap, ◌∙◌}
use Rattle.trees.specs.Tree.{Tree, entries_if_any}
use Rattle.trees.specs.Find.{first_after}
use Rattle.trees.proofs.Next.{first_after_no_bound}
use Rattle.walks.proofs.Growing.{rooted_grows}
use Rattle.walks.proofs.order.first_of.Goals as goal

pub returns-in_err-first : goal.returns-in_err-first
returns-in_err-first g c = record {
  first_entry_if_any = rooted_grows g.K.KeyKind c.args.nodes.now
      (λ (map : Option (Tree _ _)). c.from_residual.result ≡ Ok (first_after g.K.KeyKind None (entries_if_any map)))
      c.in-Some.is
      (λ t h. let e = c.in_err-first.ensures.first_entry t h in absurd (cc e));
}

pub returns : goal.returns
returns g c = record {
  first_entry_if_any = rooted_grows g.K.KeyKind c.args.nodes.now
      (λ (map : Option (Tree _ _)). Ok (Some c.in_ok-first.first) ≡ Ok (first_after g.K.KeyKind None (entries_if_any map)))
      c.in-Some.is
      (λ t h. let e = c.in_ok-first.ensures.first_entry t h in
      ap Ok (cc e ∙ sym (first_after_no_bound g.K.KeyKind t)));
}
