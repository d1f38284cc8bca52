use Rattle.std.proofs.Common.{⊎_elim, inl, inr, arith}
use Rattle.std.proofs.lemmas.Result.{MatchResult-from_err}
use Rattle.unions.proofs.writing.level.Goals as goal

pub returns-in_err-after-in-Leaf-Leaf : goal.returns-in_err-after-in-Leaf-Leaf
returns-in_err-after-in-Leaf-Leaf g c = record {
  leveled_or_not_alike = MatchResult-from_err c.from_residual-in_err-after-in-Leaf-Leaf.result _ _ c.from_residual-in_err-after-in-Leaf-Leaf.ensures.0
      (λ e. inr (⊎_elim (λ past. inl (omega (arith, c.join_leaf.auto.nodes))) (λ full. inr full) c.in_err-after-in-Leaf-Leaf.ensures.first_of_chain_now.0));
}
