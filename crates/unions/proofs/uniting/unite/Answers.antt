use Rattle.std.proofs.Common.{ℕ, ◌+◌, Some, Option, arith}
use Rattle.trees.specs.Tree.{Tree, uses_if_any, times}
use Rattle.pool.specs.Walks.{BesideBoth, Left}
use Rattle.pool.proofs.Standing.{rooted_tree}
use Rattle.unions.specs.Unites.{in_either}
use Rattle.unions.proofs.Joining.{united_left, united_never}
use Rattle.unions.proofs.uniting.unite.Goals as goal

pub returns-in_err-after : goal.returns-in_err-after
returns-in_err-after g c = record {
  joins_two_maps = λ d s chain r o b.
      absurd (rooted_tree g.K.KeyKind c.args.nodes.now (λ (m : Option (Tree _ _)). BesideBoth c.args.nodes.now c.args.account m s chain → ⊥) c.in-Some.is
      (λ t rooted. rooted_tree g.K.KeyKind c.args.nodes.now (λ (m : Option (Tree _ _)). BesideBoth c.args.nodes.now c.args.account (Some t) m chain → ⊥) c.in-Some-other.is
      (λ u other beside. united_never g.K.KeyKind g.V.Joining.joined _ _ _ _ t u chain rooted other beside (omega arith) c.in_err-after.ensures.does_the_work) s o) d r b);
}

pub returns : goal.returns
returns g c = record {
  joins_two_maps = λ d s chain r o b.
      let ns = c.args.nodes.now in
      let ns' = c.unite_trees.new.nodes in
      let account = c.args.account in
      let after = c.in_ok-after.after in
      let root : Option ℕ = Some c.in-Some.top in
      let join = g.V.Joining.joined in
      rooted_tree g.K.KeyKind ns (λ (m : Option (Tree _ _)). BesideBoth ns account m s chain → Left g.K.KeyKind ns ns' (in_either g.K.KeyKind join m s) (λ j. uses_if_any j m + uses_if_any j s + times j chain) account after root) c.in-Some.is
      (λ t rooted. rooted_tree g.K.KeyKind ns (λ (m : Option (Tree _ _)). BesideBoth ns account (Some t) m chain → Left g.K.KeyKind ns ns' (in_either g.K.KeyKind join (Some t) m) (λ j. uses_if_any j (Some t) + uses_if_any j m + times j chain) account after root) c.in-Some-other.is
      (λ u other beside. united_left g.K.KeyKind join ns account _ _ t u chain rooted other beside (omega arith) ns' after c.in_ok-after.ensures.does_the_work) s o) d r b;
}
