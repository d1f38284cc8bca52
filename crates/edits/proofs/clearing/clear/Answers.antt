use Rattle.std.proofs.Common.{◌+◌, None, Option, MatchResult}
use Rattle.trees.specs.Tree.{Tree, uses_if_any, times}
use Rattle.pool.specs.Walks.{Beside, Left}
use Rattle.pool.proofs.Standing.{rooted_tree}
use Rattle.edits.proofs.clearing.clear.Goals as goal

pub returns-in-Some : goal.returns-in-Some
returns-in-Some g c = record {
  gives_all_back = λ map chain r b.
      let ns = c.args.nodes.now in
      let account = c.args.account in
      rooted_tree g.K.KeyKind ns
      (λ (m : Option (Tree _ _)). Beside ns account m chain
      → MatchResult c.release_tree.result (λ a. Left g.K.KeyKind ns c.release_tree.new.nodes (λ _. None) (λ j. uses_if_any j m + times j chain) account a None) (λ _. ⊥))
      c.in-Some.is (λ t rooted beside. c.release_tree.ensures.gives_all_back t chain rooted beside) map r b;
}
