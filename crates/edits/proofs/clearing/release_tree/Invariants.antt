use Rattle.std.proofs.Common.{ℕ, ◌+◌, ◌-◌, List, ◌∷◌, Some}
use Rattle.trees.specs.Tree.{Tree, uses, times}
use Rattle.pool.specs.Walks.{Rooted, Beside}
use Rattle.edits.proofs.Pending.{Pending}
use Rattle.edits.proofs.clearing.release_tree.Given as goal

abbrev pub invariant-loop-node : goal.invariant-loop-node
invariant-loop-node g l = (t : Tree _ _) (chain : List ℕ) → Rooted g.K.KeyKind l.initial.nodes (Some l.top) (Some t)
    → Beside l.initial.nodes l.initial.account (Some t) chain
    → Pending g.K.KeyKind l.initial.nodes l.initial.account (λ j. uses j t + times j chain)
    l.nodes l.account (l.at ∷ l.waiting)

abbrev pub decreases-loop-node : goal.decreases-loop-node
decreases-loop-node g l = l.account.capacity - l.account.free
