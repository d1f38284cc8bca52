use Rattle.std.proofs.Common.{◌-◌, List, [], ◌∷◌}
use Rattle.pool.specs.declared.node.Node.{Node}
use Rattle.pool.specs.declared.account.Account.{Account}
use Rattle.unions.specs.Work.{Work}
use Rattle.unions.proofs.uniting.unite_trees.Given as goal

abbrev pub invariant-loop : goal.invariant-loop
invariant-loop g l = (end : List (Node _ _)) (last : Account)
    → Work g.K.KeyKind g.V.Joining.joined l.nodes l.account (l.end - l.counter) (l.job ∷ l.waiting) end last
    → Work g.K.KeyKind g.V.Joining.joined l.initial.nodes l.initial.account l.initial.account.capacity (record { into = l.top; from = l.other } ∷ []) end last
