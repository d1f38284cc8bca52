use Rattle.std.proofs.Common.{ℕ, ◌+◌, ◌<◌}
use Rattle.pool.specs.Slice.{At}
use Rattle.pool.specs.declared.node.Node.TheVariants.{Free}
use Rattle.pool.proofs.opening.link_all.Given as goal

abbrev pub invariant-loop-i : goal.invariant-loop-i
invariant-loop-i g l = (j : ℕ) → j < l.i → At l.nodes j (Free (j + 1))
