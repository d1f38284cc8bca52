-- The nodes that a change to one map may write.
use Rattle.std.specs.Prelude.{ℕ, ◌+◌, List, Option}
use Rattle.trees.specs.Tree.{Tree, uses_if_any, times}

-- how often a map and the free chain beside it use node j
abbrev pub owned : {K V : Type 0} → Option (Tree K V) → List ℕ → ℕ → ℕ
owned map chain j = uses_if_any j map + times j chain
