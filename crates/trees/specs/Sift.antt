-- A tree of which a rule keeps some entries, each with the record that the rule gives it.
use Rattle.std.specs.Prelude.{ℕ, Some, None, Option}
use Rattle.trees.specs.Tree.{Tree, leaf, branch}
use Rattle.trees.specs.Remove.{glue}

module _ {K V : Type 0} where
  -- a leaf, or none where there is no record for it
  abbrev pub leaf_if_any : ℕ → K → Option V → Option (Tree K V)
  leaf_if_any i k None = None
  leaf_if_any i k (Some v) = Some (leaf i k v)

  -- the tree of what `rule` keeps, in the nodes that it had
  abbrev pub sift : (K → V → Option V) → Tree K V → Option (Tree K V)
  sift rule (leaf i k v) = leaf_if_any i k (rule k v)
  sift rule (branch i p k l r) = glue i p k (sift rule l) (sift rule r)

  -- what `rule` keeps of what the key x found
  abbrev pub kept : (K → V → Option V) → K → Option V → Option V
  kept rule x None = None
  kept rule x (Some v) = rule x v
