-- Trees and the free chain in a slice while nodes of it are written.
use Rattle.std.proofs.Common.{◌≡◌, ℕ, ◌+◌, ◌≤◌, List, [], ◌∷◌, length, sym, refl, ap, ◌∙◌, subst, arith}
use Rattle.trees.specs.Tree.{Tree, leaf, branch, one, times, root, uses, move}
use Rattle.trees.proofs.Move.{one_same}
use Rattle.pool.specs.declared.node.Node.{Node}
use Rattle.pool.specs.declared.account.Account.{Account}
use Rattle.pool.specs.Slice.{At, Stands, Chain}
use Rattle.pool.specs.Nodes.{Took}
use Rattle.pool.proofs.Reading.{one_node}
use Rattle.pool.proofs.After.{stands_kept}

-- what is counted somewhere is not where nothing is counted
pub apart : (f : ℕ → ℕ) (i j : ℕ) → f i ≡ 0 → 1 ≤ f j → j ≡ i → ⊥
apart f i j h g e = omega (arith, ap f e)

-- a node that is not counted at j is not j
pub not_one : (i j : ℕ) → one i j ≡ 0 → j ≡ i → ⊥
not_one i j h e = omega (arith, one_same i j (sym e))

module _ {K V : Type 0} where
  pub at_same : (ns : List (Node K V)) (i w : ℕ) (x y : Node K V) → i ≡ w → x ≡ y → At ns w y → At ns i x
  at_same ns i w x y e f h = subst (λ (z : ℕ). At ns z x) (sym e) (subst (λ (z : Node K V). At ns w z) (sym f) h)

  -- moved to another node, it stands as long as the rest of them are
  pub stands_moved : (ns ns' : List (Node K V)) (a : ℕ) (t : Tree K V) → ((x : Node K V) → At ns (root t) x → At ns' a x)
      → ((j : ℕ) → one (root t) j + 1 ≤ uses j t → (x : Node K V) → At ns j x → At ns' j x) → Stands ns t → Stands ns' (move a t)
  stands_moved ns ns' a (leaf i k v) moved keep s = moved _ s
  stands_moved ns ns' a (branch i p k l r) moved keep s =
      (moved _ s.0, stands_kept ns ns' l (λ j h. keep j (omega arith)) s.1, stands_kept ns ns' r (λ j h. keep j (omega arith)) s.2)

  pub chain_kept : (ns ns' : List (Node K V)) (h : ℕ) (is : List ℕ) → ((j : ℕ) → 1 ≤ times j is → (x : Node K V) → At ns j x → At ns' j x) → Chain ns h is → Chain ns' h is
  chain_kept ns ns' h [] keep c = c
  chain_kept ns ns' h (i ∷ is) keep c =
      (c.0, (c.1.0, keep i (omega (arith, one_same i i refl)) _ c.1.1, chain_kept ns ns' c.1.0 is (λ j g. keep j (omega arith)) c.1.2))

  -- the node that is taken is the chain's first, and the rest of the chain is what the account then says
  pub took_first : (ns : List (Node K V)) (before after : Account) (a i : ℕ) (is : List ℕ) → Took ns before a after → Chain ns before.head (i ∷ is)
      → (a ≡ i) × Chain ns after.head is
  took_first ns before after a i is took chain =
      let same : a ≡ i = took.first ∙ chain.0 in
      let node = one_node ns a i _ _ same took.free chain.1.1 in
      let next : chain.1.0 ≡ after.head = cc in
      (same, subst (λ (n : ℕ). Chain ns n is) next chain.1.2)

  -- a node is refused only where no chain is as long as the account says, or none is free
  abbrev pub NoNode : List (Node K V) → Account → Type 0
  NoNode ns account = (i : ℕ) (is : List ℕ) → Chain ns account.head (i ∷ is) → length (i ∷ is) ≡ account.free → ⊥

  pub one_node_free : (ns : List (Node K V)) (account : Account) (chain : List ℕ) → Chain ns account.head chain → length chain ≡ account.free → 1 ≤ account.free
      → NoNode ns account → ⊥
  one_node_free ns account [] linked counted some no_Node = omega arith
  one_node_free ns account (i ∷ is) linked counted some no_Node = no_Node i is linked counted

  pub two_nodes_free : (ns : List (Node K V)) (before between : Account) (first : ℕ) (chain : List ℕ) → Chain ns before.head chain → length chain ≡ before.free
      → 2 ≤ before.free → Took ns before first between → NoNode ns between → ⊥
  two_nodes_free ns before between first [] linked counted two took no_Node = omega arith
  two_nodes_free ns before between first (i ∷ is) linked counted two took no_Node =
      let fewer = took.fewer in
      one_node_free ns between is (took_first ns before between first i is took linked).1 (omega arith) (omega arith) no_Node
