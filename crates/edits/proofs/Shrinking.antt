-- The key's leaf taken from a tree that stands in a slice, and the branch above it closed up.
use Rattle.std.proofs.Common.{◌≡◌, ℕ, ◌+◌, ◌≤◌, Bool, true, false, cond, ◌⊎◌, List, [], ◌∷◌, Some, None, Option, sym, refl, ap, ◌∙◌, subst, inl, inr, ⊎_elim, arith}
use Rattle.std.proofs.lemmas.Option.{same_Some}
use Rattle.keys.specs.Model.{KeyModel, number}
use Rattle.trees.specs.Tree.{Tree, leaf, branch, one, root, uses, move}
use Rattle.trees.specs.Remove.{removed, freed}
use Rattle.trees.proofs.Move.{one_same, one_root}
use Rattle.trees.proofs.Remove.{removed_keeps, removed_loses, freed_keeps, freed_loses, removed_leaf, freed_leaf, root_removed}
use Rattle.pool.specs.declared.node.Node.{Node}
use Rattle.pool.specs.declared.node.Node.TheVariants.{Branch}
use Rattle.pool.specs.Slice.{At, Stands}
use Rattle.pool.proofs.After.{stands_kept}
use Rattle.walks.specs.declared.descent.Parent.{Parent}
use Rattle.walks.specs.declared.descent.Landing.{Landing}
use Rattle.walks.specs.Landings.{landing}
use Rattle.edits.proofs.Writing.{not_one, at_same, stands_moved}

parent_of : (a b c d : ℕ) → ◌≡◌ {A = Option Parent} (Some (record { at = a; sibling = b })) (Some (record { at = c; sibling = d })) → (a ≡ c) × (b ≡ d)
parent_of a b c d e =
    let same = same_Some _ _ e in
    (ap (λ (q : Parent). q.at) same, ap (λ (q : Parent). q.sibling) same)

module _ {K V : Type 0} where
  -- the two sides of a branch, by a bit
  pub sides_uses : (b : Bool) (j : ℕ) (l r : Tree K V) → uses j l + uses j r ≡ uses j (cond b r l) + uses j (cond b l r)
  sides_uses true j l r = omega arith
  sides_uses false j l r = omega arith

  near_stands : (b : Bool) (ns : List (Node K V)) (l r : Tree K V) → Stands ns l → Stands ns r → Stands ns (cond b r l)
  near_stands true ns l r sl sr = sr
  near_stands false ns l r sl sr = sl

  far_stands : (b : Bool) (ns : List (Node K V)) (l r : Tree K V) → Stands ns l → Stands ns r → Stands ns (cond b l r)
  far_stands true ns l r sl sr = sl
  far_stands false ns l r sl sr = sr

  -- another tree in place of the near side, at the same node
  side_stands : (b : Bool) (ns : List (Node K V)) (i p : ℕ) (k : K) (l r c : Tree K V) → root c ≡ root (cond b r l) → At ns i (Branch p k (root l) (root r))
      → Stands ns (cond b l r) → Stands ns c → Stands ns (branch i p k (cond b l c) (cond b c r))
  side_stands true ns i p k l r c e h far near = (at_same ns i i _ _ refl (ap (λ (n : ℕ). Branch p k (root l) n) e) h, far, near)
  side_stands false ns i p k l r c e h far near = (at_same ns i i _ _ refl (ap (λ (n : ℕ). Branch p k n (root r)) e) h, near, far)

module _ {K V : Type 0} (κ : KeyModel K) (x : K) (end parent sibling : ℕ) where
  -- the walk for x ends at the leaf `end` of x, right below the branch `parent`, whose other side begins at `sibling`
  pub record Ends (d : Landing K V) : Type 0 where
    pub at_end : d.at ≡ end
    pub of_key : number κ d.own ≡ number κ x
    pub below : d.parent ≡ Some (record { at = parent; sibling = sibling })

  -- the tree is that leaf alone
  pub record Gone (above : Option Parent) (t : Tree K V) : Type 0 where
    pub all : removed κ x t ≡ None
    pub gave : freed κ x t ≡ end ∷ []
    pub alone : (j : ℕ) → uses j t ≡ one end j
    pub under : above ≡ Some (record { at = parent; sibling = sibling })

  -- the tree has the branch too
  pub record Lost (t : Tree K V) : Type 0 where
    pub tree : Tree K V
    pub rest : removed κ x t ≡ Some tree
    pub gave : freed κ x t ≡ sibling ∷ (end ∷ [])
    pub within : (j : ℕ) → one parent j + one sibling j + one end j ≤ uses j t

  module _ (i p : ℕ) (k : K) (l r : Tree K V) (b : Bool) (bit : κ.bit x p ≡ b) where
    lost_here : Gone (Some (record { at = i; sibling = root (cond b l r) })) (cond b r l) → Lost (branch i p k l r)
    lost_here gone =
        let same = parent_of i (root (cond b l r)) parent sibling gone.under in
        record {
          tree = move i (cond b l r);
          rest = removed_loses κ x i p k l r b bit gone.all;
          gave = freed_loses κ x i p k l r b bit gone.all ∙ ap (λ (is : List ℕ). root (cond b l r) ∷ is) gone.gave ∙ ap (λ (n : ℕ). n ∷ (end ∷ [])) same.1;
          within = λ j.
              let e : one i j ≡ one parent j = ap (λ (n : ℕ). one n j) same.0 in
              let f : one (root (cond b l r)) j ≡ one sibling j = ap (λ (n : ℕ). one n j) same.1 in
              omega (arith, sides_uses b j l r, gone.alone j, one_root j (cond b l r));
        }

    lost_below : Lost (cond b r l) → Lost (branch i p k l r)
    lost_below lost = record {
      tree = branch i p k (cond b l lost.tree) (cond b lost.tree r);
      rest = removed_keeps κ x i p k l r b lost.tree bit lost.rest;
      gave = freed_keeps κ x i p k l r b lost.tree bit lost.rest ∙ lost.gave;
      within = λ j. omega (arith, sides_uses b j l r, lost.within j);
    }

  pub lost : (t : Tree K V) (above : Option Parent) → Ends (landing (κ.bit x) above t) → Gone above t ⊎ Lost t
  lost (leaf i k v) above ends = inl (record {
    all = removed_leaf κ x i k v ends.of_key;
    gave = freed_leaf κ x i k v ends.of_key ∙ ap (λ (n : ℕ). n ∷ []) ends.at_end;
    alone = λ j. ap (λ (n : ℕ). one n j) ends.at_end;
    under = ends.below;
  })
  lost (branch i p k l r) above ends = inr (by_bit (κ.bit x p) refl (lost l _) (lost r _) ends) where
    left : Option Parent
    left = Some (record { at = i; sibling = root r })

    right : Option Parent
    right = Some (record { at = i; sibling = root l })

    by_bit : (b : Bool) → κ.bit x p ≡ b → (Ends (landing (κ.bit x) left l) → Gone left l ⊎ Lost l) → (Ends (landing (κ.bit x) right r) → Gone right r ⊎ Lost r)
        → Ends (cond b (landing (κ.bit x) right r) (landing (κ.bit x) left l)) → Lost (branch i p k l r)
    by_bit true e in_left in_right h = ⊎_elim (lost_here i p k l r true e) (lost_below i p k l r true e) (in_right h)
    by_bit false e in_left in_right h = ⊎_elim (lost_here i p k l r false e) (lost_below i p k l r false e) (in_left h)

  module _ (ns ns' : List (Node K V))
      (keep : (j : ℕ) → (j ≡ parent → ⊥) → (j ≡ sibling → ⊥) → (j ≡ end → ⊥) → (y : Node K V) → At ns j y → At ns' j y)
      (lifted : (y : Node K V) → At ns sibling y → At ns' parent y) where
    module _ (i p : ℕ) (k : K) (l r : Tree K V) (b : Bool) (bit : κ.bit x p ≡ b) (st : Stands ns (branch i p k l r))
        (once : (j : ℕ) → uses j (branch i p k l r) ≤ 1) (tree : Tree K V) (rest : removed κ x (branch i p k l r) ≡ Some tree) where
      stands_here : Gone (Some (record { at = i; sibling = root (cond b l r) })) (cond b r l) → Stands ns' tree
      stands_here gone =
          let same = parent_of i (root (cond b l r)) parent sibling gone.under in
          let loses = removed_loses κ x i p k l r b bit gone.all in
          let is : move i (cond b l r) ≡ tree = cc in
          subst (Stands ns') is
          (stands_moved ns ns' i (cond b l r)
          (λ y h. subst (λ (n : ℕ). At ns' n y) (sym same.0) (lifted y (subst (λ (n : ℕ). At ns n y) same.1 h)))
          (λ j h.
          let o = once j in
          let sides = sides_uses b j l r in
          let alone = gone.alone j in
          let e : one i j ≡ one parent j = ap (λ (n : ℕ). one n j) same.0 in
          let f : one (root (cond b l r)) j ≡ one sibling j = ap (λ (n : ℕ). one n j) same.1 in
          keep j (not_one parent j (omega arith)) (not_one sibling j (omega arith)) (not_one end j (omega arith)))
          (far_stands b ns l r st.1 st.2))

      stands_below : (c : Tree K V) → Lost (cond b r l) → removed κ x (cond b r l) ≡ Some c → Stands ns' c → Stands ns' tree
      stands_below c below left near =
          let keeps = removed_keeps κ x i p k l r b c bit left in
          let is : branch i p k (cond b l c) (cond b c r) ≡ tree = cc in
          let other : (j : ℕ) → 1 ≤ one i j + uses j (cond b l r) → (y : Node K V) → At ns j y → At ns' j y =
          λ j h.
          let o = once j in
          let sides = sides_uses b j l r in
          let within = below.within j in
          keep j (not_one parent j (omega arith)) (not_one sibling j (omega arith)) (not_one end j (omega arith)) in
          subst (Stands ns') is
          (side_stands b ns' i p k l r c (root_removed κ x (cond b r l) c left)
          (other i (omega (arith, one_same i i refl)) _ st.0)
          (stands_kept ns ns' (cond b l r) (λ j h. other j (omega arith)) (far_stands b ns l r st.1 st.2))
          near)

    -- what is left stands
    pub stands_lost : (t : Tree K V) (above : Option Parent) → Ends (landing (κ.bit x) above t) → Stands ns t → ((j : ℕ) → uses j t ≤ 1)
        → (tree : Tree K V) → removed κ x t ≡ Some tree → Stands ns' tree
    stands_lost (leaf i k v) above ends st once tree rest =
        let gone = removed_leaf κ x i k v ends.of_key in absurd cc
    stands_lost (branch i p k l r) above ends st once tree rest =
        by_bit (κ.bit x p) refl (λ h. stands_lost l _ h st.1 (λ j. omega (arith, once j))) (λ h. stands_lost r _ h st.2 (λ j. omega (arith, once j))) ends
      where
        left : Option Parent
        left = Some (record { at = i; sibling = root r })

        right : Option Parent
        right = Some (record { at = i; sibling = root l })

        by_bit : (b : Bool) → κ.bit x p ≡ b → (Ends (landing (κ.bit x) left l) → (c : Tree K V) → removed κ x l ≡ Some c → Stands ns' c)
            → (Ends (landing (κ.bit x) right r) → (c : Tree K V) → removed κ x r ≡ Some c → Stands ns' c)
            → Ends (cond b (landing (κ.bit x) right r) (landing (κ.bit x) left l)) → Stands ns' tree
        by_bit true e in_left in_right h =
            ⊎_elim (stands_here i p k l r true e st once tree rest)
            (λ below. stands_below i p k l r true e st once tree rest below.tree below below.rest (in_right h below.tree below.rest))
            (lost r right h)
        by_bit false e in_left in_right h =
            ⊎_elim (stands_here i p k l r false e st once tree rest)
            (λ below. stands_below i p k l r false e st once tree rest below.tree below below.rest (in_left h below.tree below.rest))
            (lost l left h)
