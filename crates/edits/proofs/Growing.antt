-- A record put into a tree that stands in a slice: what the writes leave.
use Rattle.std.proofs.Common.{◌≡◌, ℕ, ◌+◌, ◌<◌, ◌≤◌, Bool, true, false, cond, List, ◌∷◌, length, set, Some, sym, refl, ap, subst, arith, length-set, le-ltb, lt-ltb}
use Rattle.keys.specs.Model.{KeyModel}
use Rattle.trees.specs.Tree.{Tree, leaf, branch, times, root, uses, move}
use Rattle.trees.specs.Order.{Ordered}
use Rattle.trees.specs.Insert.{Spot, here, left, right, fork, grown}
use Rattle.trees.proofs.Move.{one_same, root_move}
use Rattle.trees.proofs.Insert.{spot_used, root_grown, ordered_grown, lookup_grown, uses_grown, uses_joined}
use Rattle.pool.specs.declared.node.Node.{Node}
use Rattle.pool.specs.declared.node.Node.TheVariants.{Leaf, Branch}
use Rattle.pool.specs.declared.account.Account.{Account}
use Rattle.pool.specs.Slice.{At, Stands, Chain}
use Rattle.pool.specs.Walks.{Left}
use Rattle.pool.proofs.Reading.{one_node, written_there, kept_elsewhere}
use Rattle.pool.proofs.After.{stands_kept}
use Rattle.edits.specs.Owned.{owned}
use Rattle.edits.specs.Inserted.{with_update}
use Rattle.edits.proofs.Writing.{apart, not_one, at_same, chain_kept}

module _ {K V : Type 0} (κ : KeyModel K) (join : V → V → V) (x : K) (v : V) (a b w m : ℕ) where
  module _ (ns ns' : List (Node K V))
      (keep : (j : ℕ) → (j ≡ w → ⊥) → (j ≡ a → ⊥) → (j ≡ b → ⊥) → (y : Node K V) → At ns j y → At ns' j y)
      (moved : (y : Node K V) → At ns w y → At ns' a y)
      (new : At ns' b (Leaf x v))
      (forked : At ns' w (Branch m x (cond (κ.bit x m) a b) (cond (κ.bit x m) b a))) where
    -- a node that gives way to a fork
    stands_fork : (u : Tree K V) → root u ≡ w → Stands ns' (move a u) → Stands ns' (fork κ x v a b m u)
    stands_fork u e s = by_bit (κ.bit x m) forked where
      by_bit : (z : Bool) → At ns' w (Branch m x (cond z a b) (cond z b a))
          → Stands ns' (branch (root u) m x (cond z (move a u) (leaf b x v)) (cond z (leaf b x v) (move a u)))
      by_bit true h = (at_same ns' (root u) w _ _ e (ap (λ (n : ℕ). Branch m x n b) (root_move a u)) h, s, new)
      by_bit false h = (at_same ns' (root u) w _ _ e (ap (λ (n : ℕ). Branch m x b n) (root_move a u)) h, new, s)

    -- a tree of other nodes
    stays : (t : Tree K V) → uses w t ≡ 0 → uses a t ≡ 0 → uses b t ≡ 0 → Stands ns t → Stands ns' t
    stays t hw ha hb =
        let count : ℕ → ℕ = λ j. uses j t in
        stands_kept ns ns' t (λ j h. keep j (apart count w j hw h) (apart count a j ha h) (apart count b j hb h))

    pub stands_grown : (t : Tree K V) (s : Spot κ x w m t) → m < κ.PLACES → ((j : ℕ) → uses j t ≤ 1) → uses a t ≡ 0 → uses b t ≡ 0
        → Stands ns t → Stands ns' (grown κ join x v a b w m t s)
    stands_grown (leaf i k u) s lt once na nb st =
        rw (lt-ltb m κ.PLACES lt) (stands_fork (leaf i k u) s.0 (moved (Leaf k u) (at_same ns w i _ _ (sym s.0) refl st)))
    stands_grown (branch i p k l r) (here q) lt once na nb st =
        let iw = one_same i w q.0 in
        let ow = once w in
        stands_fork (branch i p k l r) q.0 (
          moved (Branch p k (root l) (root r)) (at_same ns w i _ _ (sym q.0) refl st.0),
          stays l (omega arith) (omega arith) (omega arith) st.1,
          stays r (omega arith) (omega arith) (omega arith) st.2,
        )
    stands_grown (branch i p k l r) (left q) lt once na nb st =
        let used = spot_used κ join x v a b w m l q.2 in
        let ow = once w in (
          at_same ns' i i _ _ refl (ap (λ (n : ℕ). Branch p k n (root r)) (root_grown κ join x v a b w m l q.2))
              (keep i (λ e. omega (arith, one_same i w e)) (λ e. omega (arith, one_same i a e)) (λ e. omega (arith, one_same i b e)) _ st.0),
          stands_grown l q.2 lt (λ j. omega (arith, once j)) (omega arith) (omega arith) st.1,
          stays r (omega arith) (omega arith) (omega arith) st.2,
        )
    stands_grown (branch i p k l r) (right q) lt once na nb st =
        let used = spot_used κ join x v a b w m r q.2 in
        let ow = once w in (
          at_same ns' i i _ _ refl (ap (λ (n : ℕ). Branch p k (root l) n) (root_grown κ join x v a b w m r q.2))
              (keep i (λ e. omega (arith, one_same i w e)) (λ e. omega (arith, one_same i a e)) (λ e. omega (arith, one_same i b e)) _ st.0),
          stays l (omega arith) (omega arith) (omega arith) st.1,
          stands_grown r q.2 lt (λ j. omega (arith, once j)) (omega arith) (omega arith) st.2,
        )

  module _ (ns ns' : List (Node K V))
      (keep : (j : ℕ) → (j ≡ w → ⊥) → (y : Node K V) → At ns j y → At ns' j y)
      (joins : (k : K) (u : V) → At ns w (Leaf k u) → At ns' w (Leaf k (join u v))) where
    stays_joined : (t : Tree K V) → uses w t ≡ 0 → Stands ns t → Stands ns' t
    stays_joined t hw = let count : ℕ → ℕ = λ j. uses j t in stands_kept ns ns' t (λ j h. keep j (apart count w j hw h))

    -- a leaf whose record is joined
    pub stands_joined : (least : ℕ) (t : Tree K V) (s : Spot κ x w m t) → κ.PLACES ≤ m → Ordered κ least t → ((j : ℕ) → uses j t ≤ 1)
        → Stands ns t → Stands ns' (grown κ join x v a b w m t s)
    stands_joined least (leaf i k u) s ge o once st =
        rw (le-ltb m κ.PLACES ge) (at_same ns' i w _ _ s.0 refl (joins k u (at_same ns w i _ _ (sym s.0) refl st)))
    stands_joined least (branch i p k l r) (here q) ge o once st = absurd (let before = q.2 in let high = o.1 in omega arith)
    stands_joined least (branch i p k l r) (left q) ge o once st =
        let used = spot_used κ join x v a b w m l q.2 in
        let ow = once w in (
          at_same ns' i i _ _ refl (ap (λ (n : ℕ). Branch p k n (root r)) (root_grown κ join x v a b w m l q.2))
              (keep i (λ e. omega (arith, one_same i w e)) _ st.0),
          stands_joined (p + 1) l q.2 ge o.4 (λ j. omega (arith, once j)) st.1,
          stays_joined r (omega arith) st.2,
        )
    stands_joined least (branch i p k l r) (right q) ge o once st =
        let used = spot_used κ join x v a b w m r q.2 in
        let ow = once w in (
          at_same ns' i i _ _ refl (ap (λ (n : ℕ). Branch p k (root l) n) (root_grown κ join x v a b w m r q.2))
              (keep i (λ e. omega (arith, one_same i w e)) _ st.0),
          stays_joined l (omega arith) st.1,
          stands_joined (p + 1) r q.2 ge o.5 (λ j. omega (arith, once j)) st.2,
        )

-- the two ways that a put into a tree ends
module _ {K V : Type 0} (κ : KeyModel K) (join : V → V → V) (x : K) (v : V) (ns ns' : List (Node K V)) (w m : ℕ) (t : Tree K V)
    (st : Stands ns t) (o : Ordered κ 0 t) (s : Spot κ x w m t) where
  -- a new leaf at b, under a branch at w, from which the node moves to a
  pub left_forked : (a b : ℕ) (rest : List ℕ) (old : Node K V) (before after : Account) → m < κ.PLACES → At ns w old → a < length ns → b < length ns
      → Chain ns after.head rest → length rest ≡ after.free → after.capacity ≡ before.capacity
      → ((j : ℕ) → uses j t + times j (a ∷ (b ∷ rest)) ≤ 1)
      → ns' ≡ set (set (set ns a old) b (Leaf x v)) w (Branch m x (cond (κ.bit x m) a b) (cond (κ.bit x m) b a))
      → Left κ ns ns' (with_update κ join x v (Some t)) (owned (Some t) (a ∷ (b ∷ rest))) before after (Some (root t))
  left_forked a b rest old before after lt was la lb linked counted capacity once written =
      let aa = one_same a a refl in
      let bb = one_same b b refl in
      let oa = once a in
      let ob = once b in
      let ow = once w in
      let na : uses a t ≡ 0 = omega arith in
      let nb : uses b t ≡ 0 = omega arith in
      let ab : a ≡ b → ⊥ = λ e. omega (arith, one_same b a (sym e)) in
      let ww : 1 ≤ uses w t = spot_used κ join x v a b w m t s in
      let count : ℕ → ℕ = λ j. uses j t in
      let wa : w ≡ a → ⊥ = apart count a w na ww in
      let wb : w ≡ b → ⊥ = apart count b w nb ww in
      let one_set : List (Node K V) = set ns a old in
      let two_set : List (Node K V) = set one_set b (Leaf x v) in
      let keep : (j : ℕ) → (j ≡ w → ⊥) → (j ≡ a → ⊥) → (j ≡ b → ⊥) → (y : Node K V) → At ns j y → At ns' j y =
      λ j jw ja jb y h. subst (λ (n : List (Node K V)). At n j y) (sym written)
      (kept_elsewhere two_set w _ j y jw (kept_elsewhere one_set b _ j y jb (kept_elsewhere ns a old j y ja h))) in
      let moved : (y : Node K V) → At ns w y → At ns' a y =
      λ y h. subst (λ (n : List (Node K V)). At n a y) (sym written)
      (kept_elsewhere two_set w _ a y (λ e. wa (sym e)) (kept_elsewhere one_set b _ a y ab
      (at_same one_set a a y old refl (one_node ns w w y old refl h was) (written_there ns a old la)))) in
      let new : At ns' b (Leaf x v) = subst (λ (n : List (Node K V)). At n b (Leaf x v)) (sym written)
      (kept_elsewhere two_set w _ b _ (λ e. wb (sym e)) (written_there one_set b (Leaf x v) (rw length-set lb))) in
      let forked : At ns' w (Branch m x (cond (κ.bit x m) a b) (cond (κ.bit x m) b a)) =
      subst (λ (n : List (Node K V)). At n w (Branch m x (cond (κ.bit x m) a b) (cond (κ.bit x m) b a))) (sym written)
      (written_there two_set w _ (rw (length-set, length-set) was.0)) in
      let chained : ℕ → ℕ = λ j. times j rest in
      record {
        map = Some (grown κ join x v a b w m t s);
        chain = rest;
        standing = record {
          rooted = ap Some (sym (root_grown κ join x v a b w m t s));
          stands = stands_grown κ join x v a b w m ns ns' keep moved new forked t s lt (λ j. omega (arith, once j)) na nb st;
          ordered = ordered_grown κ join x v a b w m t s o;
        };
        found = λ y. lookup_grown κ join x v a b w m y 0 t s o;
        linked = chain_kept ns ns' after.head rest (λ j h. keep j (apart chained w j (omega arith) h) (apart chained a j (omega arith) h) (apart chained b j (omega arith) h)) linked;
        counted = counted;
        capacity = capacity;
        used = λ j. omega (arith, uses_grown κ join x v a b w m j t s lt);
        kept = λ j h. keep j (λ e. omega (arith, ap count e)) (not_one a j (omega arith)) (not_one b j (omega arith));
      }

  -- the record of the leaf at w joined with v
  pub left_joined : (chain : List ℕ) (k : K) (u : V) (account : Account) → κ.PLACES ≤ m → At ns w (Leaf k u)
      → Chain ns account.head chain → length chain ≡ account.free → ((j : ℕ) → uses j t + times j chain ≤ 1)
      → ns' ≡ set ns w (Leaf k (join u v))
      → Left κ ns ns' (with_update κ join x v (Some t)) (owned (Some t) chain) account account (Some (root t))
  left_joined chain k u account ge was linked counted once written =
      let ww : 1 ≤ uses w t = spot_used κ join x v 0 0 w m t s in
      let ow = once w in
      let count : ℕ → ℕ = λ j. uses j t in
      let chained : ℕ → ℕ = λ j. times j chain in
      let keep : (j : ℕ) → (j ≡ w → ⊥) → (y : Node K V) → At ns j y → At ns' j y =
      λ j jw y h. subst (λ (n : List (Node K V)). At n j y) (sym written) (kept_elsewhere ns w _ j y jw h) in
      let joins : (j : K) (z : V) → At ns w (Leaf j z) → At ns' w (Leaf j (join z v)) =
      λ j z h. let node = one_node ns w w _ _ refl h was in
      let same_key_there : j ≡ k = cc in
      let same_record : z ≡ u = cc in
      let same : Leaf j (join z v) ≡ Leaf k (join u v) = cc in
      subst (λ (n : List (Node K V)). At n w (Leaf j (join z v))) (sym written) (at_same _ w w _ _ refl same (written_there ns w (Leaf k (join u v)) was.0)) in
      record {
        map = Some (grown κ join x v 0 0 w m t s);
        chain = chain;
        standing = record {
          rooted = ap Some (sym (root_grown κ join x v 0 0 w m t s));
          stands = stands_joined κ join x v 0 0 w m ns ns' keep joins 0 t s ge o (λ j. omega (arith, once j)) st;
          ordered = ordered_grown κ join x v 0 0 w m t s o;
        };
        found = λ y. lookup_grown κ join x v 0 0 w m y 0 t s o;
        linked = chain_kept ns ns' account.head chain (λ j h. keep j (apart chained w j (omega arith) h)) linked;
        counted = counted;
        capacity = refl;
        used = λ j. omega (arith, uses_joined κ join x v 0 0 w m j 0 t s ge o);
        kept = λ j h. keep j (λ e. omega (arith, ap count e));
      }
