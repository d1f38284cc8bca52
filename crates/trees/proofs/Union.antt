-- The union of two trees, case by case, from the unions of their parts.
use Rattle.std.proofs.Common.{◌≡◌, ℕ, ◌+◌, ◌<◌, ◌≤◌, Bool, true, false, cond, not, ◌++◌, Some, None, Option, sym, refl, ap, ◌∙◌, subst, inl, inr, ⊎_elim}
use Rattle.keys.specs.Model.{KeyModel}
use Rattle.trees.specs.Tree.{Tree, leaf, branch, root, entries, move, AllKeys}
use Rattle.trees.specs.Order.{Agree, Side, Ordered}
use Rattle.trees.specs.Find.{same_key, lookup}
use Rattle.trees.specs.Union.{both, In, Union}
use Rattle.trees.proofs.AllKeys.{all_keys_weaker}
use Rattle.trees.proofs.Move.{all_keys_move, ordered_move}
use Rattle.trees.proofs.Order.{ordered_side}
use Rattle.trees.proofs.Lookup.{lookup_move, lookup_other_side, lookup_sides, lookup_side}

pub both_none : {V : Type 0} (join : V → V → V) (o : Option V) → both join o None ≡ o
both_none join None = refl
both_none join (Some v) = refl

module _ {K V : Type 0} where
  -- what holds of all keys holds of each
  pub all_keys_in : (P : K → Type 0) (t : Tree K V) → AllKeys P t → (j : K) → In j t → P j
  all_keys_in P (leaf i k v) h j e = subst P (sym e) h
  all_keys_in P (branch i p k l r) h j (inl m) = all_keys_in P l h.0 j m
  all_keys_in P (branch i p k l r) h j (inr m) = all_keys_in P r h.1 j m

  pub in_all_keys : (t : Tree K V) → AllKeys (λ j. In j t) t
  in_all_keys (leaf i k v) = refl
  in_all_keys (branch i p k l r) = (all_keys_weaker (λ j m. inl m) l (in_all_keys l), all_keys_weaker (λ j m. inr m) r (in_all_keys r))

  pub in_move : (a : ℕ) (t : Tree K V) (j : K) → In j (move a t) → In j t
  in_move a (leaf i k v) j m = m
  in_move a (branch i p k l r) j m = m

module _ {K V : Type 0} (κ : KeyModel K) (join : V → V → V) where
  -- what holds of the keys of both trees holds of the union's
  pub all_keys_union : (P : K → Type 0) (least : ℕ) (t u r : Tree K V) → Union κ join least t u r → AllKeys P t → AllKeys P u → AllKeys P r
  all_keys_union P least t u r un ht hu = all_keys_weaker (λ j. ⊎_elim (all_keys_in P t ht j) (all_keys_in P u hu j)) r un.keys

  -- two leaves of one key
  pub union_leaf : (least i j : ℕ) (k : K) (u v : V) → Union κ join least (leaf i k u) (leaf j k v) (leaf i k (join u v))
  union_leaf least i j k u v = record {
    rooted = refl;
    ordered = tt;
    found =
        λ x. elim (same_key κ k x) as (λ z. cond z (Some (join u v)) None ≡ both join (cond z (Some u) None) (cond z (Some v) None)) [
          | true ↦ refl
          | false ↦ refl
        ];
    keys = inl refl;
  }

  -- two branches at one place with one prefix: side by side
  pub union_level : (least i j p : ℕ) (k k' : K) (l r l' r' q s : Tree K V) → Agree κ p k' k → Ordered κ least (branch i p k l r)
      → Ordered κ least (branch j p k' l' r')
      → Union κ join (p + 1) l l' q → Union κ join (p + 1) r r' s
      → Union κ join least (branch i p k l r) (branch j p k' l' r') (branch i p k q s)
  union_level least i j p k k' l r l' r' q s shared o o' uq us = record {
    rooted = refl;
    ordered = whole;
    found = λ x. by_bit x (κ.bit x p) refl;
    keys = (
      all_keys_weaker (λ x. ⊎_elim (λ m. inl (inl m)) (λ m. inr (inl m))) q uq.keys,
      all_keys_weaker (λ x. ⊎_elim (λ m. inl (inr m)) (λ m. inr (inr m))) s us.keys,
    );
  } where
    turn : (b : Bool) (x : K) → Side κ p b k' x → Side κ p b k x
    turn b x h = ((λ z lz. h.0 z lz ∙ shared z lz), h.1)

    whole : Ordered κ least (branch i p k q s)
    whole = (
      o.0,
      o.1,
      all_keys_union (Side κ p false k) (p + 1) l l' q uq o.2 (all_keys_weaker (turn false) l' o'.2),
      all_keys_union (Side κ p true k) (p + 1) r r' s us o.3 (all_keys_weaker (turn true) r' o'.3),
      uq.ordered,
      us.ordered,
    )

    by_bit : (x : K) (b : Bool) → κ.bit x p ≡ b
        → lookup κ (entries q ++ entries s) x ≡ both join (lookup κ (entries l ++ entries r) x) (lookup κ (entries l' ++ entries r') x)
    by_bit x true e =
        rw (lookup_side κ x least i p k q s whole true e, lookup_side κ x least i p k l r o true e, lookup_side κ x least j p k' l' r' o' true e)
        (us.found x)
    by_bit x false e =
        rw (lookup_side κ x least i p k q s whole false e, lookup_side κ x least i p k l r o false e, lookup_side κ x least j p k' l' r' o' false e)
        (uq.found x)

  -- a branch, and a tree all of whose keys go to one side of it: the branch with that side's union
  pub union_into : (b : Bool) (least i p : ℕ) (k : K) (l r u q : Tree K V) → Ordered κ least (branch i p k l r) → AllKeys (Side κ p b k) u
      → Union κ join (p + 1) (cond b r l) u q → Union κ join least (branch i p k l r) u (branch i p k (cond b l q) (cond b q r))
  union_into true least i p k l r u q o hu un = record {
    rooted = refl;
    ordered = whole;
    found = λ x. by_bit x (κ.bit x p) refl;
    keys = (all_keys_weaker (λ x m. inl (inl m)) l (in_all_keys l), all_keys_weaker (λ x. ⊎_elim (λ m. inl (inr m)) (λ m. inr m)) q un.keys);
  } where
    whole : Ordered κ least (branch i p k l q)
    whole = ordered_side κ least i p k l r o true q (all_keys_union (Side κ p true k) (p + 1) r u q un o.3 hu) un.ordered

    by_bit : (x : K) (b : Bool) → κ.bit x p ≡ b
        → lookup κ (entries l ++ entries q) x ≡ both join (lookup κ (entries l ++ entries r) x) (lookup κ (entries u) x)
    by_bit x true e = rw (lookup_side κ x least i p k l q whole true e, lookup_side κ x least i p k l r o true e) (un.found x)
    by_bit x false e =
        rw (lookup_side κ x least i p k l q whole false e, lookup_side κ x least i p k l r o false e, lookup_other_side κ x p true k u o.1 hu e)
        (sym (both_none join (lookup κ (entries l) x)))
  union_into false least i p k l r u q o hu un = record {
    rooted = refl;
    ordered = whole;
    found = λ x. by_bit x (κ.bit x p) refl;
    keys = (all_keys_weaker (λ x. ⊎_elim (λ m. inl (inl m)) (λ m. inr m)) q un.keys, all_keys_weaker (λ x m. inl (inr m)) r (in_all_keys r));
  } where
    whole : Ordered κ least (branch i p k q r)
    whole = ordered_side κ least i p k l r o false q (all_keys_union (Side κ p false k) (p + 1) l u q un o.2 hu) un.ordered

    by_bit : (x : K) (b : Bool) → κ.bit x p ≡ b
        → lookup κ (entries q ++ entries r) x ≡ both join (lookup κ (entries l ++ entries r) x) (lookup κ (entries u) x)
    by_bit x false e = rw (lookup_side κ x least i p k q r whole false e, lookup_side κ x least i p k l r o false e) (un.found x)
    by_bit x true e =
        rw (lookup_side κ x least i p k q r whole true e, lookup_side κ x least i p k l r o true e, lookup_other_side κ x p false k u o.1 hu e)
        (sym (both_none join (lookup κ (entries r) x)))

  -- a tree all of whose keys go to one side of a branch: the branch at the tree's node, with that side's union
  pub union_under : (b : Bool) (least i p a : ℕ) (k : K) (t l r q : Tree K V) → Ordered κ least (branch i p k l r)
      → AllKeys (Side κ p b k) t
      → Union κ join (p + 1) (move a t) (cond b r l) q
      → Union κ join least t (branch i p k l r) (branch (root t) p k (cond b l q) (cond b q r))
  union_under true least i p a k t l r q o ht un = record {
    rooted = refl;
    ordered = whole;
    found = λ x. by_bit x (κ.bit x p) refl;
    keys = (
      all_keys_weaker (λ x m. inr (inl m)) l (in_all_keys l),
      all_keys_weaker (λ x. ⊎_elim (λ m. inl (in_move a t x m)) (λ m. inr (inr m))) q
          un.keys,
    );
  } where
    whole : Ordered κ least (branch (root t) p k l q)
    whole =
        ordered_side κ least i p k l r o true q (all_keys_union (Side κ p true k) (p + 1) (move a t) r q un (all_keys_move _ a t ht) o.3)
        un.ordered

    by_bit : (x : K) (b : Bool) → κ.bit x p ≡ b
        → lookup κ (entries l ++ entries q) x ≡ both join (lookup κ (entries t) x) (lookup κ (entries l ++ entries r) x)
    by_bit x true e =
        rw (lookup_side κ x least (root t) p k l q whole true e, lookup_side κ x least i p k l r o true e)
        (un.found x ∙ ap (λ z. both join z (lookup κ (entries r) x)) (lookup_move κ x a t))
    by_bit x false e =
        rw (
          lookup_side κ x least (root t) p k l q whole false e,
          lookup_side κ x least i p k l r o false e,
          lookup_other_side κ x p true k t
              o.1 ht e,
        ) refl
  union_under false least i p a k t l r q o ht un = record {
    rooted = refl;
    ordered = whole;
    found = λ x. by_bit x (κ.bit x p) refl;
    keys = (
      all_keys_weaker (λ x. ⊎_elim (λ m. inl (in_move a t x m)) (λ m. inr (inl m))) q un.keys,
      all_keys_weaker (λ x m. inr (inr m)) r
          (in_all_keys r),
    );
  } where
    whole : Ordered κ least (branch (root t) p k q r)
    whole =
        ordered_side κ least i p k l r o false q (all_keys_union (Side κ p false k) (p + 1) (move a t) l q un (all_keys_move _ a t ht) o.2)
        un.ordered

    by_bit : (x : K) (b : Bool) → κ.bit x p ≡ b
        → lookup κ (entries q ++ entries r) x ≡ both join (lookup κ (entries t) x) (lookup κ (entries l ++ entries r) x)
    by_bit x false e =
        rw (lookup_side κ x least (root t) p k q r whole false e, lookup_side κ x least i p k l r o false e)
        (un.found x ∙ ap (λ z. both join z (lookup κ (entries l) x)) (lookup_move κ x a t))
    by_bit x true e =
        rw (
          lookup_side κ x least (root t) p k q r whole true e,
          lookup_side κ x least i p k l r o true e,
          lookup_other_side κ x p false k t
              o.1 ht e,
        ) refl

  -- two trees that part at m: a new branch over both at the first tree's node
  pub union_apart : (b : Bool) (least m a : ℕ) (c : K) (t u : Tree K V) → least ≤ m → m < κ.PLACES → AllKeys (Side κ m b c) t
      → AllKeys (Side κ m (not b) c) u
      → Ordered κ (m + 1) t → Ordered κ (m + 1) u → Union κ join least t u (branch (root t) m c (cond b u (move a t)) (cond b (move a t) u))
  union_apart true least m a c t u low high ht hu ot ou = record {
    rooted = refl;
    ordered = (low, high, hu, all_keys_move _ a t ht, ou, ordered_move κ (m + 1) a t ot);
    found = λ x. by_bit x (κ.bit x m) refl;
    keys = (all_keys_weaker (λ x n. inr n) u (in_all_keys u), all_keys_move _ a t (all_keys_weaker (λ x n. inl n) t (in_all_keys t)));
  } where
    by_bit : (x : K) (b : Bool) → κ.bit x m ≡ b
        → lookup κ (entries u ++ entries (move a t)) x ≡ both join (lookup κ (entries t) x) (lookup κ (entries u) x)
    by_bit x true e =
        lookup_sides κ x m c u (move a t) high hu (all_keys_move _ a t ht) true e ∙ lookup_move κ x a t
        ∙ rw (lookup_other_side κ x m false c u high hu e) (sym (both_none join (lookup κ (entries t) x)))
    by_bit x false e =
        lookup_sides κ x m c u (move a t) high hu (all_keys_move _ a t ht) false e ∙ rw (lookup_other_side κ x m true c t high ht e) refl
  union_apart false least m a c t u low high ht hu ot ou = record {
    rooted = refl;
    ordered = (low, high, all_keys_move _ a t ht, hu, ordered_move κ (m + 1) a t ot, ou);
    found = λ x. by_bit x (κ.bit x m) refl;
    keys = (all_keys_move _ a t (all_keys_weaker (λ x n. inl n) t (in_all_keys t)), all_keys_weaker (λ x n. inr n) u (in_all_keys u));
  } where
    by_bit : (x : K) (b : Bool) → κ.bit x m ≡ b
        → lookup κ (entries (move a t) ++ entries u) x ≡ both join (lookup κ (entries t) x) (lookup κ (entries u) x)
    by_bit x false e =
        lookup_sides κ x m c (move a t) u high (all_keys_move _ a t ht) hu false e ∙ lookup_move κ x a t
        ∙ rw (lookup_other_side κ x m true c u high hu e) (sym (both_none join (lookup κ (entries t) x)))
    by_bit x true e =
        lookup_sides κ x m c (move a t) u high (all_keys_move _ a t ht) hu true e ∙ rw (lookup_other_side κ x m false c t high ht e) refl
