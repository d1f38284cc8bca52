-- A record put into a tree: the tree stays in order, finds what it should, and uses two nodes more or none.
use Rattle.std.proofs.Common.{◌≡◌, ℕ, ◌+◌, ◌<◌, ◌≤◌, Bool, true, false, cond, not, eqb, ltb, [], ◌∷◌, length, Some, None, Option, sym, refl, ap, ◌∙◌, true≢false, arith, ltb-false, ltb-true, le-ltb, lt-ltb, eqb-true}
use mathlib.Core.Bool.{false≢true}
use Rattle.std.specs.Option.{option_or}
use Rattle.keys.specs.Model.{KeyModel, number}
use Rattle.keys.specs.Split.{split}
use Rattle.trees.specs.Tree.{Tree, leaf, branch, one, root, key, entries, size, uses, move, AllKeys}
use Rattle.trees.specs.Order.{Agree, Side, Ordered, place}
use Rattle.trees.specs.Find.{same_key, lookup}
use Rattle.trees.specs.Insert.{Spot, here, left, right, fork, grown, added}
use Rattle.trees.proofs.AllKeys.{all_keys_weaker}
use Rattle.trees.proofs.Move.{one_same, uses_move, size_move, all_keys_move, ordered_move}
use Rattle.trees.proofs.Order.{agree_split, agree_none, side_agrees, ordered_from_place, place_within}
use Rattle.trees.proofs.Lookup.{same_key_true, same_key_false, numbers_differ}
use Rattle.trees.proofs.Lookup.{lookup_append, lookup_side, lookup_sides, lookup_move, lookup_same_number}
use Rattle.trees.proofs.Sizes.{size_entries}
use Rattle.trees.proofs.Parting.{split_nowhere, split_side, splits_from_all, lookup_apart, least_before_split}

-- what a lookup is once v stands last at a key that was not there
or_last : {V : Type 0} (v : V) (b : Bool) (o : Option V) → (b ≡ true → o ≡ None) → option_or o (cond b (Some v) None) ≡ cond b (Some v) o
or_last v true o h = ap (λ z. option_or z (Some v)) (h refl)
or_last v false None h = refl
or_last v false (Some u) h = refl

module _ {K V : Type 0} (κ : KeyModel K) (join : V → V → V) (x : K) (v : V) where
  -- what y finds in t', once v is put at x into t
  abbrev pub FindsAdded : K → Tree K V → Tree K V → Type 0
  FindsAdded y t t' = lookup κ (entries t') y ≡ cond (same_key κ x y) (Some (added join v (lookup κ (entries t) x))) (lookup κ (entries t) y)

module _ {K V : Type 0} (κ : KeyModel K) (join : V → V → V) (x : K) (v : V) (a b : ℕ) where
  -- the fork, with the bit of x at m as an argument of its own
  abbrev forked : Bool → ℕ → Tree K V → Tree K V
  forked s m u = branch (root u) m x (cond s (move a u) (leaf b x v)) (cond s (leaf b x v) (move a u))

  all_keys_forked : (P : K → Type 0) (s : Bool) (m : ℕ) (u : Tree K V) → P x → AllKeys P u → AllKeys P (forked s m u)
  all_keys_forked P true m u h g = (all_keys_move P a u g, h)
  all_keys_forked P false m u h g = (h, all_keys_move P a u g)

  ordered_forked : (s : Bool) (least m : ℕ) (u : Tree K V) → κ.bit x m ≡ s → least ≤ m → m < κ.PLACES → AllKeys (Side κ m (not s) x) u
      → Ordered κ (m + 1) u → Ordered κ least (forked s m u)
  ordered_forked true least m u e low high h o = (low, high, all_keys_move _ a u h, ((λ q l. refl), e), ordered_move κ (m + 1) a u o, tt)
  ordered_forked false least m u e low high h o = (low, high, ((λ q l. refl), e), all_keys_move _ a u h, tt, ordered_move κ (m + 1) a u o)

  lookup_forked : (y : K) (s : Bool) (m : ℕ) (u : Tree K V) → lookup κ (entries u) x ≡ None → FindsAdded κ join x v y u (forked s m u)
  lookup_forked y true m u none =
      let absent : same_key κ x y ≡ true → lookup κ (entries u) y ≡ None =
      λ e. sym (lookup_same_number κ (entries u) x y (eqb-true (number κ x) (number κ y) e)) ∙ none in
      lookup_append κ y (entries (move a u)) ((x, v) ∷ [])
      ∙ rw (lookup_move κ y a u, none) (or_last v (same_key κ x y) (lookup κ (entries u) y) absent)
  lookup_forked y false m u none = rw (lookup_move κ y a u, none) refl

  uses_forked : (j : ℕ) (s : Bool) (m : ℕ) (u : Tree K V) → uses j (forked s m u) ≡ uses j u + one a j + one b j
  uses_forked j true m u = omega (arith, uses_move j a u)
  uses_forked j false m u = omega (arith, uses_move j a u)

  size_forked : (s : Bool) (m : ℕ) (u : Tree K V) → size (forked s m u) ≡ size u + 2
  size_forked true m u = omega (arith, size_move a u)
  size_forked false m u = omega (arith, size_move a u)

  -- a fork of a tree from whose own key x splits before the tree's place
  pub all_keys_fork : (P : K → Type 0) (m : ℕ) (u : Tree K V) → P x → AllKeys P u → AllKeys P (fork κ x v a b m u)
  all_keys_fork P m u = all_keys_forked P (κ.bit x m) m u

  pub ordered_fork : (least m : ℕ) (u : Tree K V) → split κ x (key u) ≡ m → m < place κ u → AllKeys (λ j. Agree κ least j x) u
      → Ordered κ least u → Ordered κ least (fork κ x v a b m u)
  ordered_fork least m u e h shared o =
      let high : m < κ.PLACES = omega (arith, place_within κ least u o) in
      let apart = splits_from_all κ x least m u e h o in
      ordered_forked (κ.bit x m) least m u refl (least_before_split κ x least m u high shared apart) high
      (all_keys_weaker (λ j s. split_side κ m x j s high) u apart) (ordered_from_place κ least (m + 1) u (omega arith) o)

  pub fork_absent : (least m : ℕ) (u : Tree K V) → split κ x (key u) ≡ m → m < place κ u → Ordered κ least u → lookup κ (entries u) x ≡ None
  fork_absent least m u e h o = lookup_apart κ x m u (omega (arith, place_within κ least u o)) (splits_from_all κ x least m u e h o)

  pub lookup_fork : (y : K) (least m : ℕ) (u : Tree K V) → split κ x (key u) ≡ m → m < place κ u → Ordered κ least u
      → FindsAdded κ join x v y u (fork κ x v a b m u)
  lookup_fork y least m u e h o = lookup_forked y (κ.bit x m) m u (fork_absent least m u e h o)

  pub uses_fork : (j m : ℕ) (u : Tree K V) → uses j (fork κ x v a b m u) ≡ uses j u + one a j + one b j
  uses_fork j m u = uses_forked j (κ.bit x m) m u

  pub size_fork : (m : ℕ) (u : Tree K V) → size (fork κ x v a b m u) ≡ size u + 2
  size_fork m u = size_forked (κ.bit x m) m u

  -- a leaf of the very key
  pub lookup_joined : (y : K) (i : ℕ) (k : K) (u : V) → number κ k ≡ number κ x
      → FindsAdded κ join x v y (leaf i k u) (leaf i k (join u v))
  lookup_joined y i k u e =
      let own : same_key κ k x ≡ true = same_key_true κ k x e in
      let same : same_key κ k y ≡ same_key κ x y = ap (λ n. eqb n (number κ y)) e in
      rw (own, same)
      (elim (same_key κ x y) as (λ z. cond z (Some (join u v)) None ≡ cond z (Some (join u v)) (cond z (Some u) None)) [
        | true ↦ refl
        | false ↦ refl
      ])

  -- put into one side, the other is unchanged
  module _ (y k : K) (i p : ℕ) (l r l' r' : Tree K V) (within : p < κ.PLACES)
      (hl : AllKeys (Side κ p false k) l) (hr : AllKeys (Side κ p true k) r)
      (hl' : AllKeys (Side κ p false k) l') (hr' : AllKeys (Side κ p true k) r') where
    put_aside : (s z : Bool) → κ.bit x p ≡ s → κ.bit y p ≡ z → cond (not s) r' l' ≡ cond (not s) r l
        → FindsAdded κ join x v y (cond s r l) (cond s r' l')
        → FindsAdded κ join x v y (branch i p k l r) (branch i p k l' r')
    put_aside true true ex ey same found =
        rw (
          lookup_sides κ y p k l' r' within hl' hr' true ey,
          lookup_sides κ y p k l r within hl hr true ey,
          lookup_sides κ x p k l r within hl hr true ex,
        ) found
    put_aside false false ex ey same found =
        rw (
          lookup_sides κ y p k l' r' within hl' hr' false ey,
          lookup_sides κ y p k l r within hl hr false ey,
          lookup_sides κ x p k l r within hl hr false ex,
        ) found
    put_aside true false ex ey same found =
        let differ : same_key κ x y ≡ false = same_key_false κ x y (numbers_differ κ x y p within (λ e. true≢false (sym ex ∙ e ∙ ey))) in
        rw (lookup_sides κ y p k l' r' within hl' hr' false ey, lookup_sides κ y p k l r within hl hr false ey, differ)
        (ap (λ t. lookup κ (entries t) y) same)
    put_aside false true ex ey same found =
        let differ : same_key κ x y ≡ false = same_key_false κ x y (numbers_differ κ x y p within (λ e. false≢true (sym ex ∙ e ∙ ey))) in
        rw (lookup_sides κ y p k l' r' within hl' hr' true ey, lookup_sides κ y p k l r within hl hr true ey, differ)
        (ap (λ t. lookup κ (entries t) y) same)

  module _ (w m : ℕ) where
    -- the keys of the tree are those that it had, and x
    pub all_keys_grown : (P : K → Type 0) (t : Tree K V) (s : Spot κ x w m t) → P x → AllKeys P t → AllKeys P (grown κ join x v a b w m t s)
    all_keys_grown P (leaf i k u) s h g =
        elim (ltb m κ.PLACES) as (λ z. AllKeys P (cond z (fork κ x v a b m (leaf i k u)) (leaf i k (join u v))))
        [ true ↦ all_keys_fork P m (leaf i k u) h g | false ↦ g ]
    all_keys_grown P (branch i p k l r) (here q) h g = all_keys_fork P m (branch i p k l r) h g
    all_keys_grown P (branch i p k l r) (left q) h g = (all_keys_grown P l q.2 h g.0, g.1)
    all_keys_grown P (branch i p k l r) (right q) h g = (g.0, all_keys_grown P r q.2 h g.1)

    -- in order from a place below which x agrees with all keys
    pub ordered_grown_from : (least : ℕ) (t : Tree K V) (s : Spot κ x w m t) → AllKeys (λ j. Agree κ least j x) t → Ordered κ least t
        → Ordered κ least (grown κ join x v a b w m t s)
    ordered_grown_from least (leaf i k u) s h o =
        (elim (ltb m κ.PLACES) as (λ z. ltb m κ.PLACES ≡ z → Ordered κ least (cond z (fork κ x v a b m (leaf i k u)) (leaf i k (join u v))))
        [ true ↦ (λ e. ordered_fork least m (leaf i k u) s.1 (ltb-true m κ.PLACES e) h o) | false ↦ (λ e. tt) ]) refl
    ordered_grown_from least (branch i p k l r) (here q) h o = ordered_fork least m (branch i p k l r) q.1 q.2 h o
    ordered_grown_from least (branch i p k l r) (left q) h o =
        let side : Side κ p false k x = (agree_split κ p x k q.0, q.1) in (
          o.0,
          o.1,
          all_keys_grown (Side κ p false k) l q.2 side o.2,
          o.3,
          ordered_grown_from (p + 1) l q.2 (side_agrees κ p false k x l side o.2) o.4,
          o.5,
        )
    ordered_grown_from least (branch i p k l r) (right q) h o =
        let side : Side κ p true k x = (agree_split κ p x k q.0, q.1) in (
          o.0,
          o.1,
          o.2,
          all_keys_grown (Side κ p true k) r q.2 side o.3,
          o.4,
          ordered_grown_from (p + 1) r q.2 (side_agrees κ p true k x r side o.3) o.5,
        )

    pub ordered_grown : (t : Tree K V) (s : Spot κ x w m t) → Ordered κ 0 t → Ordered κ 0 (grown κ join x v a b w m t s)
    ordered_grown t s o = ordered_grown_from 0 t s (agree_none κ x t) o

    pub lookup_grown : (y : K) (least : ℕ) (t : Tree K V) (s : Spot κ x w m t) → Ordered κ least t
        → FindsAdded κ join x v y t (grown κ join x v a b w m t s)
    lookup_grown y least (leaf i k u) s o =
        (elim (ltb m κ.PLACES) as (λ z. ltb m κ.PLACES ≡ z
        → FindsAdded κ join x v y (leaf i k u) (cond z (fork κ x v a b m (leaf i k u)) (leaf i k (join u v)))) [
          | true ↦ (λ e. lookup_fork y least m (leaf i k u) s.1 (ltb-true m κ.PLACES e) o)
          | false ↦ (λ e. lookup_joined y i k u (split_nowhere κ k x (let e' = s.1 in let h = ltb-false m κ.PLACES e in omega arith)))
        ]) refl
    lookup_grown y least (branch i p k l r) (here q) o = lookup_fork y least m (branch i p k l r) q.1 q.2 o
    lookup_grown y least (branch i p k l r) (left q) o =
        put_aside y k i p l r (grown κ join x v a b w m l q.2) r o.1 o.2 o.3
        (all_keys_grown (Side κ p false k) l q.2 (agree_split κ p x k q.0, q.1) o.2) o.3
        false (κ.bit y p) q.1 refl refl (lookup_grown y (p + 1) l q.2 o.4)
    lookup_grown y least (branch i p k l r) (right q) o =
        put_aside y k i p l r l (grown κ join x v a b w m r q.2) o.1 o.2 o.3 o.2
        (all_keys_grown (Side κ p true k) r q.2 (agree_split κ p x k q.0, q.1) o.3)
        true (κ.bit y p) q.1 refl refl (lookup_grown y (p + 1) r q.2 o.5)

    -- x is absent exactly where it splits from the node at its spot
    pub spot_absent : (least : ℕ) (t : Tree K V) → Spot κ x w m t → m < κ.PLACES → Ordered κ least t → lookup κ (entries t) x ≡ None
    spot_absent least (leaf i k u) s h o = fork_absent least m (leaf i k u) s.1 h o
    spot_absent least (branch i p k l r) (here q) h o = fork_absent least m (branch i p k l r) q.1 q.2 o
    spot_absent least (branch i p k l r) (left q) h o = lookup_side κ x least i p k l r o false q.1 ∙ spot_absent (p + 1) l q.2 h o.4
    spot_absent least (branch i p k l r) (right q) h o = lookup_side κ x least i p k l r o true q.1 ∙ spot_absent (p + 1) r q.2 h o.5

    pub spot_present : (least : ℕ) (t : Tree K V) → Spot κ x w m t → κ.PLACES ≤ m → Ordered κ least t
        → (u : V) × (lookup κ (entries t) x ≡ Some u)
    spot_present least (leaf i k u) s h o =
        (u, ap (λ z. cond z (Some u) None) (same_key_true κ k x (split_nowhere κ k x (let e' = s.1 in omega arith))))
    spot_present least (branch i p k l r) (here q) h o = absurd (let before = q.2 in let high = o.1 in omega arith)
    spot_present least (branch i p k l r) (left q) h o =
        let found = spot_present (p + 1) l q.2 h o.4 in (found.0, lookup_side κ x least i p k l r o false q.1 ∙ found.1)
    spot_present least (branch i p k l r) (right q) h o =
        let found = spot_present (p + 1) r q.2 h o.5 in (found.0, lookup_side κ x least i p k l r o true q.1 ∙ found.1)

    -- the spot is a node of the tree
    pub spot_used : (t : Tree K V) → Spot κ x w m t → 1 ≤ uses w t
    spot_used (leaf i k u) s = omega (arith, one_same i w s.0)
    spot_used (branch i p k l r) (here q) = omega (arith, one_same i w q.0)
    spot_used (branch i p k l r) (left q) = omega (arith, spot_used l q.2)
    spot_used (branch i p k l r) (right q) = omega (arith, spot_used r q.2)

    -- no tree changes its first node
    pub root_grown : (t : Tree K V) (s : Spot κ x w m t) → root (grown κ join x v a b w m t s) ≡ root t
    root_grown (leaf i k u) s =
        elim (ltb m κ.PLACES) as (λ z. root (cond z (fork κ x v a b m (leaf i k u)) (leaf i k (join u v))) ≡ i) [ true ↦ refl | false ↦ refl ]
    root_grown (branch i p k l r) (here q) = refl
    root_grown (branch i p k l r) (left q) = refl
    root_grown (branch i p k l r) (right q) = refl

    -- a put of a new key uses the two nodes a and b, one of a key that is there uses none
    pub uses_grown : (j : ℕ) (t : Tree K V) (s : Spot κ x w m t) → m < κ.PLACES
        → uses j (grown κ join x v a b w m t s) ≡ uses j t + one a j + one b j
    uses_grown j (leaf i k u) s h =
        ap (λ z. uses j (cond z (fork κ x v a b m (leaf i k u)) (leaf i k (join u v)))) (lt-ltb m κ.PLACES h) ∙ uses_fork j m (leaf i k u)
    uses_grown j (branch i p k l r) (here q) h = uses_fork j m (branch i p k l r)
    uses_grown j (branch i p k l r) (left q) h = omega (arith, uses_grown j l q.2 h)
    uses_grown j (branch i p k l r) (right q) h = omega (arith, uses_grown j r q.2 h)

    pub uses_joined : (j least : ℕ) (t : Tree K V) (s : Spot κ x w m t) → κ.PLACES ≤ m → Ordered κ least t
        → uses j (grown κ join x v a b w m t s) ≡ uses j t
    uses_joined j least (leaf i k u) s h o =
        ap (λ z. uses j (cond z (fork κ x v a b m (leaf i k u)) (leaf i k (join u v)))) (le-ltb m κ.PLACES h)
    uses_joined j least (branch i p k l r) (here q) h o = absurd (let before = q.2 in let high = o.1 in omega arith)
    uses_joined j least (branch i p k l r) (left q) h o = omega (arith, uses_joined j (p + 1) l q.2 h o.4)
    uses_joined j least (branch i p k l r) (right q) h o = omega (arith, uses_joined j (p + 1) r q.2 h o.5)

    pub size_grown : (t : Tree K V) (s : Spot κ x w m t) → m < κ.PLACES → size (grown κ join x v a b w m t s) ≡ size t + 2
    size_grown (leaf i k u) s h =
        ap (λ z. size (cond z (fork κ x v a b m (leaf i k u)) (leaf i k (join u v)))) (lt-ltb m κ.PLACES h) ∙ size_fork m (leaf i k u)
    size_grown (branch i p k l r) (here q) h = size_fork m (branch i p k l r)
    size_grown (branch i p k l r) (left q) h = omega (arith, size_grown l q.2 h)
    size_grown (branch i p k l r) (right q) h = omega (arith, size_grown r q.2 h)

    pub size_joined : (least : ℕ) (t : Tree K V) (s : Spot κ x w m t) → κ.PLACES ≤ m → Ordered κ least t
        → size (grown κ join x v a b w m t s) ≡ size t
    size_joined least (leaf i k u) s h o =
        ap (λ z. size (cond z (fork κ x v a b m (leaf i k u)) (leaf i k (join u v)))) (le-ltb m κ.PLACES h)
    size_joined least (branch i p k l r) (here q) h o = absurd (let before = q.2 in let high = o.1 in omega arith)
    size_joined least (branch i p k l r) (left q) h o = omega (arith, size_joined (p + 1) l q.2 h o.4)
    size_joined least (branch i p k l r) (right q) h o = omega (arith, size_joined (p + 1) r q.2 h o.5)

    -- so a put adds one entry or none
    pub length_grown : (t : Tree K V) (s : Spot κ x w m t) → m < κ.PLACES
        → length (entries (grown κ join x v a b w m t s)) ≡ length (entries t) + 1
    length_grown t s h = omega (arith, size_grown t s h, size_entries t, size_entries (grown κ join x v a b w m t s))

    pub length_joined : (least : ℕ) (t : Tree K V) (s : Spot κ x w m t) → κ.PLACES ≤ m → Ordered κ least t
        → length (entries (grown κ join x v a b w m t s)) ≡ length (entries t)
    length_joined least t s h o = omega (arith, size_joined least t s h o, size_entries t, size_entries (grown κ join x v a b w m t s))
