-- What the writes of an insertion come to for the map.
use Rattle.std.proofs.Common.{◌≡◌, ℕ, ◌+◌, ◌<◌, ◌≤◌, List, [], ◌∷◌, length, set, Some, None, Option, sym, refl, ap, ◌∙◌, subst, subst₂, arith}
use Rattle.keys.specs.Model.{KeyModel}
use Rattle.trees.specs.Tree.{Tree, leaf, one, times, root, uses}
use Rattle.trees.proofs.Move.{one_same}
use Rattle.pool.specs.declared.node.Node.{Node}
use Rattle.pool.specs.declared.node.Node.TheVariants.{Leaf}
use Rattle.pool.specs.declared.account.Account.{Account}
use Rattle.pool.specs.Slice.{At, Chain}
use Rattle.pool.specs.Nodes.{Took}
use Rattle.pool.specs.Walks.{Rooted, Beside, Left}
use Rattle.walks.specs.declared.sides.Sides.{Sides}
use Rattle.edits.specs.declared.seat.Gap.{Gap}
use Rattle.edits.specs.declared.seat.Seat.TheVariants.{Taken, Open}
use Rattle.edits.specs.Owned.{owned}
use Rattle.edits.specs.Seats.{SeatedIfAny}
use Rattle.edits.specs.Writes.{TookTwo, Forked}
use Rattle.edits.specs.Inserted.{with_update}
use Rattle.std.proofs.lemmas.Option.{same_Some}
use Rattle.pool.proofs.Reading.{written_there, kept_elsewhere}
use Rattle.edits.proofs.Writing.{apart, not_one, chain_kept, took_first}
use Rattle.edits.proofs.Growing.{left_forked, left_joined}

module _ {K V : Type 0} (κ : KeyModel K) (join : V → V → V) (x : K) (v : V) (ns ns' : List (Node K V)) (before after : Account) where
  -- a node taken and written as a leaf of x and v is the map of x and v alone
  first_leaf : (i j : ℕ) (rest : List ℕ) → i ≡ j → i < length ns → Chain ns after.head rest → length (j ∷ rest) ≡ before.free
      → after.free + 1 ≡ before.free → after.capacity ≡ before.capacity → ((k : ℕ) → times k (j ∷ rest) ≤ 1) → ns' ≡ set ns i (Leaf x v)
      → Left κ ns ns' (with_update κ join x v None) (owned {K = K} {V = V} None (j ∷ rest)) before after (Some i)
  first_leaf i j rest same within linked counted fewer capacity once written =
      let ii = one_same j i (sym same) in
      let oi = once i in
      let chained : ℕ → ℕ = λ k. times k rest in
      let keep : (k : ℕ) → (k ≡ i → ⊥) → (y : Node K V) → At ns k y → At ns' k y =
      λ k other y h. subst (λ (n : List (Node K V)). At n k y) (sym written) (kept_elsewhere ns i _ k y other h) in
      record {
        map = Some (leaf i x v);
        chain = rest;
        standing = record { rooted = refl; stands = subst (λ (n : List (Node K V)). At n i (Leaf x v)) (sym written) (written_there ns i (Leaf x v) within); ordered = tt };
        found = λ y. refl;
        linked = chain_kept ns ns' after.head rest (λ k h. keep k (apart chained i k (omega arith) h)) linked;
        counted = omega arith;
        capacity = capacity;
        used = λ k. let e : one i k ≡ one j k = ap (λ (n : ℕ). one n k) same in omega arith;
        kept = λ k h. keep k (λ e. not_one j k (omega arith) (e ∙ same));
      }

  pub inserted_first : (i : ℕ) (map : Option (Tree K V)) (chain : List ℕ) → Rooted κ ns None map → Beside ns before map chain → Took ns before i after
      → (i < length ns → ns' ≡ set ns i (Leaf x v)) → Left κ ns ns' (with_update κ join x v map) (owned map chain) before after (Some i)
  inserted_first i (Some t) chain rooted beside took written = let none = rooted.rooted in absurd cc
  inserted_first i None [] rooted beside took written = absurd (let counted = beside.counted in let fewer = took.fewer in omega arith)
  inserted_first i None (j ∷ rest) rooted beside took written =
      let first = took_first ns before after i j rest took beside.linked in
      let within = took.free.0 in
      first_leaf i j rest first.0 within first.1 beside.counted took.fewer took.capacity (λ k. omega (arith, beside.once k)) (written within)

  -- a fork where x belongs is the update
  two_taken : (t : Tree K V) (moved new : ℕ) (chain : List ℕ) → Chain ns before.head chain → length chain ≡ before.free → ((j : ℕ) → uses j t + times j chain ≤ 1)
      → TookTwo ns before moved new after
      → ((rest : List ℕ) → Chain ns after.head rest → length rest ≡ after.free → ((j : ℕ) → uses j t + times j (moved ∷ (new ∷ rest)) ≤ 1)
      → Left κ ns ns' (with_update κ join x v (Some t)) (owned (Some t) (moved ∷ (new ∷ rest))) before after (Some (root t)))
      → Left κ ns ns' (with_update κ join x v (Some t)) (owned (Some t) chain) before after (Some (root t))
  two_taken t moved new [] linked counted once took left = absurd (let fewer = took.one.fewer in omega arith)
  two_taken t moved new (i ∷ []) linked counted once took left = absurd (let fewer = took.one.fewer in let again = took.two.fewer in omega arith)
  two_taken t moved new (i ∷ (j ∷ rest)) linked counted once took left =
      let fewer = took.one.fewer in
      let again = took.two.fewer in
      let first = took_first ns before took.between moved i (j ∷ rest) took.one linked in
      let second = took_first ns took.between after new j rest took.two first.1 in
      let once_taken : (k : ℕ) → uses k t + times k (moved ∷ (new ∷ rest)) ≤ 1 =
      subst₂ (λ (a b : ℕ). (k : ℕ) → uses k t + times k (a ∷ (b ∷ rest)) ≤ 1) (sym first.0) (sym second.0) once in
      subst₂ (λ (a b : ℕ). Left κ ns ns' (with_update κ join x v (Some t)) (owned (Some t) (a ∷ (b ∷ rest))) before after (Some (root t))) first.0 second.0
      (left rest second.1 (omega arith) once_taken)

  pub inserted_fork : (top : ℕ) (gap : Gap) (old : Node K V) (sides : Sides) (map : Option (Tree K V)) (chain : List ℕ)
      → Rooted κ ns (Some top) map → Beside ns before map chain → SeatedIfAny κ ns x (Open gap) map → At ns gap.at old → TookTwo ns before sides.far sides.near after
      → Forked κ x v ns ns' gap old sides
      → Left κ ns ns' (with_update κ join x v map) (owned map chain) before after (Some top)
  inserted_fork top gap old sides None chain rooted beside seated was took forked = absurd seated
  inserted_fork top gap old sides (Some t) chain rooted beside seated was took forked =
      subst (λ (n : ℕ). Left κ ns ns' (with_update κ join x v (Some t)) (owned (Some t) chain) before after (Some n)) (sym (same_Some top (root t) rooted.rooted))
      (two_taken t sides.far sides.near chain beside.linked beside.counted beside.once took
      (λ rest linked counted once. left_forked κ join x v ns ns' gap.at gap.place t rooted.stands rooted.ordered seated.1.2 sides.far sides.near rest old before after
      seated.1.1 was took.one.free.0 took.two.free.0 linked counted (took.two.capacity ∙ took.one.capacity) once
      (forked was.0 took.one.free.0 took.two.free.0)))

-- a leaf of x whose record was joined with v is the update
pub inserted_join : {K V : Type 0} (κ : KeyModel K) (join : V → V → V) (x : K) (v : V) (ns ns' : List (Node K V)) (account : Account)
    (top i : ℕ) (k : K) (u : V) (map : Option (Tree K V)) (chain : List ℕ)
    → Rooted κ ns (Some top) map → Beside ns account map chain → SeatedIfAny κ ns x (Taken i k u) map → (i < length ns → ns' ≡ set ns i (Leaf k (join u v)))
    → Left κ ns ns' (with_update κ join x v map) (owned map chain) account account (Some top)
inserted_join κ join x v ns ns' account top i k u None chain rooted beside seated written = absurd seated
inserted_join κ join x v ns ns' account top i k u (Some t) chain rooted beside seated written =
    subst (λ (n : ℕ). Left κ ns ns' (with_update κ join x v (Some t)) (owned (Some t) chain) account account (Some n)) (sym (same_Some top (root t) rooted.rooted))
    (left_joined κ join x v ns ns' i κ.PLACES t rooted.stands rooted.ordered seated.1 chain k u account (omega arith) seated.0
    beside.linked beside.counted beside.once (written seated.0.0))
