-- Giving back a tree node by node: the trees that are still to be given back stand apart from one another and from the
-- free chain, and each turn moves one node from them to the chain.
use Rattle.std.proofs.Common.{◌≡◌, ℕ, ◌+◌, ◌≤◌, List, [], ◌∷◌, ◌++◌, length, Some, None, sym, refl, ap, ◌∙◌, subst, arith}
use Rattle.keys.specs.Model.{KeyModel}
use Rattle.trees.specs.Tree.{Tree, leaf, branch, one, times, root, size, uses}
use Rattle.trees.specs.Order.{Ordered}
use Rattle.trees.proofs.Move.{one_same}
use Rattle.trees.proofs.Sizes.{size_pos}
use Rattle.trees.proofs.Order.{ordered_lower}
use Rattle.pool.specs.declared.node.Node.{Node}
use Rattle.pool.specs.declared.node.Node.TheVariants.{Free, Leaf, Branch}
use Rattle.pool.specs.declared.account.Account.{Account}
use Rattle.pool.specs.Slice.{At, Stands, Chain}
use Rattle.pool.specs.Nodes.{Released}
use Rattle.pool.specs.Walks.{Rooted, Beside, Left}
use Rattle.pool.proofs.Reading.{one_node, written_there, kept_elsewhere}
use Rattle.pool.proofs.Standing.{root_within, none_at_free}
use Rattle.edits.specs.Clears.{sides, Stuck}
use Rattle.pool.proofs.After.{stands_kept}
use Rattle.edits.proofs.Writing.{chain_kept}

module _ {K V : Type 0} where
  abbrev pub uses_all : ℕ → List (Tree K V) → ℕ
  uses_all j [] = 0
  uses_all j (t ∷ ts) = uses j t + uses_all j ts

  abbrev pub size_all : List (Tree K V) → ℕ
  size_all [] = 0
  size_all (t ∷ ts) = size t + size_all ts

module _ {K V : Type 0} (κ : KeyModel K) (ns : List (Node K V)) where
  -- the trees stand in order at the indices; a tree under which n others wait has no place before n
  abbrev pub Waits : List ℕ → List (Tree K V) → Type 0
  Waits [] [] = Unit {0}
  Waits [] (t ∷ ts) = ⊥
  Waits (i ∷ is) [] = ⊥
  Waits (i ∷ is) (t ∷ ts) = Stands ns t × (root t ≡ i) × Ordered κ (length is) t × Waits is ts

module _ {K V : Type 0} (κ : KeyModel K) (ns ns' : List (Node K V)) where
  -- they wait as long as their own nodes are kept
  pub waits_kept : (is : List ℕ) (ts : List (Tree K V)) → ((j : ℕ) → 1 ≤ uses_all j ts → (x : Node K V) → At ns j x → At ns' j x)
      → Waits κ ns is ts → Waits κ ns' is ts
  waits_kept [] [] keep w = w
  waits_kept [] (t ∷ ts) keep w = w
  waits_kept (i ∷ is) [] keep w = w
  waits_kept (i ∷ is) (t ∷ ts) keep w =
      (stands_kept ns ns' t (λ j h. keep j (omega arith)) w.0, w.1, w.2, waits_kept is ts (λ j h. keep j (omega arith)) w.3)

module _ {K V : Type 0} (κ : KeyModel K) (ns₀ : List (Node K V)) (before : Account) (mine : ℕ → ℕ) where
  -- what stands while the nodes that `mine` counts are given back: trees at the indices, and the free chain
  pub record Pending (ns : List (Node K V)) (account : Account) (is : List ℕ) : Type 0 where
    pub trees : List (Tree K V)
    pub chain : List ℕ
    pub waits : Waits κ ns is trees
    pub linked : Chain ns account.head chain
    pub counted : length chain ≡ account.free
    pub capacity : account.capacity ≡ before.capacity
    pub room : size_all trees + length chain ≤ account.capacity
    pub used : (j : ℕ) → uses_all j trees + times j chain ≡ mine j
    pub kept : (j : ℕ) → mine j ≡ 0 → (x : Node K V) → At ns₀ j x → At ns j x

  -- at the end nothing is left of the map
  pub all_back : (ns : List (Node K V)) (account : Account) → Pending ns account [] → Left κ ns₀ ns (λ _. None) mine before account None
  all_back ns account p = record {
    map = None;
    chain = p.chain;
    standing = record { rooted = refl; stands = tt; ordered = tt };
    found = λ k. refl;
    linked = p.linked;
    counted = p.counted;
    capacity = p.capacity;
    used = λ j. none p.trees p.waits j (p.used j);
    kept = p.kept;
  } where
    none : (ts : List (Tree K V)) → Waits κ ns [] ts → (j : ℕ) → uses_all j ts + times j p.chain ≡ mine j → 0 + times j p.chain ≡ mine j
    none [] w j e = e
    none (t ∷ ts) w j e = absurd w

  module _ (ns : List (Node K V)) (account : Account) (at : ℕ) (is : List ℕ) (p : Pending ns account (at ∷ is)) where
    -- a tree stands at the first index
    first : (P : Type 0) → ((t : Tree K V) (ts : List (Tree K V)) → Stands ns t → root t ≡ at → Ordered κ (length is) t
        → size t + size_all ts + length p.chain ≤ account.capacity → P) → P
    first P f = go p.trees p.waits p.room where
      go : (ts : List (Tree K V)) → Waits κ ns (at ∷ is) ts → size_all ts + length p.chain ≤ account.capacity → P
      go [] w room = absurd w
      go (t ∷ ts) w room = f t ts w.0 w.1 w.2 room

    pub first_within : length ns ≤ at → ⊥
    first_within past = first ⊥ (λ t ts s e o room. omega (arith, root_within ns t s))

    pub first_room : account.capacity ≤ account.free → ⊥
    first_room full = first ⊥ (λ t ts s e o room. omega (arith, size_pos t, p.counted))

    pub first_not_free : (n : ℕ) → At ns at (Free n) → ⊥
    first_not_free n a = first ⊥ (λ t ts s e o room. none_at_free ns at n a t s e)

    -- no more wait than there are places
    pub first_few : κ.PLACES ≤ 64 → (q : ℕ) (k : K) (left right : ℕ) → At ns at (Branch q k left right) → 64 ≤ length is → ⊥
    first_few few q k left right a full = first ⊥ go where
      go : (t : Tree K V) (ts : List (Tree K V)) → Stands ns t → root t ≡ at → Ordered κ (length is) t → size t + size_all ts + length p.chain ≤ account.capacity → ⊥
      go (leaf i k' v) ts s e o room = let same = one_node ns i at _ _ e s a in cc
      go (branch i q' k' l r) ts s e o room = omega (arith, o.0, o.1)

    pub first_not_stuck : κ.PLACES ≤ 64 → (x : Node K V) → At ns at x → Stuck x is → ⊥
    first_not_stuck few (Free n) a s = first_not_free n a
    first_not_stuck few (Leaf k v) a s = s
    first_not_stuck few (Branch q k left right) a s = first_few few q k left right a s

    -- a turn gives the first node back, and its sides come before the others
    module _ (once : (j : ℕ) → mine j ≤ 1) (x : Node K V) (a : At ns at x) (ns' : List (Node K V)) (account' : Account) (released : Released ns ns' account at account') where
      keep : (j : ℕ) → (j ≡ at → ⊥) → (y : Node K V) → At ns j y → At ns' j y
      keep j ne y h = subst (λ (m : List (Node K V)). At m j y) (sym released.written) (kept_elsewhere ns at (Free account.head) j y ne h)

      -- what does not use the first node is kept
      keep_apart : (f : ℕ → ℕ) → f at ≡ 0 → (j : ℕ) → 1 ≤ f j → (y : Node K V) → At ns j y → At ns' j y
      keep_apart f none j some = keep j (λ e. omega (arith, ap f e))

      linked_now : times at p.chain ≡ 0 → Chain ns' account'.head (at ∷ p.chain)
      linked_now none = (
        released.first,
        (
          account.head,
          subst (λ (m : List (Node K V)). At m at (Free account.head)) (sym released.written) (written_there ns at (Free account.head) a.0),
          chain_kept ns ns' account.head p.chain (keep_apart (λ j. times j p.chain) none) p.linked,
        ),
      )

      kept_now : 1 ≤ mine at → (j : ℕ) → mine j ≡ 0 → (y : Node K V) → At ns₀ j y → At ns' j y
      kept_now some j none y h = keep j (λ e. omega (arith, ap mine e)) y (p.kept j none y h)

      pub turned : Pending ns' account' (sides x ++ is)
      turned = go p.trees p.waits p.room p.used where
        go : (ts : List (Tree K V)) → Waits κ ns (at ∷ is) ts → size_all ts + length p.chain ≤ account.capacity
            → ((j : ℕ) → uses_all j ts + times j p.chain ≡ mine j) → Pending ns' account' (sides x ++ is)
        go [] w room used = absurd w
        go (leaf i k v ∷ ts) w room used =
            let here : uses_all at (leaf i k v ∷ ts) + times at p.chain ≡ mine at = used at in
            let first : one i at ≡ 1 = one_same i at w.1 in
            let most = once at in
            subst (λ (y : Node K V). Pending ns' account' (sides y ++ is)) (one_node ns i at _ _ w.1 w.0 a) (record {
              trees = ts;
              chain = at ∷ p.chain;
              waits = waits_kept κ ns ns' is ts (keep_apart (λ j. uses_all j ts) (omega arith)) w.3;
              linked = linked_now (omega arith);
              counted = omega (arith, p.counted, released.more);
              capacity = released.capacity ∙ p.capacity;
              room = omega (arith, released.capacity);
              used = λ j. omega (arith, used j, ap (λ (n : ℕ). one n j) w.1);
              kept = kept_now (omega arith);
            })
        go (branch i q k l r ∷ ts) w room used =
            let here : uses_all at (branch i q k l r ∷ ts) + times at p.chain ≡ mine at = used at in
            let first : one i at ≡ 1 = one_same i at w.1 in
            let most = once at in
            subst (λ (y : Node K V). Pending ns' account' (sides y ++ is)) (one_node ns i at _ _ w.1 w.0.0 a) (record {
              trees = l ∷ (r ∷ ts);
              chain = at ∷ p.chain;
              waits = (
                stands_kept ns ns' l (keep_apart (λ j. uses j l) (omega arith)) w.0.1,
                refl,
                ordered_lower κ (q + 1) (length (root r ∷ is)) l (omega (arith, w.2.0)) w.2.4,
                (
                  stands_kept ns ns' r (keep_apart (λ j. uses j r) (omega arith)) w.0.2,
                  refl,
                  ordered_lower κ (q + 1) (length is) r (omega (arith, w.2.0)) w.2.5,
                  waits_kept κ ns ns' is ts (keep_apart (λ j. uses_all j ts) (omega arith)) w.3,
                ),
              );
              linked = linked_now (omega arith);
              counted = omega (arith, p.counted, released.more);
              capacity = released.capacity ∙ p.capacity;
              room = omega (arith, released.capacity);
              used = λ j. omega (arith, used j, ap (λ (n : ℕ). one n j) w.1);
              kept = kept_now (omega arith);
            })

-- at the start the whole tree is to be given back
pub whole_waits : {K V : Type 0} (κ : KeyModel K) (ns : List (Node K V)) (account : Account) (top : ℕ) (t : Tree K V) (chain : List ℕ)
    → Rooted κ ns (Some top) (Some t) → Beside ns account (Some t) chain
    → Pending κ ns account (λ j. uses j t + times j chain) ns account (top ∷ [])
whole_waits κ ns account top t chain r b =
    let e = r.rooted in
    record {
      trees = t ∷ [];
      chain = chain;
      waits = (r.stands, cc, r.ordered, tt);
      linked = b.linked;
      counted = b.counted;
      capacity = refl;
      room = omega (arith, b.few);
      used = λ j. omega arith;
      kept = λ j none x h. h;
    }
