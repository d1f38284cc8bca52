-- A step of two trees at one place.
use Rattle.std.proofs.Common.{◌≡◌, ℕ, ◌+◌, ◌≤◌, Bool, true, false, List, [], ◌∷◌, set, sym, refl, ap, ◌∙◌, subst, arith}
use Rattle.keys.specs.Model.{KeyModel, KeyLaws}
use Rattle.trees.specs.Tree.{Tree, leaf, branch, root, key, one, uses}
use Rattle.trees.specs.Order.{Agree, Side, Ordered, place}
use Rattle.trees.proofs.AllKeys.{all_keys_weaker}
use Rattle.trees.proofs.Move.{one_same}
use Rattle.trees.proofs.Union.{union_level, union_leaf}
use Rattle.pool.specs.declared.node.Node.{Node}
use Rattle.pool.specs.declared.node.Node.TheVariants.{Free, Leaf, Branch}
use Rattle.pool.specs.declared.account.Account.{Account}
use Rattle.pool.specs.Slice.{At, Stands}
use Rattle.pool.specs.Nodes.{Released}
use Rattle.pool.proofs.Reading.{one_node, written_there, kept_elsewhere}
use Rattle.pool.proofs.After.{stands_kept}
use Rattle.edits.proofs.Writing.{at_same, not_one, chain_kept}
use Rattle.unions.specs.declared.job.Job.{Job}
use Rattle.unions.specs.Work.{Item, tree_uses, Ready, Outcome, Work}
use Rattle.unions.proofs.Working.{Advance, advance, only_none, only_two}
use Rattle.unions.proofs.Facing.{shared_side}

-- two branches: the second is given back, and the sides are united pairwise
module _ {K V : Type 0} (κ : KeyModel K) (join : V → V → V) (ns ns' : List (Node K V)) (account after : Account) (turns : ℕ) (job : Job) (rest : List Job) (end : List (Node K V)) (last : Account)
    (least : ℕ) (is : List (Item K V)) (chain : List ℕ) (released : Released ns ns' account job.from after) where
  module _ (i i' p : ℕ) (k k' : K) (l r l' r' : Tree K V) (agree : Agree κ p k' k)
      (ready : Ready κ ns account (turns + 1) (job ∷ rest) (record { into = branch i p k l r; add = branch i' p k' l' r'; least = least } ∷ is) chain) where
    ordered_first : Ordered κ least (branch i p k l r)
    ordered_first = ready.fits.0.into_ordered

    ordered_second : Ordered κ least (branch i' p k' l' r')
    ordered_second = ready.fits.0.add_ordered

    turn : (s : Bool) (j : K) → Side κ p s k' j → Side κ p s k j
    turn s j h = ((λ q lq. h.0 q lq ∙ agree q lq), h.1)

    second : (z : ℕ) → one i' z ≡ one job.from z
    second z = ap (λ w. one w z) ready.fits.0.add_root

    keep : (z : ℕ) → one i' z ≡ 0 → (w : Node K V) → At ns z w → At ns' z w
    keep z h w at = subst (λ (n : List (Node K V)). At n z w) (sym released.written)
        (kept_elsewhere ns job.from _ z w (not_one job.from z (omega (arith, second z))) at)

    stands_side : (s : Tree K V) → ((z : ℕ) → uses z s + one i' z ≤ uses z (branch i p k l r) + uses z (branch i' p k' l' r')) → Stands ns s → Stands ns' s
    stands_side s few = stands_kept ns ns' s (λ z h. keep z (omega (arith, ready.once z, few z)))

    leveled : Advance κ join ns account turns job rest end last (branch i p k l r) (branch i' p k' l' r') least is chain ready ns' after
        (record { into = l; add = l'; least = p + 1 } ∷ (record { into = r; add = r'; least = p + 1 } ∷ []))
        (record { into = root l; from = root l' } ∷ (record { into = root r; from = root r' } ∷ [])) (job.from ∷ chain) (λ z. one i z)
    leveled = record {
      changed = λ z h. keep z (omega arith);
      balance = λ z. omega (arith, second z);
      fits = λ h. (
        record {
          into_root = refl;
          add_root = refl;
          into_stands = stands_side l (λ z. omega arith) ready.fits.0.into_stands.1;
          add_stands = stands_side l' (λ z. omega arith) ready.fits.0.add_stands.1;
          into_ordered = ordered_first.4;
          add_ordered = ordered_second.4;
          shared = shared_side κ p false k l l' ordered_first.2 (all_keys_weaker (turn false) l' ordered_second.2);
          deep = omega (arith, ready.fits.0.deep, ordered_first.0);
          bounded = omega (arith, ordered_first.1);
        },
        (
          record {
            into_root = refl;
            add_root = refl;
            into_stands = stands_side r (λ z. omega arith) ready.fits.0.into_stands.2;
            add_stands = stands_side r' (λ z. omega arith) ready.fits.0.add_stands.2;
            into_ordered = ordered_first.5;
            add_ordered = ordered_second.5;
            shared = shared_side κ p true k r r' ordered_first.3 (all_keys_weaker (turn true) r' ordered_second.3);
            deep = omega (arith, ready.fits.0.deep, ordered_first.0);
            bounded = omega (arith, ordered_first.1);
          },
          h,
        ),
      );
      linked = (
        released.first,
        (
          account.head,
          subst (λ (n : List (Node K V)). At n job.from (Free account.head)) (sym released.written) (written_there ns job.from _ released.within),
          chain_kept ns ns' account.head chain (λ z h. keep z (omega (arith, ready.once z))) ready.linked,
        ),
      );
      counted = omega (arith, ready.counted, released.more);
      capacity = released.capacity;
      room = omega (arith, ready.room, released.more);
      lighter = omega arith;
      few = omega arith;
      made = λ ts each kept.
          let (q, s, et, uq, sq, us, ss) = only_two κ join end _ _ ts each in (
            branch i p k q s,
            union_level κ join least i i' p k k' l r l' r' q s agree ordered_first ordered_second uq us,
            (
              at_same end i i _ _ refl (let za = uq.rooted in let zb = us.rooted in cc)
                  (kept i (omega (arith, one_same i i refl)) _ (keep i (omega (arith, ready.once i, one_same i i refl)) _ ready.fits.0.into_stands.0)),
              sq,
              ss,
            ),
            λ z. omega (arith, ap (tree_uses z) et),
          );
    }

  pub level_trees : (p q : ℕ) (k j : K) (left right left' right' : ℕ) (t u : Tree K V) → At ns job.into (Branch p k left right) → At ns job.from (Branch q j left' right')
      → Ready κ ns account (turns + 1) (job ∷ rest) (record { into = t; add = u; least = least } ∷ is) chain
      → place κ t ≡ place κ u → Agree κ (place κ t) (key u) (key t)
      → Work κ join ns' after turns (record { into = left; from = left' } ∷ (record { into = right; from = right' } ∷ rest)) end last
      → Outcome κ join ns account (record { into = t; add = u; least = least } ∷ is) chain end last
  level_trees p q k j left right left' right' (leaf i k₁ v₁) u at at' ready same agree next =
      let n = one_node ns i job.into _ _ ready.fits.0.into_root ready.fits.0.into_stands at in absurd cc
  level_trees p q k j left right left' right' (branch i p₁ k₁ l r) (leaf i' k₂ v₂) at at' ready same agree next =
      let n = one_node ns i' job.from _ _ ready.fits.0.add_root ready.fits.0.add_stands at' in absurd cc
  level_trees p q k j left right left' right' (branch i p₁ k₁ l r) (branch i' p₂ k₂ l' r') at at' ready same agree next =
      let n = one_node ns i job.into _ _ ready.fits.0.into_root ready.fits.0.into_stands.0 at in
      let n' = one_node ns i' job.from _ _ ready.fits.0.add_root ready.fits.0.add_stands.0 at' in
      let el : root l ≡ left = cc in
      let er : root r ≡ right = cc in
      let el' : root l' ≡ left' = cc in
      let er' : root r' ≡ right' = cc in
      let jobs : ◌≡◌ {A = List Job} (record { into = left; from = left' } ∷ (record { into = right; from = right' } ∷ rest)) (record { into = root l; from = root l' } ∷ (record { into = root r; from = root r' } ∷ rest)) = cc in
      subst (λ (q₂ : ℕ). Ready κ ns account (turns + 1) (job ∷ rest) (record { into = branch i p₁ k₁ l r; add = branch i' q₂ k₂ l' r'; least = least } ∷ is) chain
      → Outcome κ join ns account (record { into = branch i p₁ k₁ l r; add = branch i' q₂ k₂ l' r'; least = least } ∷ is) chain end last) same
      (λ ready'. advance κ join ns account turns job rest end last (branch i p₁ k₁ l r) (branch i' p₁ k₂ l' r') least is chain ready' ns' after _ _ (job.from ∷ chain) _
      (leveled i i' p₁ k₁ k₂ l r l' r' agree ready') (subst (λ (js : List Job). Work κ join ns' after turns js end last) jobs next)) ready

-- two leaves of one key join their records, and the second is given back
module _ {K V : Type 0} (κ : KeyModel K) (law : KeyLaws κ) (join : V → V → V) (ns ns' : List (Node K V)) (account after : Account) (turns : ℕ) (job : Job) (rest : List Job) (end : List (Node K V)) (last : Account)
    (least : ℕ) (is : List (Item K V)) (chain : List ℕ) (k j : K) (v w : V) (at : At ns job.into (Leaf k v)) (at' : At ns job.from (Leaf j w))
    (released : Released (set ns job.into (Leaf k (join v w))) ns' account job.from after) where
  module _ (i i' : ℕ) (ready : Ready κ ns account (turns + 1) (job ∷ rest) (record { into = leaf i k v; add = leaf i' k w; least = least } ∷ is) chain) where
    abbrev joined : Node K V
    joined = Leaf k (join v w)

    leaf_first : (z : ℕ) → one i z ≡ one job.into z
    leaf_first z = ap (λ y. one y z) ready.fits.0.into_root

    leaf_second : (z : ℕ) → one i' z ≡ one job.from z
    leaf_second z = ap (λ y. one y z) ready.fits.0.add_root

    apart : job.into ≡ job.from → ⊥
    apart e = omega (arith, ready.once job.into, leaf_first job.into, leaf_second job.into, one_same job.into job.into refl, one_same job.from job.into (sym e))

    keep_leaf : (z : ℕ) → one i z ≡ 0 → one i' z ≡ 0 → (y : Node K V) → At ns z y → At ns' z y
    keep_leaf z hx hy y h = subst (λ (n : List (Node K V)). At n z y) (sym released.written)
        (kept_elsewhere _ job.from _ z y (not_one job.from z (omega (arith, leaf_second z)))
        (kept_elsewhere ns job.into joined z y (not_one job.into z (omega (arith, leaf_first z))) h))

    at_joined : At ns' job.into joined
    at_joined = subst (λ (n : List (Node K V)). At n job.into joined) (sym released.written)
        (kept_elsewhere _ job.from _ job.into joined apart (written_there ns job.into joined at.0))

    one_leaf : Advance κ join ns account turns job rest end last (leaf i k v) (leaf i' k w) least is chain ready ns' after [] [] (job.from ∷ chain) (λ z. one i z)
    one_leaf = record {
      changed = λ z h. keep_leaf z (omega arith) (omega arith);
      balance = λ z. omega (arith, leaf_second z);
      fits = λ h. h;
      linked = (
        released.first,
        (
          account.head,
          subst (λ (n : List (Node K V)). At n job.from (Free account.head)) (sym released.written) (written_there _ job.from _ released.within),
          chain_kept ns ns' account.head chain (λ z h. keep_leaf z (omega (arith, ready.once z)) (omega (arith, ready.once z))) ready.linked,
        ),
      );
      counted = omega (arith, ready.counted, released.more);
      capacity = released.capacity;
      room = omega (arith, ready.room, released.more);
      lighter = omega arith;
      few = omega arith;
      made = λ ts each kept.
          let none = only_none κ join end ts each in (
            leaf i k (join v w),
            union_leaf κ join least i i' k v w,
            at_same end i job.into _ _ ready.fits.0.into_root refl (kept job.into (omega (arith, leaf_first job.into, one_same job.into job.into refl)) _ at_joined),
            λ z. omega (arith, ap (tree_uses z) none),
          );
    }

  pub leaf_trees : (t u : Tree K V) → Ready κ ns account (turns + 1) (job ∷ rest) (record { into = t; add = u; least = least } ∷ is) chain
      → Agree κ (place κ t) (key u) (key t) → Work κ join ns' after turns rest end last
      → Outcome κ join ns account (record { into = t; add = u; least = least } ∷ is) chain end last
  leaf_trees (branch i p l r s) u ready agree next =
      let n = one_node ns i job.into _ _ ready.fits.0.into_root ready.fits.0.into_stands.0 at in absurd cc
  leaf_trees (leaf i k₁ v₁) (branch i' p l r s) ready agree next =
      let n = one_node ns i' job.from _ _ ready.fits.0.add_root ready.fits.0.add_stands.0 at' in absurd cc
  leaf_trees (leaf i k₁ v₁) (leaf i' k₂ v₂) ready agree next =
      let n = one_node ns i job.into _ _ ready.fits.0.into_root ready.fits.0.into_stands at in
      let n' = one_node ns i' job.from _ _ ready.fits.0.add_root ready.fits.0.add_stands at' in
      let same : k₂ ≡ k₁ = law.same_bits k₂ k₁ agree in
      let ek : k₁ ≡ k = cc in
      let ev : v₁ ≡ v = cc in
      let ew : v₂ ≡ w = cc in
      let first : leaf i k v ≡ leaf i k₁ v₁ = cc in
      let other : leaf i' k w ≡ leaf i' k₂ v₂ = cc in
      subst (λ (x : Tree K V). Ready κ ns account (turns + 1) (job ∷ rest) (record { into = x; add = leaf i' k₂ v₂; least = least } ∷ is) chain
      → Outcome κ join ns account (record { into = x; add = leaf i' k₂ v₂; least = least } ∷ is) chain end last) first
      (subst (λ (y : Tree K V). Ready κ ns account (turns + 1) (job ∷ rest) (record { into = leaf i k v; add = y; least = least } ∷ is) chain
      → Outcome κ join ns account (record { into = leaf i k v; add = y; least = least } ∷ is) chain end last) other
      (λ ready'. advance κ join ns account turns job rest end last (leaf i k v) (leaf i' k w) least is chain ready' ns' after [] [] (job.from ∷ chain) _ (one_leaf i i' ready') next)) ready
