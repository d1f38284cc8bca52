-- A step in which one tree goes into a side of the other's branch.
use Rattle.std.proofs.Common.{◌≡◌, ℕ, ◌+◌, ◌<◌, ◌≤◌, Bool, true, false, cond, List, [], ◌∷◌, length, set, sym, refl, ap, ◌∙◌, subst, arith, length-set}
use Rattle.keys.specs.Model.{KeyModel}
use Rattle.trees.specs.Tree.{Tree, leaf, branch, root, key, one, size, uses, move, AllKeys}
use Rattle.trees.specs.Order.{Agree, Side, Ordered, place}
use Rattle.trees.proofs.Move.{one_same, root_move, size_move, uses_move, all_keys_move, ordered_move}
use Rattle.trees.proofs.Sizes.{size_pos}
use Rattle.trees.proofs.Order.{ordered_from_place, keys_on_side, side_keys, side_ordered}
use Rattle.trees.proofs.Union.{union_into, union_under}
use Rattle.pool.specs.declared.node.Node.{Node}
use Rattle.pool.specs.declared.node.Node.TheVariants.{Branch}
use Rattle.pool.specs.declared.account.Account.{Account}
use Rattle.pool.specs.Slice.{At, Stands}
use Rattle.pool.proofs.Reading.{one_node, written_there, kept_elsewhere}
use Rattle.pool.proofs.After.{stands_kept}
use Rattle.edits.proofs.Shrinking.{sides_uses}
use Rattle.edits.proofs.Writing.{at_same, not_one, stands_moved, chain_kept}
use Rattle.unions.specs.declared.job.Job.{Job}
use Rattle.unions.specs.Work.{Item, tree_uses, Ready, Outcome, Work}
use Rattle.unions.proofs.Working.{Advance, advance, only_one}
use Rattle.unions.proofs.Facing.{uses_rooted, shared_side}

module _ {K V : Type 0} where
  side_smaller : (b : Bool) (l r : Tree K V) → size (cond b r l) + 1 ≤ size l + size r
  side_smaller true l r = omega (arith, size_pos l)
  side_smaller false l r = omega (arith, size_pos r)

  side_root : (b : Bool) (l r : Tree K V) (left right : ℕ) → root l ≡ left → root r ≡ right → root (cond b r l) ≡ cond b right left
  side_root true l r left right el er = er
  side_root false l r left right el er = el

  pub side_stands : (b : Bool) (ns : List (Node K V)) (l r : Tree K V) → Stands ns l → Stands ns r → Stands ns (cond b r l)
  side_stands true ns l r sl sr = sr
  side_stands false ns l r sl sr = sl

  -- a branch of whose sides one is another tree now
  branch_stands : (b : Bool) (ns : List (Node K V)) (i x y p : ℕ) (k : K) (left right : ℕ) (l r q : Tree K V) → i ≡ x → At ns x (Branch p k (cond b left y) (cond b y right))
      → root l ≡ left → root r ≡ right → root q ≡ y → Stands ns (cond b l r) → Stands ns q → Stands ns (branch i p k (cond b l q) (cond b q r))
  branch_stands true ns i x y p k left right l r q e at el er eq so sq = (at_same ns i x _ _ e (cc) at, so, sq)
  branch_stands false ns i x y p k left right l r q e at el er eq so sq = (at_same ns i x _ _ e (cc) at, sq, so)

  branch_uses : (b : Bool) (j i p : ℕ) (k : K) (l r q : Tree K V) → uses j (branch i p k (cond b l q) (cond b q r)) ≡ one i j + uses j q + uses j (cond b l r)
  branch_uses true j i p k l r q = omega arith
  branch_uses false j i p k l r q = omega arith

  -- the side that is named, put where it was
  same_branch : (b : Bool) (p : ℕ) (k : K) (left right : ℕ) → ◌≡◌ {A = Node K V} (Branch p k (cond b left (cond b right left)) (cond b (cond b right left) right)) (Branch p k left right)
  same_branch true p k left right = refl
  same_branch false p k left right = refl

-- the second tree goes into a side of the first
module _ {K V : Type 0} (κ : KeyModel K) (join : V → V → V) (ns : List (Node K V)) (account : Account) (turns : ℕ) (job : Job) (rest : List Job) (end : List (Node K V)) (last : Account)
    (least : ℕ) (is : List (Item K V)) (chain : List ℕ) where
  module _ (i p : ℕ) (k : K) (l r u : Tree K V) (b : Bool) (eb : κ.bit (key u) p ≡ b) (below : p < place κ u) (agree : Agree κ p (key u) k)
      (ready : Ready κ ns account (turns + 1) (job ∷ rest) (record { into = branch i p k l r; add = u; least = least } ∷ is) chain) where
    abbrev on : Tree K V
    on = cond b r l

    abbrev off : Tree K V
    off = cond b l r

    ordered : Ordered κ least (branch i p k l r)
    ordered = ready.fits.0.into_ordered

    on_side : AllKeys (Side κ p b k) u
    on_side = keys_on_side κ least p b k u below agree eb ready.fits.0.add_ordered

    entered : Advance κ join ns account turns job rest end last (branch i p k l r) u least is chain ready ns account
        (record { into = on; add = u; least = p + 1 } ∷ []) (record { into = cond b (root r) (root l); from = job.from } ∷ []) chain (λ z. one i z + uses z off)
    entered = record {
      changed = λ z h w at. at;
      balance = λ z. omega (arith, sides_uses b z l r);
      fits = λ h. (
        record {
          into_root = side_root b l r (root l) (root r) refl refl;
          add_root = ready.fits.0.add_root;
          into_stands = side_stands b ns l r ready.fits.0.into_stands.1 ready.fits.0.into_stands.2;
          add_stands = ready.fits.0.add_stands;
          into_ordered = side_ordered κ least i p k l r ordered b;
          add_ordered = ordered_from_place κ least (p + 1) u (omega arith) ready.fits.0.add_ordered;
          shared = shared_side κ p b k on u (side_keys κ least i p k l r ordered b) on_side;
          deep = omega (arith, ready.fits.0.deep, ordered.0);
          bounded = omega (arith, ordered.1);
        },
        h,
      );
      linked = ready.linked;
      counted = ready.counted;
      capacity = refl;
      room = ready.room;
      lighter = omega (arith, side_smaller b l r);
      few = omega (arith, side_smaller b l r);
      made = λ ts each kept.
          let (s, et, un, ss) = only_one κ join end _ ts each in (
            branch i p k (cond b l s) (cond b s r),
            union_into κ join b least i p k l r u s ordered on_side un,
            branch_stands b end i i (cond b (root r) (root l)) p k (root l) (root r) l r s refl
                (at_same end i i _ _ refl (same_branch b p k (root l) (root r)) (kept i (omega (arith, one_same i i refl)) _ ready.fits.0.into_stands.0))
                refl refl (un.rooted ∙ side_root b l r (root l) (root r) refl refl)
                (stands_kept ns end off (λ z h. kept z (omega arith)) (side_stands b ns r l ready.fits.0.into_stands.2 ready.fits.0.into_stands.1)) ss,
            λ z. omega (arith, ap (tree_uses z) et, branch_uses b z i p k l r s),
          );
    }

  -- the step does its part
  pub into_trees : (p : ℕ) (k : K) (left right : ℕ) (t u : Tree K V) → At ns job.into (Branch p k left right)
      → Ready κ ns account (turns + 1) (job ∷ rest) (record { into = t; add = u; least = least } ∷ is) chain
      → place κ t < place κ u → Agree κ (place κ t) (key u) (key t)
      → Work κ join ns account turns (record { into = cond (κ.bit (key u) p) right left; from = job.from } ∷ rest) end last
      → Outcome κ join ns account (record { into = t; add = u; least = least } ∷ is) chain end last
  into_trees p k left right (leaf i k' v) u at ready below agree next =
      let q = one_node ns i job.into _ _ ready.fits.0.into_root ready.fits.0.into_stands at in absurd cc
  into_trees p k left right (branch i p' k' l r) u at ready below agree next =
      let q = one_node ns i job.into _ _ ready.fits.0.into_root ready.fits.0.into_stands.0 at in
      let ep : p ≡ p' = cc in
      let el : left ≡ root l = cc in
      let er : right ≡ root r = cc in
      let same : cond (κ.bit (key u) p) right left ≡ cond (κ.bit (key u) p') (root r) (root l) = cc in
      advance κ join ns account turns job rest end last (branch i p' k' l r) u least is chain ready ns account _ _ chain _
      (entered i p' k' l r u (κ.bit (key u) p') refl below agree ready)
      (subst (λ (n : ℕ). Work κ join ns account turns (record { into = n; from = job.from } ∷ rest) end last) same next)

-- the first tree goes into a side of the second
module _ {K V : Type 0} (κ : KeyModel K) (join : V → V → V) (ns ns' : List (Node K V)) (account : Account) (turns : ℕ) (job : Job) (old : Node K V) (rest : List Job)
    (end : List (Node K V)) (last : Account) (least : ℕ) (is : List (Item K V)) (chain : List ℕ) (at : At ns job.into old) where
  module _ (i p : ℕ) (k : K) (t l r : Tree K V) (b : Bool) (eb : κ.bit (key t) p ≡ b) (below : p < place κ t) (agree : Agree κ p k (key t))
      (ready : Ready κ ns account (turns + 1) (job ∷ rest) (record { into = t; add = branch i p k l r; least = least } ∷ is) chain)
      (written : ns' ≡ set (set ns job.from old) job.into (Branch p k (cond b (root l) job.from) (cond b job.from (root r)))) where
    abbrev over : Node K V
    over = Branch p k (cond b (root l) job.from) (cond b job.from (root r))

    abbrev under_on : Tree K V
    under_on = cond b r l

    abbrev under_off : Tree K V
    under_off = cond b l r

    second : (z : ℕ) → one i z ≡ one job.from z
    second z = ap (λ w. one w z) ready.fits.0.add_root

    own_root : 1 ≤ uses job.into t
    own_root = uses_rooted κ job.into job.into t ready.fits.0.into_root refl

    apart : job.from ≡ job.into → ⊥
    apart e = omega (arith, ready.once job.into, own_root, second job.into, one_same job.from job.into e)

    keep : (z : ℕ) → (z ≡ job.from → ⊥) → (z ≡ job.into → ⊥) → (w : Node K V) → At ns z w → At ns' z w
    keep z zy zx w h = subst (λ (n : List (Node K V)). At n z w) (sym written) (kept_elsewhere _ job.into over z w zx (kept_elsewhere ns job.from old z w zy h))

    not_second : (z : ℕ) → one i z ≡ 0 → z ≡ job.from → ⊥
    not_second z h = not_one job.from z (omega (arith, second z))

    not_top : (z : ℕ) → uses z t ≡ 0 → z ≡ job.into → ⊥
    not_top z h e = omega (arith, uses_rooted κ job.into z t ready.fits.0.into_root e)

    within : job.from < length ns
    within = subst (λ (n : ℕ). n < length ns) ready.fits.0.add_root ready.fits.0.add_stands.0.0

    at_second : At ns' job.from old
    at_second = subst (λ (n : List (Node K V)). At n job.from old) (sym written) (kept_elsewhere _ job.into over job.from old apart (written_there ns job.from old within))

    at_top : At ns' job.into over
    at_top = subst (λ (n : List (Node K V)). At n job.into over) (sym written) (written_there _ job.into over (rw length-set at.0))

    stands_first : Stands ns' (move job.from t)
    stands_first = stands_moved ns ns' job.from t
        (λ x h. at_same ns' job.from job.from x old refl (one_node ns (root t) job.into x old ready.fits.0.into_root h at) at_second)
        (λ z h. keep z (not_second z (omega (arith, ready.once z))) (λ e. omega (arith, ready.once z, one_same (root t) z (ready.fits.0.into_root ∙ sym e))))
        ready.fits.0.into_stands

    stands_side : (s : Tree K V) → ((z : ℕ) → uses z s ≤ uses z l + uses z r) → Stands ns s → Stands ns' s
    stands_side s few = stands_kept ns ns' s (λ z h. keep z (not_second z (omega (arith, ready.once z, few z))) (not_top z (omega (arith, ready.once z, few z))))

    stands_zero : Stands ns' l
    stands_zero = stands_side l (λ z. omega arith) ready.fits.0.add_stands.1

    stands_one : Stands ns' r
    stands_one = stands_side r (λ z. omega arith) ready.fits.0.add_stands.2

    ordered_second : Ordered κ least (branch i p k l r)
    ordered_second = ready.fits.0.add_ordered

    on_side_first : AllKeys (Side κ p b k) t
    on_side_first = keys_on_side κ least p b k t below (λ q lq. sym (agree q lq)) eb ready.fits.0.into_ordered

    swapped : Advance κ join ns account turns job rest end last t (branch i p k l r) least is chain ready ns' account
        (record { into = move job.from t; add = under_on; least = p + 1 } ∷ []) (record { into = job.from; from = cond b (root r) (root l) } ∷ []) chain (λ z. one job.into z + uses z under_off)
    swapped = record {
      changed = λ z h. keep z (not_second z (omega arith)) (not_top z (omega arith));
      balance = λ z. omega (arith, sides_uses b z l r, uses_move z job.from t, second z, ap (λ w. one w z) ready.fits.0.into_root);
      fits = λ h. (
        record {
          into_root = root_move job.from t;
          add_root = side_root b l r (root l) (root r) refl refl;
          into_stands = stands_first;
          add_stands = side_stands b ns' l r stands_zero stands_one;
          into_ordered = ordered_move κ (p + 1) job.from t (ordered_from_place κ least (p + 1) t (omega arith) ready.fits.0.into_ordered);
          add_ordered = side_ordered κ least i p k l r ordered_second b;
          shared = shared_side κ p b k (move job.from t) under_on (all_keys_move _ job.from t on_side_first) (side_keys κ least i p k l r ordered_second b);
          deep = omega (arith, ready.fits.0.deep, ordered_second.0);
          bounded = omega (arith, ordered_second.1);
        },
        h,
      );
      linked = chain_kept ns ns' account.head chain (λ z h. keep z (not_second z (omega (arith, ready.once z))) (not_top z (omega (arith, ready.once z)))) ready.linked;
      counted = ready.counted;
      capacity = refl;
      room = ready.room;
      lighter = omega (arith, side_smaller b l r, size_move job.from t);
      few = omega (arith, side_smaller b l r, size_move job.from t);
      made = λ ts each kept.
          let (s, et, un, ss) = only_one κ join end _ ts each in (
            branch (root t) p k (cond b l s) (cond b s r),
            union_under κ join b least i p job.from k t l r s ordered_second on_side_first un,
            branch_stands b end (root t) job.into job.from p k (root l) (root r) l r s ready.fits.0.into_root
                (kept job.into (omega (arith, one_same job.into job.into refl)) _ at_top) refl refl (un.rooted ∙ root_move job.from t)
                (stands_kept ns' end under_off (λ z h. kept z (omega arith)) (side_stands b ns' r l stands_one stands_zero)) ss,
            λ z. omega (arith, ap (tree_uses z) et, branch_uses b z (root t) p k l r s, ap (λ w. one w z) ready.fits.0.into_root),
          );
    }

  -- the step does its part
  pub under_trees : (p : ℕ) (k : K) (left right : ℕ) (t u : Tree K V) → At ns job.from (Branch p k left right)
      → Ready κ ns account (turns + 1) (job ∷ rest) (record { into = t; add = u; least = least } ∷ is) chain
      → place κ u < place κ t → Agree κ (place κ u) (key u) (key t)
      → ns' ≡ set (set ns job.from old) job.into (Branch p k (cond (κ.bit (key t) p) left job.from) (cond (κ.bit (key t) p) job.from right))
      → Work κ join ns' account turns (record { into = job.from; from = cond (κ.bit (key t) p) right left } ∷ rest) end last
      → Outcome κ join ns account (record { into = t; add = u; least = least } ∷ is) chain end last
  under_trees p k left right t (leaf i k' v) at' ready below agree written next =
      let q = one_node ns i job.from _ _ ready.fits.0.add_root ready.fits.0.add_stands at' in absurd cc
  under_trees p k left right t (branch i p' k' l r) at' ready below agree written next =
      let q = one_node ns i job.from _ _ ready.fits.0.add_root ready.fits.0.add_stands.0 at' in
      let ep : p ≡ p' = cc in
      let ek : k ≡ k' = cc in
      let el : left ≡ root l = cc in
      let er : right ≡ root r = cc in
      let same : cond (κ.bit (key t) p) right left ≡ cond (κ.bit (key t) p') (root r) (root l) = cc in
      advance κ join ns account turns job rest end last t (branch i p' k' l r) least is chain ready ns' account _ _ chain _
      (swapped i p' k' t l r (κ.bit (key t) p') refl below agree ready (written ∙ cc))
      (subst (λ (n : ℕ). Work κ join ns' account turns (record { into = job.from; from = n } ∷ rest) end last) same next)
