-- What the writes of a removal come to for the map.
use Rattle.std.proofs.Common.{◌≡◌, ℕ, ◌+◌, ◌<◌, ◌≤◌, Bool, true, false, cond, ◌⊎◌, List, ◌∷◌, length, set, Some, None, Option, sym, refl, ap, ◌∙◌, subst, inl, inr, ⊎_elim, arith, length-set, eqb-true}
use Rattle.std.proofs.lemmas.Option.{same_Some}
use Rattle.keys.specs.Model.{KeyModel, number}
use Rattle.trees.specs.Tree.{Tree, leaf, branch, one, times, root, entries_if_any, size, uses, uses_if_any}
use Rattle.trees.specs.Order.{Ordered}
use Rattle.trees.specs.Find.{same_key, lookup}
use Rattle.trees.specs.Remove.{removed, freed, OrderedFromIfAny}
use Rattle.trees.proofs.Move.{one_same}
use Rattle.trees.proofs.Sizes.{size_pos}
use Rattle.trees.proofs.Lookup.{lookup_same_number}
use Rattle.trees.proofs.Remove.{removed_leaf, root_removed, uses_removed, lookup_removed, ordered_removed}
use Rattle.pool.specs.declared.node.Node.{Node}
use Rattle.pool.specs.declared.node.Node.TheVariants.{Free}
use Rattle.pool.specs.declared.account.Account.{Account}
use Rattle.pool.specs.Slice.{At, Stands, Chain}
use Rattle.pool.specs.Nodes.{Released}
use Rattle.pool.specs.Walks.{Rooted, Beside, Left}
use Rattle.pool.proofs.Reading.{one_node, written_there, kept_elsewhere}
use Rattle.walks.specs.declared.descent.Parent.{Parent}
use Rattle.walks.specs.declared.descent.Landing.{Landing}
use Rattle.edits.specs.Owned.{owned}
use Rattle.walks.specs.Landings.{landing, LandsIfAny}
use Rattle.edits.specs.Writes.{ClosedUp}
use Rattle.edits.specs.Removed.{without_key}
use Rattle.pool.proofs.Standing.{root_within}
use Rattle.edits.proofs.Writing.{apart, not_one, at_same, chain_kept}
use Rattle.edits.proofs.Shrinking.{Ends, Lost, lost, stands_lost}

module _ {K V : Type 0} (κ : KeyModel K) (x : K) where
  without_absent : (es : List (K × V)) → lookup κ es x ≡ None → (y : K) → lookup κ es y ≡ cond (same_key κ x y) None (lookup κ es y)
  without_absent es none y = by_key (same_key κ x y) refl where
    by_key : (b : Bool) → same_key κ x y ≡ b → lookup κ es y ≡ cond b None (lookup κ es y)
    by_key true e = lookup_same_number κ es y x (sym (eqb-true (number κ x) (number κ y) e)) ∙ none
    by_key false e = refl

  -- where x finds nothing, the map without x is the map itself
  pub absent_key : (ns : List (Node K V)) (account : Account) (root : Option ℕ) (map : Option (Tree K V)) (chain : List ℕ)
      → Rooted κ ns root map → Beside ns account map chain → lookup κ (entries_if_any map) x ≡ None
      → Left κ ns ns (without_key κ x map) (owned map chain) account account root
  absent_key ns account root map chain rooted beside none = record {
    map = map;
    chain = chain;
    standing = rooted;
    found = without_absent (entries_if_any map) none;
    linked = beside.linked;
    counted = beside.counted;
    capacity = refl;
    used = λ j. refl;
    kept = λ j h y at. at;
  }

  -- below a branch a landing has a branch above it
  has_parent : (t : Tree K V) (q : Parent) → (landing (κ.bit x) (Some q) t).parent ≡ None → ⊥
  has_parent (leaf i k v) q e = cc
  has_parent (branch i p k l r) q e =
      (elim (κ.bit x p) as (λ b. (cond b (landing (κ.bit x) (Some (record { at = i; sibling = root l })) r) (landing (κ.bit x) (Some (record { at = i; sibling = root r })) l)).parent ≡ None → ⊥) [
        | true ↦ has_parent r _
        | false ↦ has_parent l _
      ]) e

  -- a leaf with no branch above it is the whole tree
  lone : (t : Tree K V) (d : Landing K V) → d ≡ landing (κ.bit x) None t → d.parent ≡ None → t ≡ leaf d.at d.own d.held
  lone (leaf i k v) d e none = ap (λ (q : Landing K V). leaf q.at q.own q.held) (sym e)
  lone (branch i p k l r) d e none =
      absurd ((elim (κ.bit x p) as (λ b. (cond b (landing (κ.bit x) (Some (record { at = i; sibling = root l })) r) (landing (κ.bit x) (Some (record { at = i; sibling = root r })) l)).parent ≡ None → ⊥) [
        | true ↦ has_parent r _
        | false ↦ has_parent l _
      ]) (ap (λ (q : Landing K V). q.parent) (sym e) ∙ none))

  -- the leaf and the branch above it are in the slice, and below a branch there are three nodes
  landing_within : (ns : List (Node K V)) (t : Tree K V) (above : Option Parent) → Stands ns t → (landing (κ.bit x) above t).at < length ns
  landing_within ns (leaf i k v) above st = st.0
  landing_within ns (branch i p k l r) above st =
      elim (κ.bit x p) as (λ b. (cond b (landing (κ.bit x) (Some (record { at = i; sibling = root l })) r) (landing (κ.bit x) (Some (record { at = i; sibling = root r })) l)).at < length ns) [
        | true ↦ landing_within ns r _ st.2
        | false ↦ landing_within ns l _ st.1
      ]

  -- what is known of the branch above a landing
  pub record Above (ns : List (Node K V)) (q : Parent) (t : Tree K V) : Type 0 where
    pub branch_in : q.at < length ns
    pub sibling_in : q.sibling < length ns
    pub three : 3 ≤ size t

  parent_within : (ns : List (Node K V)) (q : Parent) (t : Tree K V) (above : Option Parent) → Stands ns t → (landing (κ.bit x) above t).parent ≡ Some q → (above ≡ Some q) ⊎ Above ns q t
  parent_within ns q (leaf i k v) above st e = inl e
  parent_within ns q (branch i p k l r) above st e =
      inr (by_bit (κ.bit x p) (parent_within ns q l _ st.1) (parent_within ns q r _ st.2) e)
    where
      left : Parent
      left = record { at = i; sibling = root r }

      right : Parent
      right = record { at = i; sibling = root l }

      here : (far near : Tree K V) → Stands ns far → ◌≡◌ {A = Option Parent} (Some (record { at = i; sibling = root far })) (Some q) → 3 ≤ 1 + size l + size r → Above ns q (branch i p k l r)
      here far near sf same three = record {
        branch_in = subst (λ (z : Parent). z.at < length ns) (same_Some _ q same) st.0.0;
        sibling_in = subst (λ (z : Parent). z.sibling < length ns) (same_Some _ q same) (root_within ns far sf);
        three = three;
      }

      deeper : (c : Tree K V) → size c ≤ size l + size r → Above ns q c → Above ns q (branch i p k l r)
      deeper c less above_c = record { branch_in = above_c.branch_in; sibling_in = above_c.sibling_in; three = let three = above_c.three in omega arith }

      by_bit : (b : Bool) → ((landing (κ.bit x) (Some left) l).parent ≡ Some q → (◌≡◌ {A = Option Parent} (Some left) (Some q)) ⊎ Above ns q l)
          → ((landing (κ.bit x) (Some right) r).parent ≡ Some q → (◌≡◌ {A = Option Parent} (Some right) (Some q)) ⊎ Above ns q r)
          → (cond b (landing (κ.bit x) (Some right) r) (landing (κ.bit x) (Some left) l)).parent ≡ Some q → Above ns q (branch i p k l r)
      by_bit true in_left in_right h = ⊎_elim (λ same. here l r st.1 same (omega (arith, size_pos l, size_pos r))) (deeper r (omega arith)) (in_right h)
      by_bit false in_left in_right h = ⊎_elim (λ same. here r l st.2 same (omega (arith, size_pos l, size_pos r))) (deeper l (omega arith)) (in_left h)

  -- so there is room in the account for what is given back
  pub room_for_one : (ns : List (Node K V)) (account : Account) (top : ℕ) (d : Landing K V) (map : Option (Tree K V)) (chain : List ℕ) → Rooted κ ns (Some top) map
      → Beside ns account map chain → LandsIfAny κ x d map → (d.at < length ns) × (account.free < account.capacity)
  room_for_one ns account top d None chain rooted beside lands = absurd lands
  room_for_one ns account top d (Some t) chain rooted beside lands =
      let few = beside.few in
      let counted = beside.counted in
      (subst (λ (e : Landing K V). e.at < length ns) (sym lands.leads) (landing_within ns t None rooted.stands), omega (arith, size_pos t))

  pub room_for_two : (ns : List (Node K V)) (account : Account) (top : ℕ) (d : Landing K V) (q : Parent) (map : Option (Tree K V)) (chain : List ℕ) → Rooted κ ns (Some top) map
      → Beside ns account map chain → LandsIfAny κ x d map → d.parent ≡ Some q
      → (d.at < length ns) × (q.at < length ns) × (q.sibling < length ns) × (account.free + 1 < account.capacity)
  room_for_two ns account top d q None chain rooted beside lands parent = absurd lands
  room_for_two ns account top d q (Some t) chain rooted beside lands parent =
      let few = beside.few in
      let counted = beside.counted in
      let above : Above ns q t = ⊎_elim (λ none. absurd cc) (λ a. a)
      (parent_within ns q t None rooted.stands (ap (λ (e : Landing K V). e.parent) (sym lands.leads) ∙ parent)) in
      let three = above.three in
      ((room_for_one ns account top d (Some t) chain rooted beside lands).0, above.branch_in, above.sibling_in, omega arith)

module _ {K V : Type 0} (κ : KeyModel K) (x : K) (ns ns' : List (Node K V)) (before after : Account) where
  -- a leaf given back that was the whole map leaves an empty one
  left_empty : (i : ℕ) (k : K) (v : V) (chain : List ℕ) → number κ k ≡ number κ x → Chain ns before.head chain → length chain ≡ before.free
      → ((j : ℕ) → one i j + times j chain ≤ 1) → Released ns ns' before i after
      → Left κ ns ns' (without_key κ x (Some (leaf i k v))) (owned (Some (leaf i k v)) chain) before after None
  left_empty i k v chain same linked counted once released =
      let ii = one_same i i refl in
      let oi = once i in
      let more = released.more in
      let chained : ℕ → ℕ = λ j. times j chain in
      let keep : (j : ℕ) → (j ≡ i → ⊥) → (y : Node K V) → At ns j y → At ns' j y =
      λ j other y h. subst (λ (n : List (Node K V)). At n j y) (sym released.written) (kept_elsewhere ns i _ j y other h) in
      record {
        map = None;
        chain = i ∷ chain;
        standing = record { rooted = refl; stands = tt; ordered = tt };
        found = λ y. subst (λ (o : Option (Tree K V)). lookup κ (entries_if_any o) y ≡ without_key κ x (Some (leaf i k v)) y) (removed_leaf κ x i k v same) (lookup_removed κ x y 0 (leaf i k v) tt);
        linked = (
          released.first,
          (
            before.head,
            subst (λ (n : List (Node K V)). At n i (Free before.head)) (sym released.written) (written_there ns i _ released.within),
            chain_kept ns ns' before.head chain (λ j h. keep j (apart chained i j (omega arith) h)) linked,
          ),
        );
        counted = omega arith;
        capacity = released.capacity;
        used = λ j. omega arith;
        kept = λ j h. keep j (not_one i j (omega arith));
      }

  pub removed_lone : (top : ℕ) (d : Landing K V) (map : Option (Tree K V)) (chain : List ℕ) → Rooted κ ns (Some top) map → Beside ns before map chain
      → LandsIfAny κ x d map → d.own ≡ x → d.parent ≡ None → Released ns ns' before d.at after
      → Left κ ns ns' (without_key κ x map) (owned map chain) before after None
  removed_lone top d None chain rooted beside lands own none released = absurd lands
  removed_lone top d (Some t) chain rooted beside lands own none released =
      let whole : leaf d.at d.own d.held ≡ t = sym (lone κ x t d lands.leads none) in
      subst (λ (u : Tree K V). Left κ ns ns' (without_key κ x (Some u)) (owned (Some u) chain) before after None) whole
      (left_empty d.at d.own d.held chain (ap (number κ) own) beside.linked beside.counted
      (subst (λ (u : Tree K V). (j : ℕ) → uses j u + times j chain ≤ 1) (sym whole) beside.once) released)

  -- a branch closed up over the leaf of x leaves the map without x
  left_closed : (t : Tree K V) (end : ℕ) (q : Parent) (content : Node K V) (chain : List ℕ) → Stands ns t → Ordered κ 0 t → Ends κ x end q.at q.sibling (landing (κ.bit x) None t)
      → Lost κ x end q.at q.sibling t
      → Chain ns before.head chain → length chain ≡ before.free → ((j : ℕ) → uses j t + times j chain ≤ 1)
      → q.at < length ns → end < length ns → At ns q.sibling content → ClosedUp ns ns' before q content end after
      → Left κ ns ns' (without_key κ x (Some t)) (owned (Some t) chain) before after (Some (root t))
  left_closed t end q content chain st o ends less linked counted once parent_in_lem end_in was closed =
      let parent : ℕ = q.at in
      let sibling : ℕ = q.sibling in
      let within = less.within in
      let pp = one_same parent parent refl in
      let ss = one_same sibling sibling refl in
      let ee = one_same end end refl in
      let wp = within parent in
      let ws = within sibling in
      let we = within end in
      let op = once parent in
      let os = once sibling in
      let oe = once end in
      let ps : parent ≡ sibling → ⊥ = not_one sibling parent (omega arith) in
      let pe : parent ≡ end → ⊥ = not_one end parent (omega arith) in
      let se : sibling ≡ end → ⊥ = not_one end sibling (omega arith) in
      let written = closed.written parent_in_lem in
      let more = closed.more in
      let lift : List (Node K V) = set ns parent content in
      let give : List (Node K V) = set lift sibling (Free before.head) in
      let keep : (j : ℕ) → (j ≡ parent → ⊥) → (j ≡ sibling → ⊥) → (j ≡ end → ⊥) → (y : Node K V) → At ns j y → At ns' j y =
      λ j jp js je y h. subst (λ (n : List (Node K V)). At n j y) (sym written)
      (kept_elsewhere give end _ j y je (kept_elsewhere lift sibling _ j y js (kept_elsewhere ns parent content j y jp h))) in
      let lifted : (y : Node K V) → At ns sibling y → At ns' parent y =
      λ y h. subst (λ (n : List (Node K V)). At n parent y) (sym written)
      (kept_elsewhere give end _ parent y pe (kept_elsewhere lift sibling _ parent y ps
      (at_same lift parent parent y content refl (one_node ns sibling sibling y content refl h was) (written_there ns parent content parent_in_lem)))) in
      let at_sibling : At ns' sibling (Free before.head) = subst (λ (n : List (Node K V)). At n sibling (Free before.head)) (sym written)
      (kept_elsewhere give end _ sibling _ se (written_there lift sibling _ (rw length-set was.0))) in
      let at_end : At ns' end (Free sibling) = subst (λ (n : List (Node K V)). At n end (Free sibling)) (sym written)
      (written_there give end _ (rw (length-set, length-set) end_in)) in
      let chained : ℕ → ℕ = λ j. times j chain in
      record {
        map = Some less.tree;
        chain = end ∷ (sibling ∷ chain);
        standing = record {
          rooted = ap Some (sym (root_removed κ x t less.tree less.rest));
          stands = stands_lost κ x end parent sibling ns ns' keep lifted t None ends st (λ j. omega (arith, once j)) less.tree less.rest;
          ordered = subst (OrderedFromIfAny κ 0) less.rest (ordered_removed κ x 0 t o);
        };
        found = λ y. subst (λ (m : Option (Tree K V)). lookup κ (entries_if_any m) y ≡ without_key κ x (Some t) y) less.rest (lookup_removed κ x y 0 t o);
        linked = (
          closed.first,
          (
            sibling,
            at_end,
            (
              refl,
              (
                before.head,
                at_sibling,
                chain_kept ns ns' before.head chain
                    (λ j h. keep j (apart chained parent j (omega arith) h) (apart chained sibling j (omega arith) h) (apart chained end j (omega arith) h)) linked,
              ),
            ),
          ),
        );
        counted = omega arith;
        capacity = closed.capacity;
        used = λ j.
            let rest : uses_if_any j (removed κ x t) ≡ uses j less.tree = ap (uses_if_any j) less.rest in
            let gave : times j (freed κ x t) ≡ one sibling j + (one end j + 0) = ap (times j) less.gave in
            omega (arith, uses_removed κ x j t);
        kept = λ j h.
            let wj = within j in
            keep j (not_one parent j (omega arith)) (not_one sibling j (omega arith)) (not_one end j (omega arith));
      }

  pub removed_closed : (top : ℕ) (d : Landing K V) (q : Parent) (content : Node K V) (map : Option (Tree K V)) (chain : List ℕ) → Rooted κ ns (Some top) map
      → Beside ns before map chain → LandsIfAny κ x d map → d.own ≡ x → d.parent ≡ Some q → At ns q.sibling content → ClosedUp ns ns' before q content d.at after
      → Left κ ns ns' (without_key κ x map) (owned map chain) before after (Some top)
  removed_closed top d q content None chain rooted beside lands own parent was closed = absurd lands
  removed_closed top d q content (Some t) chain rooted beside lands own parent was closed =
      let leads = lands.leads in
      let ends : Ends κ x d.at q.at q.sibling (landing (κ.bit x) None t) = record {
        at_end = ap (λ (e : Landing K V). e.at) (sym leads);
        of_key = ap (λ (e : Landing K V). number κ e.own) (sym leads) ∙ ap (number κ) own;
        below = ap (λ (e : Landing K V). e.parent) (sym leads) ∙ parent;
      } in
      let room = room_for_two κ x ns before top d q (Some t) chain rooted beside lands parent in
      let less : Lost κ x d.at q.at q.sibling t =
      ⊎_elim (λ gone. let none = gone.under in absurd cc) (λ less. less) (lost κ x d.at q.at q.sibling t None ends) in
      subst (λ (n : ℕ). Left κ ns ns' (without_key κ x (Some t)) (owned (Some t) chain) before after (Some n)) (sym (same_Some top (root t) rooted.rooted))
      (left_closed t d.at q content chain rooted.stands rooted.ordered ends less beside.linked beside.counted beside.once room.1 room.0 was closed)
