-- The walk to a key's seat: what is right of a side is right of the branch above.
use Rattle.std.proofs.Common.{◌≡◌, ℕ, ◌+◌, ◌<◌, ◌≤◌, Bool, true, false, cond, List, Some, Ok, Err, Option, Result, refl, sym, subst, arith, MatchResult}
use Rattle.keys.specs.Model.{KeyModel}
use Rattle.keys.specs.Split.{split}
use Rattle.trees.specs.Tree.{Tree, branch, first_entry}
use Rattle.trees.specs.Order.{Ordered}
use Rattle.trees.specs.Insert.{here, left, right}
use Rattle.trees.proofs.Insert.{spot_absent}
use Rattle.pool.specs.declared.node.Node.{Node}
use Rattle.pool.specs.declared.outoforder.OutOfOrder.{OutOfOrder}
use Rattle.pool.specs.Walks.{Rooted}
use Rattle.walks.specs.declared.step.Step.{Step}
use Rattle.walks.specs.declared.step.Step.TheVariants.{Leaf, Branch}
use Rattle.walks.specs.Leads.{Stepped, Grows}
use Rattle.walks.proofs.Growing.{rooted_grows, grown_leaf, grown_branch}
use Rattle.edits.specs.declared.seat.Seat.{Seat}
use Rattle.edits.specs.declared.seat.Seat.TheVariants.{Taken, Open}
use Rattle.edits.specs.Seats.{Seated, SeatedIfAny}

-- an answer names the key's seat in the tree u
abbrev pub Sought : {K V : Type 0} → KeyModel K → List (Node K V) → K → Result (Seat K V) OutOfOrder → Tree K V → Type 0
Sought κ ns x r u = MatchResult r (λ s. Seated κ ns x s u) (λ _. ⊥)

module _ {K V : Type 0} (κ : KeyModel K) (ns : List (Node K V)) (x : K) where
  -- an answer that is right of whatever tree grows at `at` is right of the map at `top`
  abbrev pub Onward : ℕ → ℕ → ℕ → Type 0
  Onward top least at =
      (r : Result (Seat K V) OutOfOrder) → ((u : Tree K V) → Grows κ ns least at u → Sought κ ns x r u)
      → (map : Option (Tree K V)) → Rooted κ ns (Some top) map → MatchResult r (λ s. SeatedIfAny κ ns x s map) (λ _. ⊥)

  -- a seat in a tree in order is one in its map
  seated_map : (t : Tree K V) → Ordered κ 0 t → (r : Result (Seat K V) OutOfOrder) → Sought κ ns x r t → MatchResult r (λ s. SeatedIfAny κ ns x s (Some t)) (λ _. ⊥)
  seated_map t o (Err f) h = h
  seated_map t o (Ok (Taken w k v)) h = h
  seated_map t o (Ok (Open gap)) h = (spot_absent κ (λ u v. u) x (first_entry t).1 0 0 gap.at gap.place 0 t h.2 h.1 o, h)

  -- so it is at the start
  pub onward_start : (top : ℕ) → Onward top 0 top
  onward_start top r all =
      rooted_grows κ ns (λ map. MatchResult r (λ s. SeatedIfAny κ ns x s map) (λ _. ⊥)) refl (λ t h. seated_map t h.ordered r (all t h))

  -- past a branch whose prefix the key shares, to the side that its bit names
  sought_on_side : (i p : ℕ) (k : K) (l r : Tree K V) → p ≤ split κ x k → (b : Bool) → κ.bit x p ≡ b
      → (a : Result (Seat K V) OutOfOrder) → Sought κ ns x a (cond b r l) → Sought κ ns x a (branch i p k l r)
  sought_on_side i p k l r h b e (Err f) s = s
  sought_on_side i p k l r h true e (Ok (Taken w own held)) s = (s.0, right (h, e, s.1))
  sought_on_side i p k l r h false e (Ok (Taken w own held)) s = (s.0, left (h, e, s.1))
  sought_on_side i p k l r h true e (Ok (Open gap)) s = (s.0, s.1, right (h, e, s.2))
  sought_on_side i p k l r h false e (Ok (Open gap)) s = (s.0, s.1, left (h, e, s.2))

  module _ (least at : ℕ) where
    pub sought_below : {p : ℕ} {k : K} {left_side right_side side : ℕ} {s : Step K V} → Stepped ns least at s → s ≡ Branch p k left_side right_side
        → (p ≤ κ.PLACES → p ≤ split κ x k) → side ≡ cond (κ.bit x p) right_side left_side
        → (a : Result (Seat K V) OutOfOrder) → ((u : Tree K V) → Grows κ ns (p + 1) side u → Sought κ ns x a u)
        → (u : Tree K V) → Grows κ ns least at u → Sought κ ns x a u
    sought_below {p} {k} {left_side} {right_side} {side} met is later e a next =
        grown_branch κ ns least at (Sought κ ns x a) met is
        (λ l r hl hr o. by_bit (κ.bit x p) refl l r hl hr (later (omega (arith, o.1)))
        (subst (λ (i : ℕ). (u : Tree K V) → Grows κ ns (p + 1) i u → Sought κ ns x a u) e next))
      where
        by_bit : (b : Bool) → κ.bit x p ≡ b → (l r : Tree K V) → Grows κ ns (p + 1) left_side l → Grows κ ns (p + 1) right_side r → p ≤ split κ x k
            → ((u : Tree K V) → Grows κ ns (p + 1) (cond (κ.bit x p) right_side left_side) u → Sought κ ns x a u) → Sought κ ns x a (branch at p k l r)
        by_bit true f l r hl hr h go =
            sought_on_side at p k l r h true f a (go r (subst (λ b. Grows κ ns (p + 1) (cond b right_side left_side) r) (sym f) hr))
        by_bit false f l r hl hr h go =
            sought_on_side at p k l r h false f a (go l (subst (λ b. Grows κ ns (p + 1) (cond b right_side left_side) l) (sym f) hl))

    -- at a leaf of the key
    pub sought_taken : {k : K} {v : V} {s : Step K V} → Stepped ns least at s → s ≡ Leaf k v → split κ x k ≡ κ.PLACES
        → (u : Tree K V) → Grows κ ns least at u → Sought κ ns x (Ok (Taken at k v)) u
    sought_taken {k} {v} met is h = grown_leaf κ ns least at (Sought κ ns x (Ok (Taken at k v))) met is (subst (Stepped ns least at) is met, (refl, h))

    -- at a leaf of another key
    pub sought_other_leaf : {k : K} {v : V} {s : Step K V} (m : ℕ) → Stepped ns least at s → s ≡ Leaf k v → split κ x k ≡ m → m < κ.PLACES
        → (u : Tree K V) → Grows κ ns least at u → Sought κ ns x (Ok (Open (record { at = at; place = m }))) u
    sought_other_leaf {k} {v} m met is e h =
        grown_leaf κ ns least at (Sought κ ns x (Ok (Open (record { at = at; place = m })))) met is ((subst (Stepped ns least at) is met).0, h, (refl, e))

    -- at a branch whose prefix the key does not share
    pub sought_above : {p : ℕ} {k : K} {left_side right_side : ℕ} {s : Step K V} (m : ℕ) → Stepped ns least at s → s ≡ Branch p k left_side right_side → split κ x k ≡ m → m < p
        → (u : Tree K V) → Grows κ ns least at u → Sought κ ns x (Ok (Open (record { at = at; place = m }))) u
    sought_above m met is e h =
        grown_branch κ ns least at (Sought κ ns x (Ok (Open (record { at = at; place = m })))) met is
        (λ l r hl hr o. ((subst (Stepped ns least at) is met).0.0, omega (arith, o.1), here (refl, e, h)))
