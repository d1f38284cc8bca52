-- The walk towards the first entry after a bound narrows from tree to tree, and keeps what comes later.
use Rattle.std.proofs.Common.{◌≡◌, ℕ, ◌+◌, ◌≤◌, Bool, true, false, cond, List, Some, None, Ok, Option, Result, sym, refl, ap, ◌∙◌, subst}
use Rattle.std.specs.Option.{option_or}
use Rattle.keys.specs.Model.{KeyModel, Precedes, number}
use Rattle.keys.specs.Split.{split}
use Rattle.trees.specs.Tree.{Tree, branch, entries, entries_if_any, first_entry}
use Rattle.trees.specs.Find.{first_after}
use Rattle.trees.proofs.Lookup.{or_none}
use Rattle.trees.proofs.Next.{first_after_no_bound, first_after_leaf, first_after_other_leaf, first_after_all, first_after_nothing, first_after_left, first_after_right}
use Rattle.pool.specs.Walks.{Rooted}
use Rattle.pool.specs.declared.node.Node.{Node}
use Rattle.pool.specs.declared.outoforder.OutOfOrder.{OutOfOrder}
use Rattle.walks.specs.declared.step.Step.{Step}
use Rattle.walks.specs.declared.step.Step.TheVariants.{Leaf, Branch}
use Rattle.walks.specs.Leads.{Stepped, NoneGrows, Grows, FindsAfter}
use Rattle.walks.specs.Turns.{Turns}
use Rattle.walks.specs.declared.turn.Turn.TheVariants.{After, Before, Along}
use Rattle.walks.proofs.Growing.{grown_leaf, grown_branch, grows_rooted}

or_stays : {A : Type 0} (o back : Option A) (a : A) → option_or (option_or o (Some a)) back ≡ option_or o (Some a)
or_stays None back a = refl
or_stays (Some b) back a = refl

module _ {K V : Type 0} (κ : KeyModel K) (ns : List (Node K V)) (bound : K) where
  -- a tree at `at` and a map at `later` that have, one after the other, what t has after the bound
  pub record SplitOff (t : Tree K V) (least at : ℕ) (later : Option ℕ) : Type 0 where
    pub rest : Tree K V
    pub grows : Grows κ ns least at rest
    pub others : Option (Tree K V)
    pub rooted : Rooted κ ns later others
    pub same : first_after κ (Some bound) (entries t) ≡ option_or (first_after κ (Some bound) (entries rest)) (first_after κ None (entries_if_any others))

  -- the walk to the first entry after the bound may go on at `at`, with `later` to fall back on
  abbrev pub Onward : ℕ → ℕ → ℕ → Option ℕ → Type 0
  Onward top least at later = (t : Tree K V) → Grows κ ns 0 top t → SplitOff t least at later

  pub onward_begins : (top : ℕ) → Onward top 0 top None
  onward_begins top t h = record {
    rest = t;
    grows = h;
    others = None;
    rooted = record { rooted = refl; stands = tt; ordered = tt };
    same = sym (or_none (first_after κ (Some bound) (entries t)));
  }

  module _ (top least at : ℕ) (later : Option ℕ) (onward : Onward top least at later) where
    pub onward_none : NoneGrows κ ns least at → NoneGrows κ ns 0 top
    onward_none none t h = let n = onward t h in none n.rest n.grows

    -- the tree that is left has nothing after the bound
    abbrev pub NothingAfter : Type 0
    NothingAfter = (u : Tree K V) → Grows κ ns least at u → first_after κ (Some bound) (entries u) ≡ None

    pub leaf_nothing : {k : K} {v : V} {s : Step K V} → Stepped ns least at s → s ≡ Leaf k v → number κ k ≤ number κ bound → NothingAfter
    leaf_nothing {k} {v} a is h =
        grown_leaf κ ns least at (λ (u : Tree K V). first_after κ (Some bound) (entries u) ≡ None) a is (first_after_other_leaf κ bound at k v h)

    pub branch_nothing : {p : ℕ} {k : K} {left right : ℕ} {s : Step K V} → Stepped ns least at s → s ≡ Branch p k left right
        → Turns κ bound k p Before → NothingAfter
    branch_nothing {p} {k} a is turn =
        grown_branch κ ns least at (λ (u : Tree K V). first_after κ (Some bound) (entries u) ≡ None) a is
        (λ l r hl hr o. first_after_nothing κ least (split κ bound k) bound (branch at p k l r) o refl turn.0 turn.1)

    -- then what comes later is the answer
    pub falls_back : (r : Result (Option (K × V)) OutOfOrder)
        → ((map : Option (Tree K V)) → Rooted κ ns later map → r ≡ Ok (first_after κ None (entries_if_any map)))
        → NothingAfter → FindsAfter κ ns bound top r
    falls_back r answers nothing t h =
        let n = onward t h in
        answers n.others n.rooted
        ∙ ap Ok (sym (n.same ∙ ap (λ o. option_or o (first_after κ None (entries_if_any n.others))) (nothing n.rest n.grows)))

    -- a leaf after the bound is the answer
    pub leaf_after : {k : K} {v : V} {s : Step K V} → Stepped ns least at s → s ≡ Leaf k v → Precedes κ bound k → FindsAfter κ ns bound top (Ok (Some (k, v)))
    leaf_after {k} {v} a is less t h =
        let n = onward t h in
        let e = grown_leaf κ ns least at (λ (u : Tree K V). first_after κ (Some bound) (entries u) ≡ Some (k, v)) a is (first_after_leaf κ bound at k v less) n.rest n.grows in
        ap Ok (sym (n.same ∙ ap (λ o. option_or o (first_after κ None (entries_if_any n.others))) e))

    -- of a branch that is all after the bound the first entry is the answer
    pub branch_after : {p : ℕ} {k : K} {left right : ℕ} {s : Step K V} → Stepped ns least at s → s ≡ Branch p k left right → Turns κ bound k p After
        → (r : Result (Option (K × V)) OutOfOrder)
        → ((map : Option (Tree K V)) → Rooted κ ns (Some left) map → r ≡ Ok (first_after κ None (entries_if_any map)))
        → FindsAfter κ ns bound top r
    branch_after {p} {k} {left} a is turn r answers t h =
        let n = onward t h in
        let back = first_after κ None (entries_if_any n.others) in
        grown_branch κ ns least at
        (λ (u : Tree K V). first_after κ (Some bound) (entries t) ≡ option_or (first_after κ (Some bound) (entries u)) back → r ≡ Ok (first_after κ (Some bound) (entries t)))
        a is
        (λ l m hl hm o same.
        answers (Some l) (grows_rooted κ ns (p + 1) left l hl)
        ∙ ap Ok (first_after_no_bound κ l
        ∙ sym (same ∙ ap (λ z. option_or z back) (first_after_all κ least (split κ bound k) bound (branch at p k l m) o refl turn.0 turn.1))))
        n.rest n.grows n.same

    -- below a branch whose prefix the bound shares, the walk goes on at the side that its bit names
    pub onward_along : {p : ℕ} {k : K} {left right : ℕ} {s : Step K V} (b : Bool) (next : ℕ × Option ℕ) → Stepped ns least at s → s ≡ Branch p k left right
        → Turns κ bound k p (Along b) → next ≡ cond b (right, later) (left, Some right) → Onward top (p + 1) next.0 next.1
    onward_along {p} {k} {left} {right} b next a is turn e =
        subst Next (sym e) (go b turn.1)
      where
        Next : ℕ × Option ℕ → Type 0
        Next z = Onward top (p + 1) z.0 z.1

        go : (b : Bool) → κ.bit bound p ≡ b → Next (cond b (right, later) (left, Some right))
        go true f t h =
            let n = onward t h in
            let back = first_after κ None (entries_if_any n.others) in
            grown_branch κ ns least at
            (λ (u : Tree K V). first_after κ (Some bound) (entries t) ≡ option_or (first_after κ (Some bound) (entries u)) back → SplitOff t (p + 1) right later)
            a is
            (λ l r hl hr o same. record {
              rest = r;
              grows = hr;
              others = n.others;
              rooted = n.rooted;
              same = same ∙ ap (λ z. option_or z back) (first_after_right κ least at p bound k l r o (turn.0 o.1) f);
            })
            n.rest n.grows n.same
        go false f t h =
            let n = onward t h in
            let back = first_after κ None (entries_if_any n.others) in
            grown_branch κ ns least at
            (λ (u : Tree K V). first_after κ (Some bound) (entries t) ≡ option_or (first_after κ (Some bound) (entries u)) back → SplitOff t (p + 1) left (Some right))
            a is
            (λ l r hl hr o same. record {
              rest = l;
              grows = hl;
              others = Some r;
              rooted = grows_rooted κ ns (p + 1) right r hr;
              same = same ∙ ap (λ z. option_or z back) (first_after_left κ least at p bound k l r o (turn.0 o.1) f)
                  ∙ or_stays (first_after κ (Some bound) (entries l)) back (first_entry r)
                  ∙ ap (option_or (first_after κ (Some bound) (entries l))) (sym (first_after_no_bound κ r));
            })
            n.rest n.grows n.same
