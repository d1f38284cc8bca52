-- The steps of a union, from what the code's parts say of the nodes that they read and wrote.
use Rattle.std.proofs.Common.{◌≡◌, ℕ, ◌+◌, ◌≤◌, cond, List, [], ◌∷◌, length, set, sym, refl, ap, ◌∙◌, subst, ⊎_elim, arith}
use Rattle.keys.specs.Model.{KeyModel, KeyLaws}
use Rattle.trees.specs.Tree.{Tree, leaf, branch, root, key}
use Rattle.trees.specs.Order.{Agree, Ordered, place}
use Rattle.trees.proofs.Order.{place_within}
use Rattle.trees.proofs.Sizes.{size_pos}
use Rattle.pool.specs.declared.node.Node.{Node}
use Rattle.pool.specs.declared.node.Node.TheVariants.{Free, Leaf, Branch}
use Rattle.pool.specs.declared.account.Account.{Account}
use Rattle.pool.specs.Slice.{At, Stands, Chain}
use Rattle.pool.proofs.Reading.{one_node}
use Rattle.unions.specs.declared.job.Job.{Job}
use Rattle.unions.specs.declared.step.Step.{Step}
use Rattle.unions.specs.declared.meeting.Meeting.TheVariants.{Apart, Into, Under, Level}
use Rattle.unions.specs.Work.{Item, Ready, Outcome, Work}
use Rattle.unions.specs.Meets.{Shows, Vacant, Meets}
use Rattle.unions.specs.Steps.{ahead, Parted, Sided, Swapped, Unbranched, Leveled, Alike, Unleveled}
use Rattle.unions.proofs.Working.{work_none}
use Rattle.unions.proofs.Facing.{shown, not_vacant}
use Rattle.unions.proofs.Parting.{parted_trees}
use Rattle.unions.proofs.Siding.{into_trees, under_trees}
use Rattle.unions.proofs.Leveling.{level_trees, leaf_trees}

-- the second key's bits agree with the first's below p, whatever names the keys have
agree_as : {K : Type 0} (κ : KeyModel K) (p p' : ℕ) (j j' k k' : K) → p' ≡ p → j' ≡ j → k' ≡ k → Agree κ p j k → Agree κ p' j' k'
agree_as κ p p' j j' k k' ep ej ek a z l = ap (λ w. κ.bit w z) ej ∙ a z (omega arith) ∙ ap (λ w. κ.bit w z) (sym ek)

module _ {K V : Type 0} (κ : KeyModel K) (join : V → V → V) (ns : List (Node K V)) (account : Account) (job : Job) (rest : List Job) (turns : ℕ) (end : List (Node K V)) (last : Account) where
  -- a step that failed at a free node was about no trees
  pub first_vacant : (n : Node K V) → At ns job.into n → Vacant n → Work κ join ns account (turns + 1) (job ∷ rest) end last
  first_vacant n at v = work_none κ join ns account (turns + 1) job rest end last
      (λ t u least is chain ready. not_vacant κ ns job.into n at t ready.fits.0.into_stands ready.fits.0.into_root v)

  pub second_vacant : (n : Node K V) → At ns job.from n → Vacant n → Work κ join ns account (turns + 1) (job ∷ rest) end last
  second_vacant n at v = work_none κ join ns account (turns + 1) job rest end last
      (λ t u least is chain ready. not_vacant κ ns job.from n at u ready.fits.0.add_stands ready.fits.0.add_root v)

  -- so was one that found no node free
  pub none_free : ((i : ℕ) (is : List ℕ) → Chain ns account.head (i ∷ is) → length (i ∷ is) ≡ account.free → ⊥) → Work κ join ns account (turns + 1) (job ∷ rest) end last
  none_free bad = work_none κ join ns account (turns + 1) job rest end last (λ t u least is chain ready. of chain ready.room ready.linked ready.counted) where
    of : (chain : List ℕ) → length (job ∷ rest) ≤ account.free → Chain ns account.head chain → length chain ≡ account.free → ⊥
    of [] room linked counted = omega arith
    of (i ∷ is) room linked counted = bad i is linked counted

  module _ (first second : Node K V) (p q : ℕ) (k j : K) (at : At ns job.into first) (at' : At ns job.from second) (shows : Shows κ first p k) (shows' : Shows κ second q j) where
    -- whatever trees the job is about, they have the places and keys that their first nodes show
    of_trees : ((t u : Tree K V) (least : ℕ) (is : List (Item K V)) (chain : List ℕ) → Ready κ ns account (turns + 1) (job ∷ rest) (record { into = t; add = u; least = least } ∷ is) chain
        → place κ t ≡ p → key t ≡ k → place κ u ≡ q → key u ≡ j → Outcome κ join ns account (record { into = t; add = u; least = least } ∷ is) chain end last)
        → Work κ join ns account (turns + 1) (job ∷ rest) end last
    of_trees go [] chain ready = absurd ready.fits
    of_trees go (i ∷ is) chain ready =
        let a = shown κ ns job.into first at i.into p k ready.fits.0.into_stands ready.fits.0.into_root shows in
        let b = shown κ ns job.from second at' i.add q j ready.fits.0.add_stands ready.fits.0.add_root shows' in
        go i.into i.add i.least is chain ready a.0 a.1 b.0 b.1

    pub step_apart : (m : ℕ) (ns' : List (Node K V)) (after : Account) → Meets κ p k q j (Apart m) → Parted κ ns ns' account job first m k after
        → Work κ join ns' after turns rest end last → Work κ join ns account (turns + 1) (job ∷ rest) end last
    step_apart m ns' after meets parted next = of_trees (λ t u least is chain ready ep ek eq ej.
        parted_trees κ join ns ns' account after turns job first m rest end last t u least is at (omega (arith, meets.0)) (omega (arith, meets.1))
        (agree_as κ m m j (key u) k (key t) refl ej ek meets.2)
        (λ e. meets.3 (ap (λ w. κ.bit w m) (sym ej) ∙ e ∙ ap (λ w. κ.bit w m) ek)) chain ready
        (subst (λ (x : K). Parted κ ns ns' account job first m x after) (sym ek) parted) next)

    pub step_level_failed : KeyLaws κ → Meets κ p k q j Level → Unleveled ns account job first second → Work κ join ns account (turns + 1) (job ∷ rest) end last
    step_level_failed law meets failed = of_trees (λ t u least is chain ready ep ek eq ej.
        absurd (⊎_elim
        (λ unlike. of first second unlike at at' shows shows' t u least ready.fits.0.into_stands ready.fits.0.add_stands ready.fits.0.into_root ready.fits.0.add_root
        ready.fits.0.into_ordered ready.fits.0.add_ordered)
        (⊎_elim (λ past. omega (arith, at'.0)) (λ full. omega (arith, ready.few, ready.counted, size_pos t))) failed)) where
          of : (n n' : Node K V) → (Alike n n' → ⊥) → At ns job.into n → At ns job.from n' → Shows κ n p k → Shows κ n' q j → (t u : Tree K V) (least : ℕ) → Stands ns t → Stands ns u
              → root t ≡ job.into → root u ≡ job.from → Ordered κ least t → Ordered κ least u → ⊥
          of (Free n) n' unlike a a' s s' t u least st su et eu ot ou = s
          of (Leaf k₁ v) (Free n') unlike a a' s s' t u least st su et eu ot ou = s'
          of (Branch p₁ k₁ l r) (Free n') unlike a a' s s' t u least st su et eu ot ou = s'
          of (Leaf k₁ v) (Leaf k₂ w) unlike a a' s s' t u least st su et eu ot ou = unlike tt
          of (Branch p₁ k₁ l r) (Branch p₂ k₂ l' r') unlike a a' s s' t u least st su et eu ot ou = unlike tt
          of (Leaf k₁ v) (Branch p₂ k₂ l' r') unlike a a' s s' t (leaf i k₃ w) least st su et eu ot ou =
              let e = one_node ns i job.from _ _ eu su a' in cc
          of (Leaf k₁ v) (Branch p₂ k₂ l' r') unlike a a' s s' t (branch i p₃ k₃ l₃ r₃) least st su et eu ot ou =
              let e = one_node ns i job.from _ _ eu su.0 a' in let ep : p₃ ≡ p₂ = cc in omega (arith, s.0, s'.0, meets.0, ou.1)
          of (Branch p₁ k₁ l r) (Leaf k₂ w) unlike a a' s s' (leaf i k₃ v) u least st su et eu ot ou =
              let e = one_node ns i job.into _ _ et st a in cc
          of (Branch p₁ k₁ l r) (Leaf k₂ w) unlike a a' s s' (branch i p₃ k₃ l₃ r₃) u least st su et eu ot ou =
              let e = one_node ns i job.into _ _ et st.0 a in let ep : p₃ ≡ p₁ = cc in omega (arith, s.0, s'.0, meets.0, ot.1)

  -- a tree that others go below is a branch
  pub step_into_failed : (first second : Node K V) (p q : ℕ) (k j : K) → At ns job.into first → At ns job.from second → Shows κ first p k → Shows κ second q j
      → Meets κ p k q j Into → Unbranched first → Work κ join ns account (turns + 1) (job ∷ rest) end last
  step_into_failed (Free n) second p q k j at at' shows shows' meets failed = absurd shows
  step_into_failed (Branch p₁ k₁ l r) second p q k j at at' shows shows' meets failed = absurd failed
  step_into_failed (Leaf k₁ v) second p q k j at at' shows shows' meets failed =
      of_trees (Leaf k₁ v) second p q k j at at' shows shows'
      (λ t u least is chain ready ep ek eq ej. absurd (omega (arith, shows.0, meets.0, place_within κ least u ready.fits.0.add_ordered)))

  pub step_under_failed : (first second : Node K V) (p q : ℕ) (k j : K) → At ns job.into first → At ns job.from second → Shows κ first p k → Shows κ second q j
      → Meets κ p k q j Under → Unbranched second → Work κ join ns account (turns + 1) (job ∷ rest) end last
  step_under_failed first (Free n) p q k j at at' shows shows' meets failed = absurd shows'
  step_under_failed first (Branch p₁ k₁ l r) p q k j at at' shows shows' meets failed = absurd failed
  step_under_failed first (Leaf k₁ v) p q k j at at' shows shows' meets failed =
      of_trees first (Leaf k₁ v) p q k j at at' shows shows'
      (λ t u least is chain ready ep ek eq ej. absurd (omega (arith, shows'.0, meets.0, place_within κ least t ready.fits.0.into_ordered)))

  pub step_into : (first second : Node K V) (p q : ℕ) (k j : K) (next : Job) → At ns job.into first → At ns job.from second → Shows κ first p k → Shows κ second q j
      → Meets κ p k q j Into → Sided κ first j job next → Work κ join ns account turns (next ∷ rest) end last → Work κ join ns account (turns + 1) (job ∷ rest) end last
  step_into (Free n) second p q k j next at at' shows shows' meets sided work = absurd sided
  step_into (Leaf k₁ v) second p q k j next at at' shows shows' meets sided work = absurd sided
  step_into (Branch p₁ k₁ left right) second p q k j next at at' shows shows' meets sided work =
      of_trees (Branch p₁ k₁ left right) second p q k j at at' shows shows'
      (λ t u least is chain ready ep ek eq ej. into_trees κ join ns account turns job rest end last least is chain p₁ k₁ left right t u at ready (omega (arith, meets.0))
      (agree_as κ p (place κ t) j (key u) k (key t) ep ej ek meets.1)
      (subst (λ (x : K). Work κ join ns account turns (record { into = cond (κ.bit x p₁) right left; from = job.from } ∷ rest) end last) (sym ej)
      (subst (λ (n : Job). Work κ join ns account turns (n ∷ rest) end last) sided work)))

  pub step_under : (first second : Node K V) (p q : ℕ) (k j : K) (next : Job) (ns' : List (Node K V)) → At ns job.into first → At ns job.from second → Shows κ first p k → Shows κ second q j
      → Meets κ p k q j Under → Swapped κ ns ns' job first second k next → Work κ join ns' account turns (next ∷ rest) end last → Work κ join ns account (turns + 1) (job ∷ rest) end last
  step_under first (Free n) p q k j next ns' at at' shows shows' meets swapped work = absurd swapped
  step_under first (Leaf k₁ v) p q k j next ns' at at' shows shows' meets swapped work = absurd swapped
  step_under first (Branch p₁ k₁ left right) p q k j next ns' at at' shows shows' meets swapped work =
      of_trees first (Branch p₁ k₁ left right) p q k j at at' shows shows'
      (λ t u least is chain ready ep ek eq ej. under_trees κ join ns ns' account turns job first rest end last least is chain at p₁ k₁ left right t u at' ready (omega (arith, meets.0))
      (agree_as κ q (place κ u) j (key u) k (key t) eq ej ek meets.1)
      (swapped.0 at.0 at'.0
      ∙ ap (λ (x : K). set (set ns job.from first) job.into (Branch p₁ k₁ (cond (κ.bit x p₁) left job.from) (cond (κ.bit x p₁) job.from right))) (sym ek))
      (subst (λ (x : K). Work κ join ns' account turns (record { into = job.from; from = cond (κ.bit x p₁) right left } ∷ rest) end last) (sym ek)
      (subst (λ (n : Job). Work κ join ns' account turns (n ∷ rest) end last) swapped.1 work)))

  pub step_leveled : KeyLaws κ → (first second : Node K V) (p q : ℕ) (k j : K) (ns' : List (Node K V)) (after : Account) (step : Step) → At ns job.into first → At ns job.from second
      → Shows κ first p k → Shows κ second q j → Meets κ p k q j Level → Leveled join ns ns' account job first second after step
      → Work κ join ns' after turns (ahead step rest) end last → Work κ join ns account (turns + 1) (job ∷ rest) end last
  step_leveled law (Free n) second p q k j ns' after step at at' shows shows' meets leveled work = absurd leveled
  step_leveled law (Leaf k₁ v) (Free n) p q k j ns' after step at at' shows shows' meets leveled work = absurd leveled
  step_leveled law (Leaf k₁ v) (Branch q₁ k₂ left right) p q k j ns' after step at at' shows shows' meets leveled work = absurd leveled
  step_leveled law (Branch p₁ k₁ left right) (Free n) p q k j ns' after step at at' shows shows' meets leveled work = absurd leveled
  step_leveled law (Branch p₁ k₁ left right) (Leaf k₂ w) p q k j ns' after step at at' shows shows' meets leveled work = absurd leveled
  step_leveled law (Leaf k₁ v) (Leaf k₂ w) p q k j ns' after step at at' shows shows' meets leveled work =
      of_trees (Leaf k₁ v) (Leaf k₂ w) p q k j at at' shows shows'
      (λ t u least is chain ready ep ek eq ej. leaf_trees κ law join ns ns' account after turns job rest end last least is chain k₁ k₂ v w at at' (leveled.0 at.0) t u ready
      (agree_as κ p (place κ t) j (key u) k (key t) ep ej ek meets.1)
      (subst (λ (s : Step). Work κ join ns' after turns (ahead s rest) end last) leveled.1 work))
  step_leveled law (Branch p₁ k₁ left right) (Branch q₁ k₂ left' right') p q k j ns' after step at at' shows shows' meets leveled work =
      of_trees (Branch p₁ k₁ left right) (Branch q₁ k₂ left' right') p q k j at at' shows shows'
      (λ t u least is chain ready ep ek eq ej. level_trees κ join ns ns' account after turns job rest end last least is chain leveled.0 p₁ q₁ k₁ k₂ left right left' right' t u at at' ready
      (ep ∙ meets.0 ∙ sym eq) (agree_as κ p (place κ t) j (key u) k (key t) ep ej ek meets.1)
      (subst (λ (s : Step). Work κ join ns' after turns (ahead s rest) end last) leveled.1 work))
