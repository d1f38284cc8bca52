-- The work of a union: lists of items and trees, and what every step must show.
use Rattle.std.proofs.Common.{◌≡◌, ℕ, ◌+◌, ◌≤◌, List, [], ◌∷◌, ◌++◌, length, sym, refl, ap, ◌∙◌, subst, arith}
use Rattle.keys.specs.Model.{KeyModel, KeyLaws}
use Rattle.trees.specs.Tree.{Tree, size, uses, times}
use Rattle.trees.specs.Union.{Union}
use Rattle.trees.proofs.Sizes.{size_pos}
use Rattle.pool.specs.declared.node.Node.{Node}
use Rattle.pool.specs.declared.account.Account.{Account}
use Rattle.pool.specs.Slice.{At, Stands, Chain}
use Rattle.pool.proofs.After.{stands_kept}
use Rattle.unions.specs.declared.job.Job.{Job}
use Rattle.unions.specs.Work.{Item, Fits, item_uses, weight, tree_uses, Each, Ready, Outcome, Work}

module _ {K V : Type 0} where
  -- jobs are about the same trees as long as those trees' nodes are kept
  pub fits_kept : (κ : KeyModel K) (ns ns' : List (Node K V)) (js : List Job) (is : List (Item K V))
      → ((j : ℕ) → 1 ≤ item_uses j is → (x : Node K V) → At ns j x → At ns' j x) → Fits κ ns js is → Fits κ ns' js is
  fits_kept κ ns ns' [] [] keep f = tt
  fits_kept κ ns ns' [] (i ∷ is) keep f = f
  fits_kept κ ns ns' (j ∷ js) [] keep f = f
  fits_kept κ ns ns' (j ∷ js) (i ∷ is) keep f =
      let g = f.0 in (
        record {
          into_root = g.into_root;
          add_root = g.add_root;
          into_stands = stands_kept ns ns' i.into (λ z l. keep z (omega arith)) g.into_stands;
          add_stands = stands_kept ns ns' i.add (λ z l. keep z (omega arith)) g.add_stands;
          into_ordered = g.into_ordered;
          add_ordered = g.add_ordered;
          shared = g.shared;
          deep = g.deep;
          bounded = g.bounded;
        },
        fits_kept κ ns ns' js is (λ z l. keep z (omega arith)) f.1,
      )

  item_uses_append : (j : ℕ) (is us : List (Item K V)) → item_uses j (is ++ us) ≡ item_uses j is + item_uses j us
  item_uses_append j [] us = omega arith
  item_uses_append j (i ∷ is) us = omega (arith, item_uses_append j is us)

  tree_uses_append : (j : ℕ) (ts us : List (Tree K V)) → tree_uses j (ts ++ us) ≡ tree_uses j ts + tree_uses j us
  tree_uses_append j [] us = omega arith
  tree_uses_append j (t ∷ ts) us = omega (arith, tree_uses_append j ts us)

  weight_append : (is us : List (Item K V)) → weight (is ++ us) ≡ weight is + weight us
  weight_append [] us = omega arith
  weight_append (i ∷ is) us = omega (arith, weight_append is us)

  -- what came out of two lists of items
  each_split : (κ : KeyModel K) (join : V → V → V) (ns : List (Node K V)) (is us : List (Item K V)) (ts : List (Tree K V)) → Each κ join ns (is ++ us) ts
      → (qs : List (Tree K V)) × (rs : List (Tree K V)) × (ts ≡ qs ++ rs) × Each κ join ns is qs × Each κ join ns us rs
  each_split κ join ns [] us ts h = ([], ts, refl, tt, h)
  each_split κ join ns (i ∷ is) us [] h = absurd h
  each_split κ join ns (i ∷ is) us (t ∷ ts) h =
      let (qs, rs, e, a, b) = each_split κ join ns is us ts h.2 in (t ∷ qs, rs, ap (λ z. t ∷ z) e, (h.0, h.1, a), b)

  pub only_none : (κ : KeyModel K) (join : V → V → V) (ns : List (Node K V)) (ts : List (Tree K V)) → Each κ join ns [] ts → ts ≡ []
  only_none κ join ns [] h = refl
  only_none κ join ns (t ∷ ts) h = absurd h

  pub only_one : (κ : KeyModel K) (join : V → V → V) (ns : List (Node K V)) (i : Item K V) (ts : List (Tree K V)) → Each κ join ns (i ∷ []) ts
      → (q : Tree K V) × (ts ≡ q ∷ []) × Union κ join i.least i.into i.add q × Stands ns q
  only_one κ join ns i [] h = absurd h
  only_one κ join ns i (q ∷ []) h = (q, refl, h.0, h.1)
  only_one κ join ns i (q ∷ (s ∷ ts)) h = absurd h.2

  pub only_two : (κ : KeyModel K) (join : V → V → V) (ns : List (Node K V)) (i j : Item K V) (ts : List (Tree K V)) → Each κ join ns (i ∷ (j ∷ [])) ts
      → (q s : Tree K V) × (ts ≡ q ∷ (s ∷ [])) × Union κ join i.least i.into i.add q × Stands ns q × Union κ join j.least j.into j.add s × Stands ns s
  only_two κ join ns i j [] h = absurd h
  only_two κ join ns i j (q ∷ []) h = absurd h.2
  only_two κ join ns i j (q ∷ (s ∷ [])) h = (q, s, refl, h.0, h.1, h.2.0, h.2.1)
  only_two κ join ns i j (q ∷ (s ∷ (r ∷ ts))) h = absurd h.2.2

-- A step writes ns' and puts the jobs `more` in place of the first. Its nodes go to the items of those jobs, to the chain, or
-- are held back; what the items come to and the nodes held back make the union of the first job's trees.
module _ {K V : Type 0} (κ : KeyModel K) (join : V → V → V) (ns : List (Node K V)) (account : Account) (turns : ℕ) (job : Job) (rest : List Job) (end : List (Node K V)) (last : Account)
    (t u : Tree K V) (least : ℕ) (is : List (Item K V)) (chain : List ℕ) (ready : Ready κ ns account (turns + 1) (job ∷ rest) (record { into = t; add = u; least = least } ∷ is) chain) where
  -- what the trees of the first job and the chain count
  pub mine : ℕ → ℕ
  mine j = uses j t + uses j u + times j chain

  pub record Advance (ns' : List (Node K V)) (after : Account) (items : List (Item K V)) (more : List Job) (chain' : List ℕ) (held : ℕ → ℕ) : Type 0 where
    pub changed : (j : ℕ) → uses j t + uses j u + times j chain ≡ 0 → (x : Node K V) → At ns j x → At ns' j x
    pub balance : (j : ℕ) → item_uses j items + times j chain' + held j ≡ uses j t + uses j u + times j chain
    pub fits : Fits κ ns' rest is → Fits κ ns' (more ++ rest) (items ++ is)
    pub linked : Chain ns' after.head chain'
    pub counted : length chain' ≡ after.free
    pub capacity : after.capacity ≡ account.capacity
    pub room : length (more ++ rest) ≤ after.free
    pub lighter : weight items + 1 ≤ size t + size u
    pub few : weight items + length chain' ≤ size t + size u + length chain
    pub made : (ts : List (Tree K V)) → Each κ join end items ts → ((j : ℕ) → 1 ≤ held j → (x : Node K V) → At ns' j x → At end j x)
        → (r : Tree K V) × Union κ join least t u r × Stands end r × ((j : ℕ) → uses j r ≡ tree_uses j ts + held j)

  pub advance : (ns' : List (Node K V)) (after : Account) (items : List (Item K V)) (more : List Job) (chain' : List ℕ) (held : ℕ → ℕ) → Advance ns' after items more chain' held
      → Work κ join ns' after turns (more ++ rest) end last → Outcome κ join ns account (record { into = t; add = u; least = least } ∷ is) chain end last
  advance ns' after items more chain' held a next =
      let ta : (j : ℕ) → item_uses j (items ++ is) ≡ item_uses j items + item_uses j is = λ j. item_uses_append j items is in
      let wa = weight_append items is in
      let ready' : Ready κ ns' after turns (more ++ rest) (items ++ is) chain' = record {
        fits = a.fits (fits_kept κ ns ns' rest is (λ j h x. a.changed j (omega (arith, ready.once j)) x) ready.fits.1);
        linked = a.linked;
        counted = a.counted;
        room = a.room;
        once = λ j. omega (arith, ready.once j, a.balance j, ta j);
        light = omega (arith, ready.light, wa, a.lighter);
        few = omega (arith, ready.few, wa, a.few, a.capacity);
      } in
      let r = next (items ++ is) chain' ready' in
      let (qs, rs, et, e1, er) = each_split κ join end items is r.trees r.each in
      let tl : (j : ℕ) → tree_uses j r.trees ≡ tree_uses j qs + tree_uses j rs = λ j. ap (tree_uses j) et ∙ tree_uses_append j qs rs in
      let (b, un, st, us) = a.made qs e1 (λ j h x at. r.kept j (omega (arith, ready.once j, a.balance j, ta j)) x at) in
      record {
        trees = b ∷ rs;
        chain = r.chain;
        each = (un, st, er);
        linked = r.linked;
        counted = r.counted;
        capacity = r.capacity ∙ a.capacity;
        used = λ j. omega (arith, r.used j, tl j, us j, a.balance j, ta j);
        kept = λ j h x at. r.kept j (omega (arith, a.balance j, ta j)) x (a.changed j (omega arith) x at);
      }

module _ {K V : Type 0} (κ : KeyModel K) (join : V → V → V) (ns : List (Node K V)) (account : Account) where
  -- nothing is left to do
  pub work_done : (turns : ℕ) → Work κ join ns account turns [] ns account
  work_done turns [] chain ready = record {
    trees = [];
    chain = chain;
    each = tt;
    linked = ready.linked;
    counted = ready.counted;
    capacity = refl;
    used = λ j. refl;
    kept = λ j h x at. at;
  }
  work_done turns (i ∷ is) chain ready = absurd ready.fits

  module _ (turns : ℕ) (job : Job) (rest : List Job) (end : List (Node K V)) (last : Account) where
    -- a job that is about no trees comes to anything
    pub work_none : ((t u : Tree K V) (least : ℕ) (is : List (Item K V)) (chain : List ℕ)
        → Ready κ ns account turns (job ∷ rest) (record { into = t; add = u; least = least } ∷ is) chain → ⊥) → Work κ join ns account turns (job ∷ rest) end last
    work_none bad [] chain ready = absurd ready.fits
    work_none bad (i ∷ is) chain ready = absurd (bad i.into i.add i.least is chain ready)

    -- turns never run out
    pub work_out : turns ≤ 0 → Work κ join ns account turns (job ∷ rest) end last
    work_out none = work_none (λ t u least is chain ready. omega (arith, size_pos t, ready.light))

  -- nor does the stack
  pub work_deep : KeyLaws κ → (turns : ℕ) (job later : Job) (rest : List Job) (end : List (Node K V)) (last : Account) → 64 ≤ length rest
      → Work κ join ns account turns (job ∷ (later ∷ rest)) end last
  work_deep law turns job later rest end last deep =
      work_none turns job (later ∷ rest) end last (λ t u least is chain ready. omega (arith, ready.fits.0.deep, ready.fits.0.bounded, law.few))

-- a turn of the loop, from what a step says
module _ {K V : Type 0} (κ : KeyModel K) (join : V → V → V) (ns : List (Node K V)) (account : Account) (turns left : ℕ) (job : Job) (rest : List Job) (end : List (Node K V)) (last : Account)
    (fewer : left + 1 ≡ turns) where
  pub whole_turns : Work κ join ns account (left + 1) (job ∷ rest) end last → Work κ join ns account turns (job ∷ rest) end last
  whole_turns work = subst (λ (n : ℕ). Work κ join ns account n (job ∷ rest) end last) fewer work

  pub turned : (ns' : List (Node K V)) (after : Account) (jobs jobs' : List Job)
      → (Work κ join ns' after left jobs end last → Work κ join ns account (left + 1) (job ∷ rest) end last) → jobs ≡ jobs'
      → Work κ join ns' after left jobs' end last → Work κ join ns account turns (job ∷ rest) end last
  turned ns' after jobs jobs' step same work =
      whole_turns (step (subst (λ (js : List Job). Work κ join ns' after left js end last) (sym same) work))
