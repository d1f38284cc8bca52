-- The work of a union: the jobs that are still to be done, the trees that they are about, and what they come to.
use Rattle.std.specs.Prelude.{◌≡◌, ℕ, ◌+◌, ◌≤◌, List, [], ◌∷◌, length}
use Rattle.keys.specs.Model.{KeyModel}
use Rattle.trees.specs.Tree.{Tree, root, size, uses, times, AllKeys}
use Rattle.trees.specs.Order.{Agree, Ordered}
use Rattle.trees.specs.Union.{Union}
use Rattle.pool.specs.declared.node.Node.{Node}
use Rattle.pool.specs.declared.account.Account.{Account}
use Rattle.pool.specs.Slice.{At, Stands, Chain}
use Rattle.unions.specs.declared.job.Job.{Job}

-- two trees to unite, the second into the first, of keys that agree in the places below `least`
pub record Item (K V : Type 0) : Type 0 where
  pub into : Tree K V
  pub add : Tree K V
  pub least : ℕ

-- a job is about these two trees; `depth` jobs wait below it
pub record Fit {K V : Type 0} (κ : KeyModel K) (ns : List (Node K V)) (job : Job) (item : Item K V) (depth : ℕ) : Type 0 where
  pub into_root : root item.into ≡ job.into
  pub add_root : root item.add ≡ job.from
  pub into_stands : Stands ns item.into
  pub add_stands : Stands ns item.add
  pub into_ordered : Ordered κ item.least item.into
  pub add_ordered : Ordered κ item.least item.add
  pub shared : (c : K) × AllKeys (λ j. Agree κ item.least j c) item.into × AllKeys (λ j. Agree κ item.least j c) item.add
  pub deep : depth ≤ item.least
  pub bounded : item.least ≤ κ.PLACES

abbrev pub Fits : {K V : Type 0} → KeyModel K → List (Node K V) → List Job → List (Item K V) → Type 0
Fits κ ns [] [] = Unit {0}
Fits κ ns [] (i ∷ is) = ⊥
Fits κ ns (j ∷ js) [] = ⊥
Fits κ ns (j ∷ js) (i ∷ is) = Fit κ ns j i (length js) × Fits κ ns js is

-- how often the trees of the items use node j, and how many nodes they have
abbrev pub item_uses : {K V : Type 0} → ℕ → List (Item K V) → ℕ
item_uses j [] = 0
item_uses j (i ∷ is) = uses j i.into + uses j i.add + item_uses j is

abbrev pub weight : {K V : Type 0} → List (Item K V) → ℕ
weight [] = 0
weight (i ∷ is) = size i.into + size i.add + weight is

-- how often trees use node j
abbrev pub tree_uses : {K V : Type 0} → ℕ → List (Tree K V) → ℕ
tree_uses j [] = 0
tree_uses j (t ∷ ts) = uses j t + tree_uses j ts

-- each tree is the union of an item's two, and stands
abbrev pub Each : {K V : Type 0} → KeyModel K → (V → V → V) → List (Node K V) → List (Item K V) → List (Tree K V) → Type 0
Each κ join ns [] [] = Unit {0}
Each κ join ns [] (t ∷ ts) = ⊥
Each κ join ns (i ∷ is) [] = ⊥
Each κ join ns (i ∷ is) (t ∷ ts) = Union κ join i.least i.into i.add t × Stands ns t × Each κ join ns is ts

-- the jobs are about the items, beside the free nodes: no node is used twice, there is a free node for each job, and turns
-- enough are left for them
pub record Ready {K V : Type 0} (κ : KeyModel K) (ns : List (Node K V)) (account : Account) (turns : ℕ) (jobs : List Job) (items : List (Item K V)) (chain : List ℕ) : Type 0 where
  pub fits : Fits κ ns jobs items
  pub linked : Chain ns account.head chain
  pub counted : length chain ≡ account.free
  pub room : length jobs ≤ account.free
  pub once : (j : ℕ) → item_uses j items + times j chain ≤ 1
  pub light : weight items ≤ turns
  pub few : weight items + length chain ≤ account.capacity

-- what the work comes to: the unions of the items and the free chain, of the nodes that they had; every other node is as it was
pub record Outcome {K V : Type 0} (κ : KeyModel K) (join : V → V → V) (ns : List (Node K V)) (account : Account) (items : List (Item K V)) (free : List ℕ)
    (ns' : List (Node K V)) (after : Account) : Type 0 where
  pub trees : List (Tree K V)
  pub chain : List ℕ
  pub each : Each κ join ns' items trees
  pub linked : Chain ns' after.head chain
  pub counted : length chain ≡ after.free
  pub capacity : after.capacity ≡ account.capacity
  pub used : (j : ℕ) → tree_uses j trees + times j chain ≡ item_uses j items + times j free
  pub kept : (j : ℕ) → item_uses j items + times j free ≡ 0 → (x : Node K V) → At ns j x → At ns' j x

-- from here the jobs, whatever trees they are about, come to ns' and `after`
abbrev pub Work : {K V : Type 0} → KeyModel K → (V → V → V) → List (Node K V) → Account → ℕ → List Job → List (Node K V) → Account → Type 0
Work {K} {V} κ join ns account turns jobs ns' after =
    (items : List (Item K V)) (chain : List ℕ) → Ready κ ns account turns jobs items chain → Outcome κ join ns account items chain ns' after
