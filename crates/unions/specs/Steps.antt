-- What the steps of a union write, and what is to do after them.
use Rattle.std.specs.Prelude.{◌≡◌, ℕ, ◌+◌, ◌<◌, ◌≤◌, cond, ◌⊎◌, List, ◌∷◌, length, Result, MatchResult, slice_set}
use Rattle.keys.specs.Model.{KeyModel}
use Rattle.pool.specs.declared.node.Node.{Node}
use Rattle.pool.specs.declared.node.Node.TheVariants.{Free, Leaf, Branch}
use Rattle.pool.specs.declared.account.Account.{Account}
use Rattle.pool.specs.declared.outoforder.OutOfOrder.{OutOfOrder}
use Rattle.pool.specs.Nodes.{Took, Released}
use Rattle.unions.specs.declared.job.Job.{Job}
use Rattle.unions.specs.declared.step.Step.{Step}
use Rattle.unions.specs.declared.step.Step.TheVariants.{Done, Next, Both}
use Rattle.unions.specs.Work.{Work}

-- what is to do after a step
abbrev pub ahead : Step → List Job → List Job
ahead Done jobs = jobs
ahead (Next j) jobs = j ∷ jobs
ahead (Both i j) jobs = i ∷ (j ∷ jobs)

module _ {K V : Type 0} where
  -- no branch
  abbrev pub Unbranched : Node K V → Type 0
  Unbranched (Free n) = Unit {0}
  Unbranched (Leaf k v) = Unit {0}
  Unbranched (Branch p k zero one) = ⊥

  -- two trees part at m: what stood at the first's node moves to a free one, and a branch at m over both takes its place;
  -- the first's side is the one that its key's bit names
  pub record Parted (κ : KeyModel K) (ns ns' : List (Node K V)) (before : Account) (job : Job) (old : Node K V) (m : ℕ) (key : K) (after : Account) : Type 0 where
    pub moved : ℕ
    pub took : Took ns before moved after
    pub written : job.into < length ns
        → ns' ≡ slice_set (slice_set ns moved old) job.into (Branch m key (cond (κ.bit key m) job.from moved) (cond (κ.bit key m) moved job.from))

  -- the side of a branch that a key's bit names is what a tree goes into
  abbrev pub Sided : KeyModel K → Node K V → K → Job → Job → Type 0
  Sided κ (Free n) key job next = ⊥
  Sided κ (Leaf k v) key job next = ⊥
  Sided κ (Branch p k zero one) key job next = next ≡ record { into = cond (κ.bit key p) one zero; from = job.from }

  -- the second tree's branch takes the first tree's node, what stood there takes the branch's, on the side that its key's bit
  -- names, and is then united with what the branch had there
  abbrev pub Swapped : KeyModel K → List (Node K V) → List (Node K V) → Job → Node K V → Node K V → K → Job → Type 0
  Swapped κ ns ns' job old (Free n) key next = ⊥
  Swapped κ ns ns' job old (Leaf k v) key next = ⊥
  Swapped κ ns ns' job old (Branch p k zero one) key next =
      (job.into < length ns → job.from < length ns
      → ns' ≡ slice_set (slice_set ns job.from old) job.into (Branch p k (cond (κ.bit key p) zero job.from) (cond (κ.bit key p) job.from one)))
      × (next ≡ record { into = job.from; from = cond (κ.bit key p) one zero })

  -- two nodes at one place: of two branches the second is given back, and their sides are united pairwise; two leaves join
  -- their records, and the second is given back
  abbrev pub Leveled : (V → V → V) → List (Node K V) → List (Node K V) → Account → Job → Node K V → Node K V → Account → Step → Type 0
  Leveled join ns ns' before job (Branch p k zero one) (Branch q j zero' one') after step =
      Released ns ns' before job.from after × (step ≡ Both (record { into = zero; from = zero' }) (record { into = one; from = one' }))
  Leveled join ns ns' before job (Leaf k v) (Leaf j w) after step =
      (job.into < length ns → Released (slice_set ns job.into (Leaf k (join v w))) ns' before job.from after) × (step ≡ Done)
  Leveled join ns ns' before job (Free n) u after step = ⊥
  Leveled join ns ns' before job (Leaf k v) (Free n) after step = ⊥
  Leveled join ns ns' before job (Leaf k v) (Branch q j zero' one') after step = ⊥
  Leveled join ns ns' before job (Branch p k zero one) (Free n) after step = ⊥
  Leveled join ns ns' before job (Branch p k zero one) (Leaf j w) after step = ⊥

  -- why two nodes at one place may not be united: they are not of one sort, or there is no room to give the second back
  abbrev pub Alike : Node K V → Node K V → Type 0
  Alike (Branch p k zero one) (Branch q j zero' one') = Unit {0}
  Alike (Leaf k v) (Leaf j w) = Unit {0}
  Alike (Free n) u = ⊥
  Alike (Leaf k v) (Free n) = ⊥
  Alike (Leaf k v) (Branch q j zero' one') = ⊥
  Alike (Branch p k zero one) (Free n) = ⊥
  Alike (Branch p k zero one) (Leaf j w) = ⊥

  abbrev pub Unleveled : List (Node K V) → Account → Job → Node K V → Node K V → Type 0
  Unleveled ns before job t u = (Alike t u → ⊥) ⊎ ((length ns ≤ job.from) ⊎ (before.capacity ≤ before.free))

  -- a step does its part of the work: what is then to do comes to the same end; a step that fails was about no trees
  abbrev pub GoesOn : KeyModel K → (V → V → V) → List (Node K V) → List (Node K V) → Account → Job → Result (Account × Step) OutOfOrder → Type 0
  GoesOn κ join ns ns' account job r = (rest : List Job) (turns : ℕ) (end : List (Node K V)) (last : Account)
      → MatchResult r
      (λ o. Work κ join ns' o.0 turns (ahead o.1 rest) end last → Work κ join ns account (turns + 1) (job ∷ rest) end last)
      (λ _. Work κ join ns account (turns + 1) (job ∷ rest) end last)
