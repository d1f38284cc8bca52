-- A walk that is to pass branches at places of its kind alone.
use Rattle.std.proofs.Common.{◌≡◌, ℕ, Bool, true, false, cond, List, [], ◌∷◌, ◌⊎◌, refl, subst, inl, inr}
use Rattle.keys.specs.Model.{KeyModel}
use Rattle.pool.specs.declared.node.Node.{Node}
use Rattle.walks.specs.declared.step.Step.{Step}
use Rattle.walks.specs.declared.step.Step.TheVariants.{Leaf, Branch}
use Rattle.walks.specs.Leads.{Stepped, Within}
use Rattle.walks.specs.Ways.{OwnWayTo, OwnWayEnds}

module _ {K V : Type 0} (κ : KeyModel K) (ns : List (Node K V)) (top : ℕ) where
  -- it has come to where it begins
  pub way_begins : OwnWayTo κ ns top top
  way_begins = record { passed = []; way = refl }

  module _ (least at : ℕ) (way : OwnWayTo κ ns top at) where
    -- it goes on to a side of the branch that it meets
    pub way_below : {p : ℕ} {k : K} {left right near : ℕ} {s : Step K V} (b : Bool) → Stepped ns least at s → Within κ s → s ≡ Branch p k left right
        → near ≡ cond b right left → OwnWayTo κ ns top near
    way_below {p} {k} {left} {right} {near} b a within is e = record {
      passed = at ∷ way.passed;
      way = (
        record {
          place = p;
          prefix = k;
          zero = left;
          one = right;
          branch = (subst (Stepped ns least at) is a).0;
          own = subst (Within κ) is within;
          begins = by_bit b e;
        },
        way.way,
      );
    } where
      by_bit : (b : Bool) → near ≡ cond b right left → (near ≡ left) ⊎ (near ≡ right)
      by_bit true e = inr e
      by_bit false e = inl e

    -- and ends at the leaf that it meets
    pub way_ends : {k : K} {v : V} {s : Step K V} → Stepped ns least at s → s ≡ Leaf k v → OwnWayEnds κ ns top at k v
    way_ends a is = record { comes = way; leaf = subst (Stepped ns least at) is a }
