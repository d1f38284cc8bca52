-- How two trees meet, as their first nodes tell it.
use Rattle.std.specs.Prelude.{◌≡◌, ℕ, ◌<◌, ◌≢◌}
use Rattle.keys.specs.Model.{KeyModel}
use Rattle.trees.specs.Order.{Agree}
use Rattle.pool.specs.declared.node.Node.{Node}
use Rattle.pool.specs.declared.node.Node.TheVariants.{Free, Leaf, Branch}
use Rattle.unions.specs.declared.meeting.Meeting.{Meeting}
use Rattle.unions.specs.declared.meeting.Meeting.TheVariants.{Apart, Into, Under, Level}

-- a node shows its tree's place and a key of its prefix; a leaf counts as the number of places, a free node shows none
abbrev pub Shows : {K V : Type 0} → KeyModel K → Node K V → ℕ → K → Type 0
Shows κ (Free n) p k = ⊥
Shows κ (Leaf j v) p k = (p ≡ κ.PLACES) × (k ≡ j)
Shows κ (Branch q j l r) p k = (p ≡ q) × (k ≡ j)

abbrev pub Vacant : {K V : Type 0} → Node K V → Type 0
Vacant (Free n) = Unit {0}
Vacant (Leaf k v) = ⊥
Vacant (Branch p k l r) = ⊥

-- a tree at place p with the key k meets one at place q with the key j: they part at m, before both places; or they agree up to
-- the smaller place, and the second goes into a side of the first, the first into a side of the second, or both are at one place
abbrev pub Meets : {K : Type 0} → KeyModel K → ℕ → K → ℕ → K → Meeting → Type 0
Meets κ p k q j (Apart m) = (m < p) × (m < q) × Agree κ m j k × (κ.bit j m ≢ κ.bit k m)
Meets κ p k q j Into = (p < q) × Agree κ p j k
Meets κ p k q j Under = (q < p) × Agree κ q j k
Meets κ p k q j Level = (p ≡ q) × Agree κ p j k
