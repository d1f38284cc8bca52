-- What every key kind means to the layers above: its places and bits, and what follows from them.
use Rattle.std.specs.Prelude.{◌≡◌, ℕ, ◌<◌, ◌≤◌, false}
use Rattle.keys.specs.Bits.{binary}
use Rattle.keys.specs.declared.kind.KeyKind.{Ghosts}

-- a key kind as the definitions see it: its code, its number of places, and the bit at each place of a key;
-- in a clause under `K: KeyKind` it is written K.KeyKind
abbrev pub KeyModel : Type 0 → Type 1
KeyModel K = Ghosts K

module _ {K : Type 0} (κ : KeyModel K) where
  -- a key's number: its bits read in binary
  abbrev pub number : K → ℕ
  number k = binary κ.PLACES (κ.bit k)

  -- keys are ordered by number
  abbrev pub Precedes : K → K → Type 0
  Precedes a b = number a < number b

  -- x and y are the numbers of a and b
  pub record Numbers (a b : K) (x y : ℕ) : Type 0 where
    pub first : x ≡ number a
    pub second : y ≡ number b

  -- p is the first place in which a and b differ
  pub record FirstDifference (a b : K) (p : ℕ) : Type 0 where
    pub within : p < κ.PLACES
    pub agree : (q : ℕ) → q < p → κ.bit a q ≡ κ.bit b q
    pub differ : κ.bit a p ≡ κ.bit b p → ⊥

  -- a stands on side 0 and b on side 1 of the first place in which they differ
  abbrev pub LeftOf : K → K → Type 0
  LeftOf a b = (p : ℕ) × FirstDifference a b p × (κ.bit a p ≡ false)

  -- the order by numbers is the order by the first differing bit
  abbrev pub OrderedByFirstDifference : K → K → Type 0
  OrderedByFirstDifference a b = (Precedes a b → LeftOf a b) × (LeftOf a b → Precedes a b)

-- what every key kind owes, in the form that proofs on trees use
pub record KeyLaws {K : Type 0} (κ : KeyModel K) : Type 0 where
  pub few : κ.PLACES ≤ 64
  pub same_bits : (a b : K) → ((p : ℕ) → p < κ.PLACES → κ.bit a p ≡ κ.bit b p) → a ≡ b
  pub same_number : (a b : K) → number κ a ≡ number κ b → a ≡ b
