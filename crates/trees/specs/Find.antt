-- What a list of entries says of a key, and which entry comes next.
use Rattle.std.specs.Prelude.{Bool, true, cond, List, [], ◌∷◌, Some, None, Option, ◌==◌, nat_lt}
use Rattle.keys.specs.Model.{KeyModel, number, Precedes}

module _ {K : Type 0} (κ : KeyModel K) where
  -- whether a and b are one key: they have the same number
  abbrev pub same_key : K → K → Bool
  same_key a b = number κ a == number κ b

  -- whether a key comes after a bound; every key comes after no bound
  abbrev pub after : Option K → K → Bool
  after None k = true
  after (Some b) k = nat_lt (number κ b) (number κ k)

module _ {K V : Type 0} (κ : KeyModel K) where
  -- the record that a list has first for a key, or none
  abbrev pub lookup : List (K × V) → K → Option V
  lookup [] k = None
  lookup (e ∷ es) k = cond (same_key κ e.0 k) (Some e.1) (lookup es k)

  -- keys rise strictly from entry to entry
  abbrev pub Rising : List (K × V) → Type 0
  Rising [] = Unit {0}
  Rising (e ∷ []) = Unit {0}
  Rising (e ∷ (f ∷ es)) = Precedes κ e.0 f.0 × Rising (f ∷ es)

  -- the first entry of a list whose key comes after a bound, or none
  abbrev pub first_after : Option K → List (K × V) → Option (K × V)
  first_after b [] = None
  first_after b (e ∷ es) = cond (after κ b e.0) (Some e) (first_after b es)
