-- Taking the value of the larger rank is commutative where the rank tells values apart.
use Rattle.std.specs.Prelude.{◌≡◌, ℕ, Bool, true, false, cond, nat_lt, refl}
use Rattle.std.proofs.Common.{arith, ltb-true, ltb-false}
use Rattle.records.specs.Larger.{larger}

module _ {T : Type 0} (rank : T → ℕ) (tells : (a b : T) → rank a ≡ rank b → a ≡ b) where
  pub larger_comm : (a b : T) → larger rank a b ≡ larger rank b a
  larger_comm a b = go (nat_lt (rank a) (rank b)) (nat_lt (rank b) (rank a)) refl refl where
    go : (p q : Bool) → nat_lt (rank a) (rank b) ≡ p → nat_lt (rank b) (rank a) ≡ q → cond p b a ≡ cond q a b
    go true true e f = tells b a (omega (arith, ltb-true (rank a) (rank b) e, ltb-true (rank b) (rank a) f))
    go true false e f = refl
    go false true e f = refl
    go false false e f = tells a b (omega (arith, ltb-false (rank a) (rank b) e, ltb-false (rank b) (rank a) f))
