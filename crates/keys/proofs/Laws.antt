-- The laws of a key kind, bundled for proofs on trees.
use Rattle.std.proofs.Common.{◌≡◌, ℕ, ◌<◌, ◌≤◌}
use Rattle.keys.specs.Model.{KeyModel, KeyLaws, number}
use Rattle.keys.specs.Binary.{binary_same}

pub key_laws : {K : Type 0} (κ : KeyModel K) → κ.PLACES ≤ 64
    → ((a b : K) → ((p : ℕ) → p < κ.PLACES → κ.bit a p ≡ κ.bit b p) → a ≡ b) → KeyLaws κ
key_laws κ few same = record {
  few = few;
  same_bits = same;
  same_number = λ a b e. same a b (binary_same κ.PLACES (κ.bit a) (κ.bit b) e);
}

-- keys of one number agree in every place
pub number_bits : {K : Type 0} (κ : KeyModel K) (a b : K) → number κ a ≡ number κ b → (p : ℕ) → p < κ.PLACES → κ.bit a p ≡ κ.bit b p
number_bits κ a b e = binary_same κ.PLACES (κ.bit a) (κ.bit b) e
