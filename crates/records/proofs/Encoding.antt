-- Reading a record: when it is right to refuse, and what is read of bytes that a record writes.
use Rattle.std.proofs.Common.{◌≡◌, ℕ, ◌≤◌, List, Some, None, Option, sym, ap, ◌∙◌, arith}
use Rattle.records.specs.Encoding.{Reads}

module _ {V : Type 0} (width : ℕ) (bytes : V → List ℕ) (input : List ℕ) where
  -- to refuse is right where no record writes the bytes
  pub refuses : (r : Option V) → r ≡ None → (width ≤ 64 → (a : V) → bytes a ≡ input → ⊥) → Reads width bytes input r
  refuses None e no_record = no_record
  refuses (Some a) e no_record = let z : ◌≡◌ {A = ℕ} 0 1 = cc in absurd (omega arith)

  -- of what a record writes, that record is read, where records that are written alike are the same
  pub reads_that : (r : Option V) → width ≤ 64 → ((a b : V) → bytes a ≡ bytes b → a ≡ b)
      → Reads width bytes input r → (a : V) → bytes a ≡ input → r ≡ Some a
  reads_that None h distinct reads a e = absurd (reads h a e)
  reads_that (Some b) h distinct reads a e = ap Some (distinct b a (reads h ∙ sym e))
