-- Every node is used once, so the trees and the free chain together have as many nodes as the slice.
use Rattle.std.proofs.Common.{◌≡◌, ℕ, zero, suc, ◌+◌, ◌<◌, ◌≤◌, cond, ltb, List, [], ◌∷◌, length, get_or, Some, None, Option, refl, ap, arith, lt-ltb, eq-eqb, ne_eqb}
use native.Mathlib.Decide.{ℕ_discrete}
use Rattle.trees.specs.Tree.{Tree, leaf, branch, one, times, uses, size, uses_if_any, size_if_any}
use Rattle.pool.specs.declared.node.Node.{Node}
use Rattle.pool.specs.Slice.{Stands, StandsIfAny, Chain}
use Rattle.pool.specs.GoodOrder.{total}

pub one_same : (i j : ℕ) → i ≡ j → one i j ≡ 1
one_same i j e = ap (λ b. cond b 1 0) (eq-eqb i j e)

pub one_other : (i j : ℕ) → (i ≡ j → ⊥) → one i j ≡ 0
one_other i j ne = ap (λ b. cond b 1 0) (ne_eqb i j ne)

-- the sum of f over the numbers below n
abbrev pub sum : ℕ → (ℕ → ℕ) → ℕ
sum zero f = 0
sum (suc n) f = sum n f + f n

sum_add : (n : ℕ) (f g : ℕ → ℕ) → sum n (λ j. f j + g j) ≡ sum n f + sum n g
sum_add zero f g = refl
sum_add (suc n) f g = omega (arith, sum_add n f g)

pub sum_same : (n : ℕ) (f g : ℕ → ℕ) → ((j : ℕ) → f j ≡ g j) → sum n f ≡ sum n g
sum_same zero f g h = refl
sum_same (suc n) f g h = omega (arith, sum_same n f g h, h n)

sum_zero : (n : ℕ) → sum n (λ j. 0) ≡ 0
sum_zero zero = refl
sum_zero (suc n) = omega (arith, sum_zero n)

sum_past : (n i : ℕ) → n ≤ i → sum n (one i) ≡ 0
sum_past zero i h = refl
sum_past (suc n) i h = omega (arith, sum_past n i (omega (arith, h)), one_other i n (λ e. omega (arith, e, h)))

sum_one : (n i : ℕ) → i < n → sum n (one i) ≡ 1
sum_one zero i h = absurd (omega (arith, h))
sum_one (suc n) i h = elim (ℕ_discrete i n) [
  | yes e ↦ omega (arith, sum_past n i (omega (arith, e)), one_same i n e)
  | no ne ↦ omega (arith, sum_one n i (omega (arith, h, ne)), one_other i n ne)
]

sum_full : (n m : ℕ) → n ≤ m → sum n (λ j. cond (ltb j m) 1 0) ≡ n
sum_full zero m h = refl
sum_full (suc n) m h =
    let e : ◌≡◌ {A = ℕ} (cond (ltb n m) 1 0) 1 = ap (λ b. cond b 1 0) (lt-ltb n m (omega (arith, h))) in
    omega (arith, sum_full n m (omega (arith, h)), e)

module _ {K V : Type 0} (ns : List (Node K V)) where
  pub sum_uses : (t : Tree K V) → Stands ns t → sum (length ns) (λ j. uses j t) ≡ size t
  sum_uses (leaf i k v) h = sum_one (length ns) i h.0
  sum_uses (branch i p k l r) h =
      let n = length ns in
      omega (arith, sum_add n (λ j. one i j + uses j l) (λ j. uses j r), sum_add n (one i) (λ j. uses j l), sum_one n i h.0.0, sum_uses l h.1, sum_uses r h.2)

  sum_uses_if_any : (o : Option (Tree K V)) → StandsIfAny ns o → sum (length ns) (λ j. uses_if_any j o) ≡ size_if_any o
  sum_uses_if_any None h = sum_zero (length ns)
  sum_uses_if_any (Some t) h = sum_uses t h

  sum_times : (h : ℕ) (fs : List ℕ) → Chain ns h fs → sum (length ns) (λ j. times j fs) ≡ length fs
  sum_times h [] c = sum_zero (length ns)
  sum_times h (i ∷ is) c =
      omega (arith, sum_add (length ns) (one i) (λ j. times j is), sum_one (length ns) i c.1.1.0, sum_times c.1.0 is c.1.2)

  abbrev pub sizes : List (Option (Tree K V)) → ℕ
  sizes [] = 0
  sizes (o ∷ os) = size_if_any o + sizes os

  abbrev pub AllStand : List (Option (Tree K V)) → Type 0
  AllStand [] = Unit {0}
  AllStand (o ∷ os) = StandsIfAny ns o × AllStand os

  pub all_stand : (ts : List (Option (Tree K V))) → ((s : ℕ) → s < length ts → StandsIfAny ns (get_or ts s None)) → AllStand ts
  all_stand [] h = tt
  all_stand (o ∷ os) h = (h 0 (omega arith), all_stand os (λ s l. h (suc s) (omega (arith, l))))

  sum_total : (ts : List (Option (Tree K V))) → AllStand ts → sum (length ns) (λ j. total j ts) ≡ sizes ts
  sum_total [] a = sum_zero (length ns)
  sum_total (o ∷ os) a = omega (arith, sum_add (length ns) (λ j. uses_if_any j o) (λ j. total j os), sum_uses_if_any o a.0, sum_total os a.1)

  pub all_nodes : (ts : List (Option (Tree K V))) (h : ℕ) (fs : List ℕ) → AllStand ts → Chain ns h fs → ((j : ℕ) → total j ts + times j fs ≡ cond (ltb j (length ns)) 1 0) → sizes ts + length fs ≡ length ns
  all_nodes ts h fs a c once =
      let n = length ns in
      omega (arith, sum_same n (λ j. total j ts + times j fs) (λ j. cond (ltb j n) 1 0) once, sum_add n (λ j. total j ts) (λ j. times j fs), sum_total ts a, sum_times h fs c, sum_full n n (omega arith))

  pub two_nodes : (o : Option (Tree K V)) (fs : List ℕ) (h : ℕ) → StandsIfAny ns o → Chain ns h fs → sum (length ns) (λ j. uses_if_any j o + times j fs) ≡ size_if_any o + length fs
  two_nodes o fs h s c = omega (arith, sum_add (length ns) (λ j. uses_if_any j o) (λ j. times j fs), sum_uses_if_any o s, sum_times h fs c)

  pub three_nodes : (o q : Option (Tree K V)) (fs : List ℕ) (h : ℕ) → StandsIfAny ns o → StandsIfAny ns q → Chain ns h fs
      → sum (length ns) (λ j. uses_if_any j o + uses_if_any j q + times j fs) ≡ size_if_any o + size_if_any q + length fs
  three_nodes o q fs h s t c =
      let n = length ns in
      omega (arith, sum_add n (λ j. uses_if_any j o + uses_if_any j q) (λ j. times j fs), sum_add n (λ j. uses_if_any j o) (λ j. uses_if_any j q), sum_uses_if_any o s, sum_uses_if_any q t, sum_times h fs c)

  pub size_within : (ts : List (Option (Tree K V))) (s : ℕ) → s < length ts → size_if_any (get_or ts s None) ≤ sizes ts
  size_within [] s l = absurd (omega (arith, l))
  size_within (o ∷ os) zero l = omega arith
  size_within (o ∷ os) (suc s) l = omega (arith, size_within os s (omega (arith, l)))
