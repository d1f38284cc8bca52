-- Values with the same number are the same value: what a ghost field says has only one proof.
use Rattle.std.specs.Prelude.{◌≡◌, ℕ, ◌<◌, ◌≤◌, ◌^◌}
use Rattle.std.proofs.Common.{ap, subst}
use Rattle.std.proofs.Math.Bridge.{le_prop}
use Rattle.own_kinds.specs.declared.values.Buoy.{Buoy}
use Rattle.own_kinds.specs.declared.values.Charge.{Charge}

pub buoy_same : (a b : Buoy) → a.number ≡ b.number → a ≡ b
buoy_same a b e = subst P e (λ q. ap of (le_prop a.fits q)) b.fits where
  of : {n : ℕ} → n < 2 ^ 20 → Buoy
  of {n} q = record { number = n; fits = q }

  P : ℕ → Type 0
  P n = (q : n < 2 ^ 20) → a ≡ of q

pub charge_same : (a b : Charge) → a.percent ≡ b.percent → a ≡ b
charge_same a b e = subst P e (λ q. ap of (le_prop a.fits q)) b.fits where
  of : {n : ℕ} → n ≤ 100 → Charge
  of {n} q = record { percent = n; fits = q }

  P : ℕ → Type 0
  P n = (q : n ≤ 100) → a ≡ of q
