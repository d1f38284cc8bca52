use Rattle.std.proofs.Common.{◌≡◌, ◌≤◌, ◌++◌, length, take, drop}
use Rattle.pool.specs.Machine.{Machine}
use Rattle.pool.specs.Holds.{Holds}
use Rattle.runs.specs.Runs.{run, told}
use Rattle.runs.proofs.running.play_each.Given as goal

-- the pool holds some machine from which the calls that are left lead to the end and to the answers that are left
abbrev pub invariant-loop-i : goal.invariant-loop-i
invariant-loop-i g l =
    ((m : Machine g.row.K.Denot g.row.V.Denot) → Holds g.K.KeyKind g.V.Joining.joined l.initial.nodes l.initial.book m
    → (n : Machine g.row.K.Denot g.row.V.Denot) × Holds g.K.KeyKind g.V.Joining.joined l.nodes l.book n
    × (run g.K.KeyKind n (drop l.i l.calls) ≡ run g.K.KeyKind m l.calls)
    × (take l.i l.answers ++ told g.K.KeyKind g.V.Joining.joined n (drop l.i l.calls) ≡ told g.K.KeyKind g.V.Joining.joined m l.calls))
    × (drop l.i l.answers ≡ drop l.i l.initial.answers)
    × (length l.calls ≤ length l.initial.answers)
