-- What the console's store keeps: a machine, which says what every call answers and leaves.
use Rattle.std.specs.Prelude.{◌≡◌, ℕ, ◌<◌, ◌≤◌, Ok, Err, vec_items, Result}
use Rattle.console.specs.declared.store.Store.{Store}
use Rattle.keys.specs.contracts.word.WordKeyKind.TheImpl.{ghosts as word_kind}
use Rattle.keys.specs.declared.values.Word.{Word}
use Rattle.pool.specs.Holds.{Holds}
use Rattle.pool.specs.Machine.{Machine, opened}
use Rattle.pool.specs.declared.refusal.OpenRefusal.{OpenRefusal}
use Rattle.records.specs.Joins.{parts_joined}
use Rattle.records.specs.contracts.hours.HoursJoining.TheImpl.{ghosts as hours_join}
use Rattle.records.specs.contracts.setting.SettingJoining.TheImpl.{ghosts as setting_join}
use Rattle.records.specs.contracts.tags.TagsJoining.TheImpl.{ghosts as tags_join}
use Rattle.runs.specs.Runs.{Reply, said, step}
use Rattle.runs.specs.declared.call.Call.{Call}
use Rattle.script.specs.Values.{Lamp}

-- records of lamps are joined part by part
abbrev pub lamps_joined : Lamp → Lamp → Lamp
lamps_joined = parts_joined hours_join.joined (parts_joined tags_join.joined setting_join.joined)

-- the nodes of a store hold a machine
abbrev pub Keeps : Store → Machine Word Lamp → Type 0
Keeps store m = Holds word_kind lamps_joined (vec_items store.nodes) store.book m

-- a pool of n nodes begins as the machine that heard nothing; it is refused exactly where n is over 4,096
abbrev pub Opened : ℕ → Result Store OpenRefusal → Type 0
Opened n (Ok store) = (n ≤ 4096) × Keeps store (opened n)
Opened n (Err refusal) = 4096 < n

-- a call is answered as by the machine that is kept, and leaves the machine after that call
abbrev pub Plays : Store → Call Word Lamp → Reply Word Lamp → Store → Type 0
Plays before call answer after =
    (m : Machine Word Lamp) → Keeps before m → (answer ≡ said word_kind lamps_joined m call) × Keeps after (step word_kind m call)
