-- What opening a pool promises.
use Rattle.std.specs.Prelude.{◌≡◌, ◌<◌, ◌≤◌, List, length, Ok, Err, Result}
use Rattle.keys.specs.Model.{KeyModel}
use Rattle.pool.specs.declared.node.Node.{Node}
use Rattle.pool.specs.declared.book.Book.{Book}
use Rattle.pool.specs.declared.refusal.OpenRefusal.{OpenRefusal}
use Rattle.pool.specs.declared.refusal.OpenRefusal.TheVariants.{TooManyNodes}
use Rattle.pool.specs.Machine.{opened}
use Rattle.pool.specs.Holds.{Holds}

-- a slice of at most 4,096 nodes then holds the empty machine of that capacity, for every join;
-- a longer one is refused and left as it was
abbrev pub Opens : {K V : Type 0} → KeyModel K → List (Node K V) → List (Node K V) → Result Book OpenRefusal → Type 0
Opens {K} {V} κ ns ns' (Ok book) = (length ns ≤ 4096) × ((join : V → V → V) → Holds κ join ns' book (opened (length ns)))
Opens κ ns ns' (Err TooManyNodes) = (4096 < length ns) × (ns' ≡ ns)
