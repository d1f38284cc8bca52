use Rattle.std.proofs.Common.{◌≡◌}
use Rattle.console.proofs.store.fn.Store.open.map.Given as goal

abbrev pub ensures : goal.ensures
ensures l r = (r.nodes ≡ l.nodes) × (r.book ≡ l.book)
