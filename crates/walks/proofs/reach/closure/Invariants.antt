use Rattle.std.proofs.Common.{◌≡◌, length}
use Rattle.walks.proofs.SearchInvariant.{AreSearched}
use Rattle.walks.proofs.reach.closure.Given as goal

abbrev pub invariant-loop-from : goal.invariant-loop-from
invariant-loop-from l = AreSearched l.graph l.rows.items × (length l.rows.items ≡ l.from)
