use Rattle.std.proofs.Common.{◌≡◌, take}
use Rattle.replica_box.proofs.shown.owned.Given as goal

abbrev pub invariant-loop-k : goal.invariant-loop-k
invariant-loop-k l = l.txs.items ≡ take l.k l.view
