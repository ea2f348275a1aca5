use Rattle.std.proofs.Common.{◌≡◌, take}
use Rattle.wire_view.proofs.txs.TxsView.own.Given as goal

abbrev pub invariant-loop-k : goal.invariant-loop-k
invariant-loop-k l = l.txs.items ≡ take l.k l.self
