use Rattle.std.proofs.Common.{◌≡◌, drop}
use Rattle.seq_base.specs.Lists.{holds}
use Rattle.wire_view.proofs.txs.TxsView.holds_from.Given as goal

abbrev pub invariant-loop-k : goal.invariant-loop-k
invariant-loop-k l = holds l.tx (drop l.k l.self) ≡ holds l.tx (drop l.start l.self)
