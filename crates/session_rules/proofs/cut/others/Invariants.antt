use Rattle.std.proofs.Common.{◌≡◌, take, not}
use Rattle.std.specs.List.{filter, list_any}
use Rattle.seq_base.specs.Tx.{tx_eq}
use Rattle.session_rules.proofs.cut.others.Given as goal

abbrev pub invariant-loop-tx : goal.invariant-loop-tx
invariant-loop-tx l = l.left.items ≡ filter (λ t. not (list_any (tx_eq t) l.held.keys)) (take l.tx-index l.txs)
