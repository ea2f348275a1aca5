use Rattle.std.specs.List.{list_any}
use Rattle.seq_base.specs.Tx.{tx_eq}
use Rattle.session_rules.specs.Arrivals.{arrivals_at, batches_at}
use Rattle.session_rules.proofs.Checked.{Known}
use Rattle.session_rules.proofs.check.carries_over.Given as goal

abbrev pub invariant-loop-at : goal.invariant-loop-at
invariant-loop-at l = Known (batches_at l.batches) (arrivals_at l.arrivals) (λ tx. list_any (tx_eq tx) l.history.keys) l.ended l.left l.at
