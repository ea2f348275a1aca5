use Rattle.std.proofs.Common.{◌≡◌, map, take}
use Rattle.tx_class.specs.Sorted.{times}
use Rattle.tx_class.proofs.classes.counts_of.Given as goal

abbrev pub invariant-loop-tx : goal.invariant-loop-tx
invariant-loop-tx l = l.counts.items ≡ map (λ t. times t l.entries) (take l.tx-index l.txs)
