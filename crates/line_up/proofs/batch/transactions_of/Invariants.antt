use Rattle.std.proofs.Common.{◌≡◌, map, take}
use Rattle.line_up.specs.Paths.{tx_at}
use Rattle.line_up.proofs.batch.transactions_of.Given as goal

abbrev pub invariant-loop-number : goal.invariant-loop-number
invariant-loop-number l = l.txs.items ≡ map (tx_at l.vertices) (take l.number-index l.numbers)
