use Rattle.std.proofs.Common.{◌≡◌, map, take}
use Rattle.majority_graph.specs.Ranks.{place}
use Rattle.line_up.proofs.batch.numbers_of.Given as goal

abbrev pub invariant-loop-tx : goal.invariant-loop-tx
invariant-loop-tx l = l.numbers.items ≡ map (λ t. place t l.vertices) (take l.tx-index l.txs)
