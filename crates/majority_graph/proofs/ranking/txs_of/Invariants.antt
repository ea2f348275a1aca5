use Rattle.std.proofs.Common.{◌≡◌, map, take}
use Rattle.majority_graph.proofs.ranking.txs_of.Given as goal

abbrev pub invariant-loop-one : goal.invariant-loop-one
invariant-loop-one l = l.txs.items ≡ map (λ r. r.tx) (take l.one-index l.ranked)
