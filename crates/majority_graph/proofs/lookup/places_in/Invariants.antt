use Rattle.std.proofs.Common.{◌≡◌, map, take}
use Rattle.majority_graph.specs.Ranks.{place}
use Rattle.majority_graph.proofs.lookup.places_in.Given as goal

abbrev pub invariant-loop-tx : goal.invariant-loop-tx
invariant-loop-tx l = l.places.items ≡ map (λ t. place t l.list) (take l.tx-index l.txs)
