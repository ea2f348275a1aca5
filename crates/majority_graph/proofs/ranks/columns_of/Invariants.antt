use Rattle.std.proofs.Common.{◌≡◌, map, take}
use Rattle.majority_graph.specs.Ranks.{place}
use Rattle.majority_graph.proofs.ranks.columns_of.Given as goal

abbrev pub invariant-loop-list : goal.invariant-loop-list
invariant-loop-list l = map (λ column. column.items) l.columns.items ≡ map (λ list. map (λ t. place t list) l.txs) (take l.list-index l.lists)
