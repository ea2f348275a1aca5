use Rattle.std.proofs.Common.{◌≡◌, map}
use Rattle.majority_graph.specs.Ranks.{columns_by_list}
use Rattle.majority_graph.proofs.columns.columns_by_list.Given as goal

abbrev pub invariant-loop-list : goal.invariant-loop-list
invariant-loop-list l = map (λ column. column.items) l.columns.items ≡ columns_by_list l.ranked l.list
