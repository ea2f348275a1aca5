use Rattle.std.proofs.Common.{◌≡◌, get_or, map, take}
use Rattle.majority_graph.proofs.ranks.places_at.Given as goal

abbrev pub invariant-loop-column : goal.invariant-loop-column
invariant-loop-column l = l.places.items ≡ map (λ column. get_or column l.at 0) (map (λ column. column.items) (take l.column-index l.columns))
