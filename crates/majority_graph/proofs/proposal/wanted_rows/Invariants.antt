use Rattle.std.proofs.Common.{◌≡◌, map, take}
use Rattle.majority_graph.specs.Graph.{wanted_of}
use Rattle.majority_graph.proofs.proposal.wanted_rows.Given as goal

abbrev pub invariant-loop-at : goal.invariant-loop-at
invariant-loop-at l = map (λ row. row.items) l.kept.items
    ≡ map (wanted_of l.wanted) (wanted_of (take l.at l.wanted) (map (λ row. row.items) (take l.at l.rows)))
