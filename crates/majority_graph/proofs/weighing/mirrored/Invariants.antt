use Rattle.std.proofs.Common.{◌≡◌, get_or, length, map, take}
use Rattle.majority_graph.specs.declared.edge.Edge.TheVariants.{Missing}
use Rattle.majority_graph.specs.Edges.{opposite_of}
use Rattle.majority_graph.proofs.weighing.mirrored.Given as goal

abbrev pub invariant-loop-known : goal.invariant-loop-known
invariant-loop-known l = l.row.items ≡ map (λ known. opposite_of (get_or known (length l.rows) Missing)) (map (λ row. row.items) (take l.known-index l.rows))
