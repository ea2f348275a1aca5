-- How the late lists of one more block update a proposal (Themis, CCS 2023, FairUpdate): the first block that gives a
-- pair its edge decides it.
use Rattle.std.specs.Prelude.{List, map, zip}
use Rattle.seq_base.specs.declared.tx.Tx.{Tx}
use Rattle.seq_base.specs.Setting.{Parameters}
use Rattle.majority_graph.specs.declared.edge.Edge.{Edge}
use Rattle.majority_graph.specs.Edges.{edge_between}
use Rattle.majority_graph.specs.Graph.{Graph}
use Rattle.majority_graph.specs.Later.{or_edge}

-- the row of edges of u, one for each of these vertices in turn
abbrev pub updated_row : Parameters → List (List Tx) → List Tx → Tx → List Edge → List Edge
updated_row s late vertices u row = map (λ entry. or_edge entry.1 (edge_between s late u entry.0)) (zip vertices row)

-- the graph: each missing edge is the one that the late lists give
abbrev pub updated : Parameters → List (List Tx) → Graph → Graph
updated s late g = record { vertices = g.vertices; edges = map (λ entry. updated_row s late g.vertices entry.0 entry.1) (zip g.vertices g.edges) }
