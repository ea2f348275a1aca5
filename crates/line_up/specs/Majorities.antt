-- The lines of batches, and the majorities in them.
use Rattle.std.specs.Prelude.{ℕ, ◌<◌, List, length}
use Rattle.seq_base.specs.declared.tx.Tx.{Tx}
use Rattle.seq_base.specs.Setting.{Parameters}
use Rattle.majority_graph.specs.Edges.{gives_edge}
use Rattle.majority_graph.specs.Graph.{IsComplete, graph_of}
use Rattle.batch_laws.specs.Batches.{AreBatches}
use Rattle.line_up.specs.Line.{line_of}
use Rattle.line_up.specs.Paths.{HaveMajorities}

-- in the line of a batch each entry has a majority over the next
abbrev pub LineHasMajorities : Parameters → List (List Tx) → List Tx → Type 0
LineHasMajorities s lists batch = HaveMajorities s lists (line_of (gives_edge s lists) batch)

-- the claim, where the graph of the lists on these vertices is complete, these are its batches, and i is the number
-- of one
abbrev pub WhereBatchOf : Parameters → List (List Tx) → List Tx → List (List Tx) → ℕ → Type 0 → Type 0
WhereBatchOf s lists vertices batches i claim =
    IsComplete (graph_of s lists vertices) → AreBatches (graph_of s lists vertices) batches → i < length batches → claim
