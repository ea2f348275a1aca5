-- The text of one proposal, in which each batch is followed by its line.
use Rattle.std.specs.Prelude.{ℕ, ◌+◌, List, [], ◌∷◌, ◌++◌, codes, Option, Some, None}
use Rattle.std.specs.List.{flat_map}
use Rattle.std.specs.Fmt.{decimal}
use Rattle.seq_base.specs.declared.tx.Tx.{Tx}
use Rattle.seq_base.specs.Setting.{Parameters}
use Rattle.majority_graph.specs.Edges.{gives_edge}
use Rattle.tx_class.specs.Listed.{listed_in}
use Rattle.fair_laws.specs.Kept.{proposal_of}
use Rattle.batch_laws.specs.Reached.{batches_of}
use Rattle.line_up.specs.Line.{line_of}
use Rattle.report_text.specs.Lines.{counts_line}
use Rattle.report_text.specs.OrderPrint.{after_spaces, tx_line, batch_line, open_line}

abbrev pub line_line : ℕ → List Tx → List ℕ
line_line number line = codes "line " ++ decimal number ++ after_spaces line ++ codes "\n"

-- a batch in ascending order, followed by its transactions in the line that the lists give
abbrev pub lined_batch : Parameters → List (List Tx) → ℕ → List Tx → List ℕ
lined_batch s lists number batch = batch_line number batch ++ line_line number (line_of (gives_edge s lists) batch)

-- each batch, numbered from this number
abbrev pub lined_batches : Parameters → List (List Tx) → ℕ → List (List Tx) → List ℕ
lined_batches s lists number [] = []
lined_batches s lists number (batch ∷ batches) = lined_batch s lists number batch ++ lined_batches s lists (number + 1) batches

-- these batches, or the one line of the open pair
abbrev pub lined_end : Parameters → List (List Tx) → List (List Tx) → Option (Tx × Tx) → List ℕ
lined_end s lists batches None = lined_batches s lists 1 batches
lined_end s lists batches (Some pair) = open_line pair.0 pair.1

-- the text of the proposal of a setting and its lists, with this open pair
abbrev pub lined_text : Parameters → List (List Tx) → Option (Tx × Tx) → List ℕ
lined_text s lists pair =
    counts_line s ++ flat_map (tx_line s lists) (listed_in lists) ++ lined_end s lists (batches_of (proposal_of s lists)) pair
