use Rattle.std.proofs.Common.{◌≡◌, ◌+◌, ◌++◌, List, drop}
use Rattle.std.specs.Prelude.{string_bytes}
use Rattle.seq_base.specs.declared.tx.Tx.{Tx}
use Rattle.seq_base.specs.Setting.{Parameters}
use Rattle.majority_graph.specs.Graph.{graph_of}
use Rattle.report_text.specs.LinePrint.{lined_batches}
use Rattle.report_text.proofs.line.write_lined_batches.Given as goal

abbrev pub invariant-loop-at : goal.invariant-loop-at
invariant-loop-at l = (s : Parameters) (lists : List (List Tx)) → l.proposal ≡ graph_of s lists l.proposal.vertices
    → string_bytes l.text ++ lined_batches s lists (l.at + 1) (drop l.at l.batches) ≡ string_bytes l.fn.text ++ lined_batches s lists 1 l.batches
