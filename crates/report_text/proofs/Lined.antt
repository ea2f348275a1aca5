-- The batches beside their lines, after the lines that any text of a proposal has.
use Rattle.std.proofs.Common.{◌≡◌, ℕ, List, [], ◌++◌, Option, sym, ap, ◌∙◌}
use Rattle.std.specs.List.{flat_map}
use Rattle.seq_base.specs.declared.tx.Tx.{Tx}
use Rattle.seq_base.specs.Lists.{holds, listed}
use Rattle.seq_base.specs.Setting.{Parameters}
use Rattle.tx_class.specs.Listed.{listed_in, class_of}
use Rattle.tx_class.specs.Tally.{Tally, tally_of, class_in, count_in}
use Rattle.majority_graph.specs.Graph.{Graph, graph_of}
use Rattle.batch_laws.specs.Reached.{batches_of}
use Rattle.fair_laws.specs.Kept.{proposal_of}
use Rattle.report_text.specs.Lines.{counts_line}
use Rattle.report_text.specs.LinePrint.{lined_end, lined_text}
use Rattle.report_text.specs.OrderPrint.{class_line, tx_line}
use Rattle.report_text.proofs.Printed.{counted_lines}

-- the parts of a text, written one after the other
pub printed_lines : (s : Parameters) (lists : List (List Tx)) (pair : Option (Tx × Tx)) (tally : Tally) (graph : Graph) (kept : List Tx)
    (none counts listed_lines whole : List ℕ)
    → tally ≡ tally_of s lists → graph ≡ proposal_of s lists → kept ≡ graph.vertices
    → ((t : Tx) → count_in tally t ≡ listed lists t) → ((t : Tx) → class_in tally t ≡ class_of s lists t)
    → none ≡ [] → counts ≡ none ++ counts_line s
    → listed_lines ≡ counts ++ flat_map (λ t. class_line (class_in tally t) (holds t kept) t (count_in tally t)) tally.txs
    → ((of : Parameters) (by : List (List Tx)) → graph ≡ graph_of of by graph.vertices → whole ≡ listed_lines ++ lined_end of by (batches_of graph) pair)
    → whole ≡ lined_text s lists pair
printed_lines s lists pair tally graph kept none counts listed_lines whole are is all count class begin first second third =
    let lines = counted_lines s lists tally kept are (all ∙ ap (λ (g : Graph). g.vertices) is) count class in
    let given : graph ≡ graph_of s lists graph.vertices = is ∙ ap (λ (g : Graph). graph_of s lists g.vertices) (sym is) in
    third s lists given
    ∙ ap (λ (x : List ℕ). x ++ lined_end s lists (batches_of graph) pair)
    (second ∙ ap (λ (x : List ℕ). counts ++ x) lines
    ∙ ap (λ (x : List ℕ). x ++ flat_map (tx_line s lists) (listed_in lists)) (first ∙ ap (λ (x : List ℕ). x ++ counts_line s) begin))
    ∙ ap (λ (g : Graph). counts_line s ++ flat_map (tx_line s lists) (listed_in lists) ++ lined_end s lists (batches_of g) pair) is
