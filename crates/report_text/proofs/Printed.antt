-- The lines of the listed transactions, by their classes as they were counted.
use Rattle.std.proofs.Common.{◌≡◌, ℕ, List, [], ◌∷◌, ◌++◌, Option, refl, ap, ◌∙◌}
use Rattle.std.specs.List.{flat_map}
use Rattle.seq_base.specs.declared.tx.Tx.{Tx}
use Rattle.seq_base.specs.Lists.{holds, listed}
use Rattle.seq_base.specs.Setting.{Parameters}
use Rattle.tx_class.specs.declared.classes.Class.{Class}
use Rattle.tx_class.specs.Listed.{listed_in, class_of}
use Rattle.tx_class.specs.Tally.{Tally, tally_of, class_in, count_in}
use Rattle.majority_graph.specs.Graph.{Graph}
use Rattle.fair_laws.specs.Kept.{kept_by, proposal_of}
use Rattle.report_text.specs.Lines.{counts_line}
use Rattle.report_text.specs.OrderPrint.{class_line, tx_line, end_text, proposal_text}

same_pieces : (f g : Tx → List ℕ) → ((t : Tx) → f t ≡ g t) → (txs : List Tx) → flat_map f txs ≡ flat_map g txs
same_pieces f g same [] = refl
same_pieces f g same (t ∷ ts) = rw (same t, same_pieces f g same ts) refl

pub counted_lines : (s : Parameters) (lists : List (List Tx)) (tally : Tally) (kept : List Tx) → tally ≡ tally_of s lists → kept ≡ kept_by s lists
    → ((t : Tx) → count_in tally t ≡ listed lists t) → ((t : Tx) → class_in tally t ≡ class_of s lists t)
    → flat_map (λ t. class_line (class_in tally t) (holds t kept) t (count_in tally t)) tally.txs ≡ flat_map (tx_line s lists) (listed_in lists)
counted_lines s lists tally kept are all counts classes =
    same_pieces (λ t. class_line (class_in tally t) (holds t kept) t (count_in tally t)) (tx_line s lists) each tally.txs
    ∙ ap (λ (x : Tally). flat_map (tx_line s lists) x.txs) are
  where
    each : (t : Tx) → class_line (class_in tally t) (holds t kept) t (count_in tally t) ≡ tx_line s lists t
    each t =
        ap (λ (k : Class). class_line k (holds t kept) t (count_in tally t)) (classes t)
        ∙ ap (λ (all : List Tx). class_line (class_of s lists t) (holds t all) t (count_in tally t)) all
        ∙ ap (λ (n : ℕ). class_line (class_of s lists t) (holds t (kept_by s lists)) t n) (counts t)

-- the parts of a text, written one after the other
pub printed_text : (s : Parameters) (lists : List (List Tx)) (pair : Option (Tx × Tx)) (tally : Tally) (graph : Graph) (kept : List Tx)
    (none counts listed_lines whole : List ℕ)
    → tally ≡ tally_of s lists → graph ≡ proposal_of s lists → kept ≡ graph.vertices
    → ((t : Tx) → count_in tally t ≡ listed lists t) → ((t : Tx) → class_in tally t ≡ class_of s lists t)
    → none ≡ [] → counts ≡ none ++ counts_line s
    → listed_lines ≡ counts ++ flat_map (λ t. class_line (class_in tally t) (holds t kept) t (count_in tally t)) tally.txs
    → whole ≡ listed_lines ++ end_text graph pair → whole ≡ proposal_text s lists pair
printed_text s lists pair tally graph kept none counts listed_lines whole are is all count class begin first second third =
    let lines = counted_lines s lists tally kept are (all ∙ ap (λ (g : Graph). g.vertices) is) count class in
    third ∙ ap (λ (x : List ℕ). x ++ end_text graph pair) (second ∙ ap (λ (x : List ℕ). counts ++ x) lines
    ∙ ap (λ (x : List ℕ). x ++ flat_map (tx_line s lists) (listed_in lists)) (first ∙ ap (λ (x : List ℕ). x ++ counts_line s) begin))
    ∙ ap (λ (g : Graph). counts_line s ++ flat_map (tx_line s lists) (listed_in lists) ++ end_text g pair) is
