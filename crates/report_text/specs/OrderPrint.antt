-- The text of one proposal: its counts, each listed transaction, and the batches or the pair that is open.
use Rattle.std.specs.Prelude.{ℕ, ◌+◌, Bool, true, false, List, [], ◌∷◌, ◌++◌, codes, Option, Some, None}
use Rattle.std.specs.List.{flat_map}
use Rattle.std.specs.Fmt.{decimal}
use Rattle.seq_base.specs.declared.tx.Tx.{Tx}
use Rattle.seq_base.specs.Tx.{tx_text}
use Rattle.seq_base.specs.Lists.{holds, listed}
use Rattle.seq_base.specs.Setting.{Parameters}
use Rattle.tx_class.specs.declared.classes.Class.{Class}
use Rattle.tx_class.specs.declared.classes.Class.TheVariants.{Solid, Shaded, Blank}
use Rattle.tx_class.specs.Listed.{listed_in, class_of}
use Rattle.majority_graph.specs.Graph.{Graph, IsComplete}
use Rattle.fair_laws.specs.Kept.{kept_by, proposal_of}
use Rattle.fair_finalize.specs.Causes.{IsLeastMissing}
use Rattle.batch_laws.specs.Reached.{batches_of}
use Rattle.report_text.specs.Lines.{counts_line}

-- transactions on a line, each after one space
abbrev pub after_spaces : List Tx → List ℕ
after_spaces txs = flat_map (λ t. codes " " ++ tx_text t) txs

-- a transaction of a class, with the number of lists that contain it: a solid one is always kept, a blank one never
abbrev pub class_line : Class → Bool → Tx → ℕ → List ℕ
class_line Solid kept t count = codes "tx " ++ tx_text t ++ codes " solid " ++ decimal count ++ codes " kept\n"
class_line Shaded true t count = codes "tx " ++ tx_text t ++ codes " shaded " ++ decimal count ++ codes " kept\n"
class_line Shaded false t count = codes "tx " ++ tx_text t ++ codes " shaded " ++ decimal count ++ codes " cut\n"
class_line Blank kept t count = codes "tx " ++ tx_text t ++ codes " blank " ++ decimal count ++ codes "\n"

-- the line of a listed transaction
abbrev pub tx_line : Parameters → List (List Tx) → Tx → List ℕ
tx_line s lists t = class_line (class_of s lists t) (holds t (kept_by s lists)) t (listed lists t)

abbrev pub batch_line : ℕ → List Tx → List ℕ
batch_line number batch = codes "batch " ++ decimal number ++ after_spaces batch ++ codes "\n"

-- a line for each batch, numbered from this number
abbrev pub batch_lines : ℕ → List (List Tx) → List ℕ
batch_lines number [] = []
batch_lines number (batch ∷ batches) = batch_line number batch ++ batch_lines (number + 1) batches

abbrev pub open_line : Tx → Tx → List ℕ
open_line u v = codes "open " ++ tx_text u ++ codes " " ++ tx_text v ++ codes "\n"

-- the open pair: the least that is missing, if there is one
abbrev pub IsOpen : Graph → Option (Tx × Tx) → Type 0
IsOpen g None = IsComplete g
IsOpen g (Some pair) = IsLeastMissing g pair.0 pair.1

-- the batches, or the one line of the open pair
abbrev pub end_text : Graph → Option (Tx × Tx) → List ℕ
end_text g None = batch_lines 1 (batches_of g)
end_text g (Some pair) = open_line pair.0 pair.1

-- the text of the proposal of a setting and its lists, with this open pair
abbrev pub proposal_text : Parameters → List (List Tx) → Option (Tx × Tx) → List ℕ
proposal_text s lists pair = counts_line s ++ flat_map (tx_line s lists) (listed_in lists) ++ end_text (proposal_of s lists) pair
