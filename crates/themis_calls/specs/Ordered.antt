-- What the commands `order` and `line` answer to an input.
use Rattle.std.specs.Prelude.{◌≡◌, ℕ, ◌<◌, ◌≤◌, List, [], length, slice_index_or, Option, Some, None, Ok, Err}
use Rattle.std.specs.List.Sorted.{IsPermutation}
use Rattle.seq_base.specs.declared.tx.Tx.{Tx}
use Rattle.seq_base.specs.Setting.{Parameters}
use Rattle.majority_graph.specs.Edges.{gives_edge}
use Rattle.majority_graph.specs.Graph.{IsComplete}
use Rattle.fair_laws.specs.Earlier.{IsOwed}
use Rattle.fair_laws.specs.Kept.{IsKept, proposal_of}
use Rattle.batch_laws.specs.Batches.{StandsIn}
use Rattle.batch_laws.specs.Reached.{batches_of}
use Rattle.line_up.specs.Line.{line_of}
use Rattle.line_up.specs.Paths.{HaveMajorities}
use Rattle.plan_text.specs.declared.fault.PlanError.{PlanError}
use Rattle.plan_text.specs.declared.fault.PlanError.TheVariants.{Fault, NoMemory as WantOfMemory}
use Rattle.plan_text.specs.declared.order.OrderText.{OrderText}
use Rattle.plan_text.specs.OrderReading.{read_orders}
use Rattle.report_text.specs.LinePrint.{lined_text}
use Rattle.report_text.specs.OrderPrint.{IsOpen, proposal_text}
use Rattle.themis_calls.specs.Limits.{most_input}
use Rattle.themis_calls.specs.declared.ordering.Form.{Form}
use Rattle.themis_calls.specs.declared.ordering.Form.TheVariants.{Batches, Lines}
use Rattle.themis_calls.specs.declared.outcome.Status.{Status}
use Rattle.themis_calls.specs.declared.outcome.Status.TheVariants.{Done, ReadFault, WriteFault, BadWords, BadPlan, TooLong, Open, Stalled, Forged, Collided, NoMemory, BadTrace, Unlawful}
use Rattle.themis_calls.specs.Moved.{Took, TookSome}

-- The bytes read as an order text with no fault, and this pair of its proposal is open.
pub record IsAsked (bytes : List ℕ) (pair : Option (Tx × Tx)) : Type 0 where
  pub orders : OrderText
  pub read : read_orders bytes ≡ Ok orders
  pub undecided : IsOpen (proposal_of orders.setting orders.lists) pair

-- the text of a proposal with this open pair: with its batches alone, or each followed by a line
abbrev pub text_in : Form → Parameters → List (List Tx) → Option (Tx × Tx) → List ℕ
text_in Batches s lists pair = proposal_text s lists pair
text_in Lines s lists pair = lined_text s lists pair

-- and this is its text in that form
pub record IsPrinted (form : Form) (bytes : List ℕ) (pair : Option (Tx × Tx)) (text : List ℕ) : Type 0 where
  pub asked : IsAsked bytes pair
  pub printed : text ≡ text_in form asked.orders.setting asked.orders.lists pair

-- an input that is not read to a text: its first fault
abbrev pub refused_as : PlanError → Status
refused_as (Fault fault) = BadPlan fault
refused_as WantOfMemory = NoMemory

-- an input whose text is written
abbrev pub ended_as : Option (Tx × Tx) → Status
ended_as None = Done
ended_as (Some pair) = Open pair.0 pair.1

-- The answer to the bytes, and the sink before and after: the whole text in the given form is written once, or a prefix
-- of it if the sink failed. Out of memory claims nothing.
abbrev pub AnswersOrder : Form → List ℕ → Option (List ℕ) → Option (List ℕ) → Status → Type 0
AnswersOrder form bytes old new Done = (text : List ℕ) × IsPrinted form bytes None text × Took text old new
AnswersOrder form bytes old new ReadFault = ⊥
AnswersOrder form bytes old new WriteFault = (pair : Option (Tx × Tx)) × (text : List ℕ) × IsPrinted form bytes pair text × TookSome text old new
AnswersOrder form bytes old new BadWords = ⊥
AnswersOrder form bytes old new (BadPlan fault) = (read_orders bytes ≡ Err fault) × (new ≡ old)
AnswersOrder form bytes old new TooLong = ⊥
AnswersOrder form bytes old new (Open u v) = (text : List ℕ) × IsPrinted form bytes (Some (u, v)) text × Took text old new
AnswersOrder form bytes old new (Stalled turns ticks) = ⊥
AnswersOrder form bytes old new (Forged at) = ⊥
AnswersOrder form bytes old new (Collided at) = ⊥
AnswersOrder form bytes old new NoMemory = new ≡ old
AnswersOrder form bytes old new (BadTrace at) = ⊥
AnswersOrder form bytes old new (Unlawful replica entry rule) = ⊥

-- The same for the bytes of a source, which may fail, or have more bytes than the limit.
abbrev pub AnswersInput : Form → List ℕ → Option (List ℕ) → Option (List ℕ) → Status → Type 0
AnswersInput form bytes old new ReadFault = new ≡ old
AnswersInput form bytes old new TooLong = (most_input < length bytes) × (new ≡ old)
AnswersInput form bytes old new NoMemory = new ≡ old
AnswersInput form bytes old new (BadTrace at) = ⊥
AnswersInput form bytes old new (Unlawful replica entry rule) = ⊥
AnswersInput form bytes old new Done = (length bytes ≤ most_input) × AnswersOrder form bytes old new Done
AnswersInput form bytes old new WriteFault = (length bytes ≤ most_input) × AnswersOrder form bytes old new WriteFault
AnswersInput form bytes old new BadWords = ⊥
AnswersInput form bytes old new (BadPlan fault) = (length bytes ≤ most_input) × AnswersOrder form bytes old new (BadPlan fault)
AnswersInput form bytes old new (Open u v) = (length bytes ≤ most_input) × AnswersOrder form bytes old new (Open u v)
AnswersInput form bytes old new (Stalled turns ticks) = ⊥
AnswersInput form bytes old new (Forged at) = ⊥
AnswersInput form bytes old new (Collided at) = ⊥

-- The expected status of an input if nothing fails: it is too long, or it has a fault, or it is read and its proposal
-- is complete or open. There is one.
abbrev pub IsDue : List ℕ → Status → Type 0
IsDue bytes Done = (length bytes ≤ most_input) × IsAsked bytes None
IsDue bytes ReadFault = ⊥
IsDue bytes WriteFault = ⊥
IsDue bytes BadWords = ⊥
IsDue bytes (BadPlan fault) = (length bytes ≤ most_input) × (read_orders bytes ≡ Err fault)
IsDue bytes TooLong = most_input < length bytes
IsDue bytes (Open u v) = (length bytes ≤ most_input) × IsAsked bytes (Some (u, v))
IsDue bytes (Stalled turns ticks) = ⊥
IsDue bytes (Forged at) = ⊥
IsDue bytes (Collided at) = ⊥
IsDue bytes NoMemory = ⊥
IsDue bytes (BadTrace at) = ⊥
IsDue bytes (Unlawful replica entry rule) = ⊥

-- Fairness of one proposal, in terms of lists and counts. Let b be kept, let b be solid or a be kept, and let fewer
-- lists than the threshold contain b without an earlier a. Then a is kept. In the batches of a complete proposal, which
-- are those that are printed, a stands in the batch of b or in an earlier one.
abbrev pub IsFair : OrderText → Type 0
IsFair orders = (a b : Tx) → IsOwed orders.setting orders.lists a b
    → IsKept orders.setting orders.lists a
    × (IsComplete (proposal_of orders.setting orders.lists) → (i j : ℕ) × StandsIn (batches_of (proposal_of orders.setting orders.lists)) i a
    × StandsIn (batches_of (proposal_of orders.setting orders.lists)) j b × (i ≤ j))

-- The line of each batch of a complete proposal: it contains each transaction of the batch once, and each has the edge
-- of the lists to the next, which is a majority over it.
abbrev pub AreLines : OrderText → Type 0
AreLines orders = IsComplete (proposal_of orders.setting orders.lists) →
    let batches : List (List Tx) = batches_of (proposal_of orders.setting orders.lists) in
    let line : List Tx → List Tx = line_of (gives_edge orders.setting orders.lists) in
    (i : ℕ) → i < length batches
    → IsPermutation (slice_index_or batches i []) (line (slice_index_or batches i []))
    × HaveMajorities orders.setting orders.lists (line (slice_index_or batches i []))
