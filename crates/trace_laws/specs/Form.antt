-- What the form of a trace requires of the record of a run, besides that the run is lawful.
use Rattle.std.specs.Prelude.{◌≡◌, ℕ, ◌<◌, ◌≤◌, ◌^◌, List, length, slice_get, All, ⊤}
use Rattle.std.specs.Option.{option_map_or}
use Rattle.node_core.specs.declared.event.Event.{Event}
use Rattle.node_core.specs.declared.event.Event.TheVariants.{Arrived, Deliver, Tick}
use Rattle.node_core.specs.declared.entry.Entry.{Entry}
use Rattle.run_record.specs.declared.record.Head.{Head}
use Rattle.run_record.specs.declared.record.RunRecord.{RunRecord}
use Rattle.journal_rules.specs.Records.{arrivals_in, journal_in}
use Rattle.replica_seat.specs.Arrivals.{IsArrivalList}
use Rattle.replica_seat.specs.Senders.{IsFrom}
use Rattle.run_verdict.specs.Shown.{IsHonest}
use Rattle.trace_form.specs.declared.opening.Span.{Span}
use Rattle.trace_form.specs.Contents.{bared, contents_of}
use Rattle.trace_form.specs.Fitting.{FitsOpening, Traces}
use Rattle.trace_form.specs.Spelling.{contents_spelling}

-- the floor of a tick is within its field
abbrev pub HasShortFloor : Event → Type 0
HasShortFloor (Arrived list) = ⊤
HasShortFloor (Deliver from bytes) = ⊤
HasShortFloor (Tick floor) = floor < 2 ^ 32

pub record FitsTurn (n : ℕ) (e : Entry) : Type 0 where
  -- What was delivered came from one of n replicas.
  pub from : IsFrom n e.event
  pub floor : HasShortFloor e.event
  -- The turn sealed at most two statements.
  pub few : length e.turned.sealed ≤ 2

-- the view of a replica, as its head shows it
abbrev pub view_in : RunRecord → ℕ → ℕ
view_in run replica = option_map_or (λ (head : Head). head.view) (slice_get run.heads replica) 0

-- The numbers at the beginning of a trace are in their sets, and each replica has an arrival list and a list of
-- batches. What was delivered to an honest replica, what it sealed, and its view are within their fields.
pub record FitsForm (run : RunRecord) (span : Span) : Type 0 where
  pub opening : FitsOpening (contents_of run span).opening
  pub each_arrival : length run.arrivals ≡ run.setting.n
  pub each_batch : length run.batches ≡ run.setting.n
  pub arrivals : (r : ℕ) → r < run.setting.n → IsArrivalList (arrivals_in run r)
  pub turns : (r : ℕ) → IsHonest run r → All (FitsTurn run.setting.n) (journal_in run r)
  pub views : (r : ℕ) → IsHonest run r → view_in run r < 2 ^ 32

-- the text that is written for a run
abbrev pub trace_text : RunRecord → Span → List ℕ
trace_text run span = contents_spelling (contents_of run span)

-- If it has fewer than 2^32 bytes, the bytes spell the bare record.
abbrev pub IsSpelled : RunRecord → Span → Type 0
IsSpelled run span = length (trace_text run span) < 2 ^ 32 → Traces (bared run span) (trace_text run span)
