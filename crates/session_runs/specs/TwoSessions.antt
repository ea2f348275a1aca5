-- Five replicas run a first session until it has ended, and have started the next one.
use Rattle.std.specs.Prelude.{ℕ, zero, suc, List, [], ◌∷◌, map, false}
use Rattle.std.specs.List.{range_with_len}
use Rattle.seq_base.specs.declared.tx.Tx.{Tx}
use Rattle.seal_kit.specs.declared.height.Height.TheVariants.{H5}
use Rattle.node_core.specs.Rows.{Check}
use Rattle.plan_text.specs.declared.plan.Arrival.{Arrival}
use Rattle.plan_text.specs.declared.plan.Plan.{Plan}
use Rattle.majority_graph.specs.Examples.{first, five}
use Rattle.run_record.specs.declared.record.RunRecord.{RunRecord}
use Rattle.run_verdict.specs.Shown.{IsCollided, IsHonest}
use Rattle.lawful_runs.specs.Lawful.{IsReadableRun}
use Rattle.headline_laws.specs.Examples.{waiting}
use Rattle.journal_rules.specs.Records.{arrivals_in, batches_in}
use Rattle.session_rules.specs.Cuts.{carried_over, cut_at, marker}
use Rattle.session_rules.specs.Histories.{HasEndedBefore}
use Rattle.session_laws.specs.Audited.{Histories, IsAuditedService}
use Rattle.session_laws.specs.OwnHistories.{lists_of, own_starts}
use Rattle.session_laws.specs.Service.{IsService}
use Rattle.session_laws.specs.Sessions.{Sessions}

-- At first, each replica receives the marker and then another transaction.
abbrev pub gets : ℕ → Arrival
gets r = record { replica = r; turn = 0; txs = marker 0 ∷ first ∷ [] }

abbrev pub marker_plan : Plan
marker_plan = record {
  setting = five;
  seed = 0;
  height = H5;
  views = 4;
  ticks = 1;
  turns = 80;
  faulty = [];
  summary = false;
  clients = [];
  arrivals = gets 0 ∷ gets 1 ∷ gets 2 ∷ gets 3 ∷ gets 4 ∷ [];
  links = [];
  deeds = [];
  restarts = [];
}

-- what each replica carries over from the first session
abbrev pub left_over : RunRecord → ℕ → List Tx
left_over run r = carried_over (cut_at (marker 0) (batches_in run r)) (arrivals_in run r)

-- In the second session only that has arrived.
abbrev pub two_sessions : RunRecord → Sessions
two_sessions run zero = run
two_sessions run (suc later) = waiting five (map (left_over run) (range_with_len 0 5))

-- what is final before each session, by the list of the first replica
abbrev pub before_each : RunRecord → Histories
before_each run zero = []
before_each run (suc later) = cut_at (marker 0) (batches_in run 0)

-- If what was delivered can be written, and no two blocks have the same digest, these are sessions of a service, in which
-- each replica starts from its own history, and each has ended the first. They also pass an auditor's checks.
abbrev pub EndsFirst : Check → RunRecord → Type 0
EndsFirst fits run = IsReadableRun run → (¬ IsCollided run)
    → IsService (λ session. fits) (two_sessions run) (own_starts (two_sessions run)) 2
    × ((r : ℕ) → IsHonest run r → HasEndedBefore (lists_of (two_sessions run) r) 1)
    × IsAuditedService (λ session. fits) (two_sessions run) (before_each run) 2
