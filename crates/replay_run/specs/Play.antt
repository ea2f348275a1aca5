-- The exact run of a plan.
use Rattle.std.specs.Prelude.{ℕ, zero, suc, ◌+◌, List, [], map, if◌then◌else◌}
use Rattle.plan_text.specs.declared.plan.Plan.{Plan}
use Rattle.fault_script.specs.Sealing.{Signer}
use Rattle.run_record.specs.Done.{due_of}
use Rattle.node_core.specs.Rows.{Check}
use Rattle.run_record.specs.declared.record.RunRecord.{RunRecord}
use Rattle.replica_seat.specs.Feed.{feed_of}
use Rattle.replica_seat.specs.Opening.{fresh_replica}
use Rattle.replica_seat.specs.Showing.{batches_of, head_of, journal_of}
use Rattle.replay_run.specs.World.{World}
use Rattle.replay_run.specs.Step.{step}

-- ---- the start

-- a replica for each sealer, with nothing in transit
unfoldable pub start_of : Plan → List Signer → World
start_of plan sealers = record {
  replicas = map (fresh_replica plan) sealers;
  due = due_of plan.setting.n plan.faulty (map (λ s. (feed_of plan s.replica).txs) sealers);
  queue = [];
  turns = 0;
  ticks = 0;
}

-- ---- the run

-- after this many steps, or fewer where the run has ended
abbrev pub run_for : Check → Plan → World → ℕ → World
run_for fits plan w zero = w
run_for fits plan w (suc steps) =
    if (step fits plan w).goes_on then run_for fits plan (step fits plan w).world steps else (step fits plan w).world

-- Each step but the last delivers an envelope or is a tick.
abbrev pub steps_of : Plan → ℕ
steps_of plan = plan.turns + plan.ticks + 1

-- ---- the record

-- the record of a run that ended in this world
unfoldable pub record_of : Plan → World → RunRecord
record_of plan w = record {
  setting = plan.setting;
  faulty = plan.faulty;
  arrivals = map (λ r. r.feed.txs) w.replicas;
  journals = map journal_of w.replicas;
  heads = map head_of w.replicas;
  batches = map batches_of w.replicas;
  turns = w.turns;
  ticks = w.ticks;
}

-- the record of the run of a plan, by which seals fit and by its sealers
abbrev pub play_of : Check → Plan → List Signer → RunRecord
play_of fits plan sealers = record_of plan (run_for fits plan (start_of plan sealers) (steps_of plan))
