-- The sealers of a run in rounds.
use Rattle.std.specs.Prelude.{◌≡◌, ℕ, ◌*◌, ◌<◌, ◌≤◌, false}
use Rattle.count_set.specs.Sets.{is_among}
use Rattle.fault_script.specs.Sealing.{signer}
use Rattle.node_core.specs.Rows.{Check}
use Rattle.node_core.specs.Reported.{Gives}
use Rattle.run_record.specs.declared.record.RunRecord.{RunRecord}
use Rattle.plan_text.specs.declared.plan.Plan.{Plan}
use Rattle.plan_text.specs.Rules.{KeepsRules}
use Rattle.replica_seat.specs.Seats.{Replica}
use Rattle.round_rules.specs.Acts.{after_events}
use Rattle.round_rules.specs.Journals.{events_of}
use Rattle.round_rules.specs.Ran.{Ran, journal_in}
use Rattle.lawful_runs.specs.Honest.{IsNeverSpent}

module _ (fits : Check) (plan : Plan) (gives : ℕ → Gives) (capacity : ℕ) where
  -- the replica at this place, after the events of its journal in the record
  abbrev pub replica_in : RunRecord → ℕ → Replica
  replica_in run at = (after_events fits plan (gives at) capacity at (events_of (journal_in run at))).replica

  -- Its journal is that of the record, and no turn of its node was left without a seal.
  pub record IsNeverSpentIn (run : RunRecord) (at : ℕ) : Type 0 where
    pub journal : (replica_in run at).journal ≡ journal_in run at
    pub number : (replica_in run at).number ≡ at
    pub gives_same : (replica_in run at).gives ≡ gives at
    pub never : IsNeverSpent fits plan (signer at capacity (gives at) 0) (replica_in run at)

  -- the claim for each honest replica, if the plan keeps its rules, sealers suffice for its views, and the record is
  -- that of a run in rounds
  abbrev pub WhereRan : RunRecord → (ℕ → Type 0) → Type 0
  WhereRan run claim = KeepsRules plan → 5 * plan.views ≤ capacity → Ran fits plan gives capacity run
      → (at : ℕ) → at < plan.setting.n → is_among plan.faulty at ≡ false → claim at
