-- The assumptions on the arrivals and deliveries of a run in rounds.
use Rattle.std.specs.Prelude.{ℕ, ◌<◌}
use Rattle.journal_rules.specs.Records.{arrivals_in}
use Rattle.run_record.specs.declared.record.RunRecord.{RunRecord}
use Rattle.plan_text.specs.declared.plan.Plan.{Plan}
use Rattle.replica_seat.specs.Arrivals.{IsArrivalList}
use Rattle.lawful_runs.specs.Lawful.{IsReadableRun}

-- the record has an arrival list for each replica
abbrev pub HaveArrivalLists : Plan → RunRecord → Type 0
HaveArrivalLists plan run = (r : ℕ) → r < plan.setting.n → IsArrivalList (arrivals_in run r)

-- the claim, if that is so and what was delivered to the replicas can be written
abbrev pub WhereFed : Plan → RunRecord → Type 0 → Type 0
WhereFed plan run claim = HaveArrivalLists plan run → IsReadableRun run → claim
