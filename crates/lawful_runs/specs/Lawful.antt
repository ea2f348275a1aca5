-- The assumptions under which a run is lawful.
use Rattle.std.specs.Prelude.{◌≡◌, ◌<◌, ℕ, List, Some, length, slice_get, All}
use Rattle.fault_script.specs.Sealing.{Signer}
use Rattle.run_record.specs.declared.record.RunRecord.{RunRecord}
use Rattle.plan_text.specs.declared.plan.Plan.{Plan}
use Rattle.replica_seat.specs.Seats.{AreReadable}
use Rattle.lawful_runs.specs.Honest.{HaveMadeNothing}

-- What is delivered to the replicas of a run can be written, if it reads as a message.
abbrev pub IsReadableRun : RunRecord → Type 0
IsReadableRun run = All (λ journal. AreReadable journal.entries) run.journals

-- a sealer for each replica of the plan, at that replica's place, which has made nothing yet
pub record AreMadeFor (plan : Plan) (sealers : List Signer) : Type 0 where
  pub count : length sealers ≡ plan.setting.n
  pub below : All (λ s. s.replica < plan.setting.n) sealers
  pub own : (at : ℕ) (s : Signer) → slice_get sealers at ≡ Some s → s.replica ≡ at
  pub fresh : HaveMadeNothing sealers
