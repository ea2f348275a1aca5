-- From a run whose replicas stopped to its record.
use Rattle.std.specs.Prelude.{◌≡◌, ℕ, ◌*◌, ◌<◌, ◌≤◌, None}
use Rattle.std.specs.List.{AllZip}
use Rattle.client_logs.specs.declared.client.Client.{Client as ClientWorker}
use Rattle.plan_text.specs.declared.plan.Plan.{Plan}
use Rattle.node_core.specs.Rows.{Check}
use Rattle.node_core.specs.Reported.{Gives}
use Rattle.run_record.specs.declared.record.RunRecord.{RunRecord}
use Rattle.round_rules.specs.Journals.{before_tick}
use Rattle.round_rules.specs.Moments.{Knows, Moment, turns_at}
use Rattle.round_rules.specs.Ran.{AreTicked, at_cut}
use Rattle.round_rules.specs.Rounds.{HasGone}
use Rattle.thread_run.specs.declared.runs.Run.{Run}
use Rattle.thread_run.specs.Going.{AllTaken}
use Rattle.thread_run.specs.Steps.{SubmitsAfter}
use Rattle.thread_run.specs.Exchange.{ReportedWorker}

-- a client that continued until it was done, where each log took everything
abbrev pub Completes : ClientWorker → ClientWorker → Type 0
Completes old new = (new.id ≡ old.id) × (new.count ≡ old.count) × (new.fault ≡ None → (old.fault ≡ None) × (new.next ≡ new.count))

-- the clients of a run continued so, and nothing else changed
pub record HasEnded {S : Type 0} (old new : Run S) : Type 0 where
  pub ended : AllZip Completes old.clients.items new.clients.items
  pub same : new ≡ record old { clients = new.clients }

-- Only the clients and the driver continued. The replicas' workers have at most seen more of their logs. What the
-- driver submitted comes after all that they had seen. A log that did not take a transaction is still recorded as such.
pub record WentOn {S : Type 0} (old new : Run S) : Type 0 where
  pub workers : AllZip ReportedWorker old.workers.items new.workers.items
  pub after : SubmitsAfter old.workers.items old.drivers.items new.drivers.items
  pub taken : AllTaken new.drivers.items new.clients.items → AllTaken old.drivers.items old.clients.items
  pub turns : new.turns ≡ old.turns
  pub ticks : new.ticks ≡ old.ticks

-- the laws on what rounds preserve
pub record RoundLaws : Type 0 where
  pub ticks : (fits : Check) (plan : Plan) (gives : ℕ → Gives) (capacity : ℕ) (run : RunRecord) (rounds base : ℕ) (m : Moment)
      → HasGone fits plan gives capacity rounds run.ticks base m → run.turns ≡ turns_at plan m → AreTicked fits plan gives capacity run m
  pub fed : (fits : Check) (plan : Plan) (gives : ℕ → Gives) (capacity rounds ticks base : ℕ) (m : Moment)
      → HasGone fits plan gives capacity rounds ticks base m → (k at : ℕ) → k ≤ ticks → at < plan.setting.n
      → Knows plan at (turns_at plan (at_cut k m)) (64 * k) (before_tick k (m at))
