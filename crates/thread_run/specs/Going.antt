-- The state of a run between two rounds, the state once the replicas stopped, and what a record shows of it.
use Rattle.std.specs.Prelude.{◌≡◌, ℕ, zero, suc, ◌+◌, ◌*◌, ◌<◌, List, [], ◌++◌, Option, Some, None, true, false, min, length, slice_get, get_or, All}
use Rattle.std.specs.List.{AllZip}
use mathlib.Core.List.{IsPrefix}
use Rattle.seq_base.specs.declared.tx.Tx.{Tx}
use Rattle.seq_base.specs.Lists.{holds}
use Rattle.locked_log.specs.History.{Known}
use Rattle.arrival_log.specs.Arrivals.{IsArrivals}
use Rattle.arrival_log.specs.declared.log.SubmitFault.{SubmitFault}
use Rattle.arrival_log.specs.declared.log.SubmitFault.TheVariants.{Full}
use Rattle.client_logs.specs.Clients.{IsFresh, OfClient}
use Rattle.client_logs.specs.Submitted.{HoldsEach, Stands, StandsAt}
use Rattle.client_logs.specs.declared.client.Client.{Client as ClientWorker}
use Rattle.plan_text.specs.declared.plan.Client.{Client as Sender}
use Rattle.plan_text.specs.declared.plan.Plan.{Plan}
use Rattle.node_core.specs.Rows.{Check}
use Rattle.node_core.specs.Reported.{Gives}
use Rattle.run_record.specs.declared.record.RunRecord.{RunRecord}
use Rattle.replica_seat.specs.Feed.{arrivals_for, txs_of}
use Rattle.replica_seat.specs.Seats.{Meaning}
use Rattle.replica_seat.specs.declared.arrivals.TimedTx.{TimedTx}
use Rattle.round_rules.specs.Moments.{Moment, due_in, turns_at}
use Rattle.round_rules.specs.Ran.{AreMerges, IsShaped, journal_in}
use Rattle.round_rules.specs.Rounds.{HasGone}
use Rattle.thread_run.specs.declared.driver.Driver.{Driver}
use Rattle.thread_run.specs.declared.runs.Run.{Run}
use Rattle.thread_run.specs.Standing.{AllStand, journals_at, seen_at}
use Rattle.thread_run.specs.Exchange.{AreSeated, IsDriverOf}
use Rattle.thread_run.specs.Timely.{GainsFrom, IsTimely}
use Rattle.thread_run.specs.Workers.{Ready, Working}

-- ---- all workers

-- a log that holds what was seen was full at some time, without this transaction
abbrev pub WasFullFor : Tx → List Tx → Type 0
WasFullFor tx seen = (prefix : List Tx) × IsPrefix prefix seen × (length prefix ≡ 65536) × (holds tx prefix ≡ false)

-- Some of these transactions stand at a pass's own places of a log, in their order. The log holds all of them, unless
-- it did not take one. If the log was full, it was full without one of them.
pub record HasTried (list : List Tx) (fault : Option SubmitFault) (pass : Known Tx) : Type 0 where
  pub stand : Stands pass.seen (record { own = pass.own; list = list })
  pub held : fault ≡ None → HoldsEach pass.seen list
  pub full : fault ≡ Some Full → (tx : Tx) × (holds tx list ≡ true) × WasFullFor tx pass.seen

-- these transactions were tried in addition
abbrev pub Tries : List Tx → Driver → Driver → Type 0
Tries txs old new = (list : List Tx) → HasTried list old.fault old.pass → HasTried (list ++ txs) new.fault new.pass

-- the driver took a prefix of the arrivals at a log's replica, and tried to submit it
pub record HasGiven (all : List TimedTx) (d : Driver) : Type 0 where
  pub given : List TimedTx
  pub all_is : all ≡ given ++ d.feed.left
  pub tried : HasTried (txs_of given) d.fault d.pass

-- A driver's pass has seen at least as much of its log, and has the same number of parts. Its new own places are after
-- all that it had seen. A fault stays recorded.
pub record DriverGoes (old new : Driver) : Type 0 where
  pub log : new.pass.log ≡ old.pass.log
  pub parts : new.pass.parts ≡ old.pass.parts
  pub seen : IsPrefix old.pass.seen new.pass.seen
  pub gains : GainsFrom (length old.pass.seen) old.pass new.pass
  pub fault : new.fault ≡ None → old.fault ≡ None

-- the client is one of the plan
abbrev pub IsClientOf : Sender → ClientWorker → Type 0
IsClientOf p c = (c.id ≡ p.id) × (c.count ≡ p.count)

-- There is a log, a mailbox and a worker for each replica, a client for each client of the plan, and the driver's state
-- for each log. The passes of a log are the driver's, its replica's, and one of each client. Nothing was submitted with
-- the replica's pass.
pub record IsManned {S : Type 0} (plan : Plan) (run : Run S) : Type 0 where
  pub logs : length run.world.logs.items ≡ plan.setting.n
  pub boxes : length run.world.boxes.items ≡ plan.setting.n
  pub workers : length run.workers.items ≡ plan.setting.n
  pub ready : All (Ready run.world.logs.items run.world.boxes.items) run.workers.items
  pub of : All (OfClient run.world.logs.items) run.clients.items
  pub seats : AreSeated run.workers.items
  pub replicas : (at : ℕ) → at < plan.setting.n → (w : Working S) × (slice_get run.workers.items at ≡ Some w) × IsFresh w.log × (w.failed ≡ false)
  pub clients : AllZip IsClientOf plan.clients run.clients.items
  pub drivers : AllZip IsDriverOf run.world.logs.items run.drivers.items
  pub parts : AllZip (λ log d. log.parts ≡ d.pass.parts + 1 + length plan.clients) run.world.logs.items run.drivers.items
  pub given : (at : ℕ) (d : Driver) → slice_get run.drivers.items at ≡ Some d → HasGiven (arrivals_for plan.arrivals at) d
  pub due : run.due ≡ due_in plan

-- each log took all that was submitted to it
pub record AllTaken (drivers : List Driver) (clients : List ClientWorker) : Type 0 where
  pub drivers_took : (at : ℕ) (d : Driver) → slice_get drivers at ≡ Some d → d.fault ≡ None
  pub clients_took : (k : ℕ) (c : ClientWorker) → slice_get clients k ≡ Some c → c.fault ≡ None

-- ---- between two rounds

module _ {S : Type 0} (fits : Check) (plan : Plan) (m : Meaning S) (gives : ℕ → Gives) (capacity : ℕ) where
  -- what held at each tick and before each delivery of these rounds; before the first round no node was given an event
  abbrev pub HasGoneOn : ℕ → ℕ → Moment → Type 0
  HasGoneOn zero ticks now = (ticks ≡ 0) × ((at : ℕ) → at < plan.setting.n → now at ≡ [])
  HasGoneOn (suc rounds) ticks now = (base : ℕ) × HasGone fits plan gives capacity (suc rounds) ticks base now

  -- The state after `rounds` rounds, of which `ticks` had a tick. Each replica's worker stands at its place. Each
  -- client has submitted 64 transactions in each round, as far as it has them. No node knew an arrival early. If each
  -- log took everything, then at the ticks and before the deliveries held what rounds preserve.
  pub record IsGoing (rounds ticks : ℕ) (run : Run S) : Type 0 where
    pub manned : IsManned plan run
    pub stand : AllStand fits plan m gives capacity run.workers.items
    pub turns : run.turns ≡ turns_at plan (journals_at run.workers.items)
    pub few : run.turns < plan.turns + 32 * plan.setting.n
    pub next : (k : ℕ) (c : ClientWorker) → slice_get run.clients.items k ≡ Some c → c.fault ≡ None → c.next ≡ min c.count (64 * rounds)
    pub timely : IsTimely plan ticks run.turns (journals_at run.workers.items) run.drivers.items
    pub gone : AllTaken run.drivers.items run.clients.items → HasGoneOn rounds ticks (journals_at run.workers.items)

-- ---- once the replicas stopped

-- all transactions of the clients and the driver were submitted, unless a log did not take something
pub record HasStopped {S : Type 0} (plan : Plan) (run : Run S) : Type 0 where
  pub manned : IsManned plan run
  pub clients : (k : ℕ) (c : ClientWorker) → slice_get run.clients.items k ≡ Some c → c.fault ≡ None → c.next ≡ c.count
  pub drivers : (at : ℕ) (d : Driver) → slice_get run.drivers.items at ≡ Some d → d.fault ≡ None → d.feed.left ≡ []

-- a pass has seen a prefix of a list, and each of these arrivals stands in the list at an own place of the pass
pub record IsOwned (all : List TimedTx) (pass : Known Tx) (list : List Tx) : Type 0 where
  pub seen : IsPrefix pass.seen list
  pub each : (t : Tx) → holds t (txs_of all) ≡ true → StandsAt list pass.own t

-- What a record shows of a run that stopped. Each log took everything, and the arrival lists of the record are the
-- logs. In them each arrival stands at an own place of the driver's pass. The journals of the record are those of the
-- workers. Where each worker stands at its place, `AreShown` relates heads and batches to these journals.
pub record Shows {S : Type 0} (plan : Plan) (run : Run S) (shown : RunRecord) : Type 0 where
  pub taken : AllTaken run.drivers.items run.clients.items
  pub shape : IsShaped plan shown
  pub arrivals : AreMerges plan shown
  pub lists : (at : ℕ) → at < plan.setting.n → IsArrivals (get_or shown.arrivals at [])
  pub reported : (at : ℕ) → at < plan.setting.n → IsPrefix (seen_at run.workers.items at) (get_or shown.arrivals at [])
  pub owned : (at : ℕ) (d : Driver) → at < plan.setting.n → slice_get run.drivers.items at ≡ Some d
      → IsOwned (arrivals_for plan.arrivals at) d.pass (get_or shown.arrivals at [])
  pub journals : (at : ℕ) → at < plan.setting.n → journal_in shown at ≡ journals_at run.workers.items at
  pub turns : shown.turns ≡ run.turns
  pub ticks : shown.ticks ≡ run.ticks
