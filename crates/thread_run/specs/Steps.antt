-- The driver's steps with all workers.
use Rattle.std.specs.Prelude.{◌≡◌, ◌⊎◌, ℕ, ◌+◌, ◌*◌, ◌<◌, ◌≤◌, List, Option, Some, None, Bool, true, false, length, max, take, slice_get, sum_by, nat_lt, if◌then◌else◌}
use Rattle.std.specs.List.{AllZip, fold}
use Rattle.seq_base.specs.declared.tx.Tx.{Tx}
use Rattle.count_set.specs.Sets.{is_among}
use Rattle.fault_script.specs.Sealing.{Signer}
use Rattle.plan_text.specs.declared.plan.Plan.{Plan}
use Rattle.node_core.specs.Rows.{Check}
use Rattle.node_core.specs.Reported.{Gives}
use Rattle.replica_seat.specs.Feed.{after_giving, arrivals_for}
use Rattle.replica_seat.specs.Seats.{Meaning, holds_due}
use Rattle.round_rules.specs.Moments.{IsWhole}
use Rattle.round_rules.specs.Ran.{AreLinked}
use Rattle.thread_run.specs.declared.driver.Driver.{Driver}
use Rattle.thread_run.specs.declared.runs.Next.{Next}
use Rattle.thread_run.specs.declared.runs.Next.TheVariants.{Ends, Goes}
use Rattle.thread_run.specs.declared.runs.Run.{Run}
use Rattle.thread_run.specs.Going.{HasGiven, IsGoing, IsManned}
use Rattle.thread_run.specs.News.{Took}
use Rattle.thread_run.specs.Pairs.{AllCompared}
use Rattle.thread_run.specs.Signers.{fresh_signers}
use Rattle.thread_run.specs.Standing.{NoneFailed, journals_at, seen_at}
use Rattle.thread_run.specs.Exchange.{DriverHears, HeardFirst, ReportedClient, ReportedFirst, ReportedWorker}
use Rattle.thread_run.specs.Timely.{GoesFrom}
use Rattle.thread_run.specs.Workers.{ClientWorked, Worked, Working}

-- ---- counts

-- how many envelopes a worker delivered
abbrev pub turns_by : {S : Type 0} → Working S → ℕ
turns_by w = w.turns

-- the turns are those of the workers, and exceed the plan's by less than what one round can add
pub record IsCounted {S : Type 0} (plan : Plan) (run : Run S) : Type 0 where
  pub turns : run.turns ≡ sum_by turns_by run.workers.items
  pub few : run.turns < plan.turns + 32 * plan.setting.n
  pub few_ticks : run.ticks ≤ plan.ticks

-- The start of a run: everything is there, and nothing was delivered. With signers that have made no seals, it is a
-- state before round 0.
pub record Begins {S : Type 0} (plan : Plan) (m : Meaning S) (signers : List Signer) (run : Run S) : Type 0 where
  pub manned : IsManned plan run
  pub counted : IsCounted plan run
  pub ticks : run.ticks ≡ 0
  pub going : (fits : Check) (gives : ℕ → Gives) (capacity : ℕ) → signers ≡ fresh_signers plan gives capacity → IsGoing fits plan m gives capacity 0 0 run

-- a worker delivered at most this many envelopes, unless it was out of memory
abbrev pub HasFew : {S : Type 0} → ℕ → Working S → Type 0
HasFew most w = w.failed ≡ false → w.turns ≤ most

-- the first n workers delivered `turns` envelopes together, and none of them was out of memory
pub record AreCounted {S : Type 0} (n turns : ℕ) (workers : List (Working S)) : Type 0 where
  pub sum : turns ≡ sum_by turns_by (take n workers)
  pub memory : (at : ℕ) (w : Working S) → at < n → slice_get workers at ≡ Some w → w.failed ≡ false
  pub few : turns ≤ n * 1000000

-- ---- between rounds

-- the driver submitted what arrives at a log by a count of turns, and it comes after all that the driver had seen
abbrev pub Submits : ℕ → Driver → Driver → Type 0
Submits turns old new = (new.fault ≡ None → old.fault ≡ None) × (new.feed ≡ after_giving turns old.feed) × GoesFrom (length old.pass.seen) old.pass new.pass

-- it did so at each log
pub record HasSubmitted {S : Type 0} (plan : Plan) (turns : ℕ) (old new : Run S) : Type 0 where
  pub submitted : AllZip (Submits turns) old.drivers.items new.drivers.items
  pub manned : IsManned plan new
  pub same : new ≡ record old { drivers = new.drivers }

-- The worker of each replica was informed of all that the driver and the clients had submitted to its log, and the
-- driver of all that the worker had seen.
pub record HasReported {S : Type 0} (plan : Plan) (old new : Run S) : Type 0 where
  pub drivers : AllZip DriverHears old.drivers.items new.drivers.items
  pub workers : AllZip ReportedWorker old.workers.items new.workers.items
  pub clients : AllZip ReportedClient old.clients.items new.clients.items
  pub reported : ReportedFirst plan.setting.n old.drivers.items new.workers.items new.clients.items
  pub heard : HeardFirst plan.setting.n old.workers.items new.drivers.items
  pub manned : IsManned plan new
  pub same : new ≡ record old { workers = new.workers; clients = new.clients; drivers = new.drivers }

-- what the driver submitted to a log comes after all that the replica's worker had seen
abbrev pub SubmitsAfter : {S : Type 0} → List (Working S) → List Driver → List Driver → Type 0
SubmitsAfter workers old new = (at : ℕ) (e : Driver) → slice_get new at ≡ Some e
    → (d : Driver) × (slice_get old at ≡ Some d) × GoesFrom (length (seen_at workers at)) d.pass e.pass

-- The driver was informed of all that the replicas' workers had seen, and then submitted what arrives by a count of
-- turns. After that the worker of each replica was informed of all that the driver and the clients had submitted to its
-- log.
pub record HasHeard {S : Type 0} (plan : Plan) (turns : ℕ) (old new : Run S) : Type 0 where
  -- the driver's state for each log in between
  pub between : List Driver
  pub submitted : AllZip (Submits turns) old.drivers.items between
  pub after : SubmitsAfter old.workers.items old.drivers.items new.drivers.items
  pub given : (at : ℕ) (d : Driver) → slice_get between at ≡ Some d → HasGiven (arrivals_for plan.arrivals at) d
  pub heard : AllZip DriverHears between new.drivers.items
  pub reported : ReportedFirst plan.setting.n between new.workers.items new.clients.items
  pub workers : AllZip ReportedWorker old.workers.items new.workers.items
  pub clients : AllZip ReportedClient old.clients.items new.clients.items
  pub manned : IsManned plan new
  pub same : new ≡ record old { workers = new.workers; clients = new.clients; drivers = new.drivers }

-- ---- a round

-- the maximum of envelopes that a replica delivers in a round: 0 where the turns are used up
abbrev pub most_in : ℕ → ℕ → ℕ
most_in all turns = if nat_lt turns all then 32 else 0

-- All workers made a round, and no replica's worker was out of memory. Each replica delivered as many envelopes as it
-- may, or received everything that had been sent to it when the round began.
pub record IsStep {S : Type 0} (fits : Check) (plan : Plan) (m : Meaning S) (tick : Option ℕ) (old new : Run S) : Type 0 where
  pub worked : AllZip (Worked fits plan m old.world.logs.items old.world.boxes.items tick) old.workers.items new.workers.items
  pub took : AllZip (Took (most_in plan.turns old.turns) old.workers.items) old.workers.items new.workers.items
  pub none : NoneFailed new.workers.items
  pub went : AllZip (ClientWorked old.world.logs.items) old.clients.items new.clients.items
  pub turns : new.turns ≡ sum_by turns_by new.workers.items
  pub same : new ≡ record old { workers = new.workers; clients = new.clients; turns = new.turns }

-- ---- after a round

-- the greater of a view and that of the worker's node; the view alone for a faulty replica
abbrev pub floor_by : {S : Type 0} → List ℕ → ℕ → Working S → ℕ
floor_by faulty floor w = if is_among faulty w.at then floor else max w.seat.node.state.known.view floor

-- whether the batches of a worker's node hold every due transaction; true for a faulty replica
abbrev pub holds_by : {S : Type 0} → List ℕ → List Tx → Working S → Bool
holds_by faulty due w = if is_among faulty w.at then true else holds_due due w.seat.node.state.known

-- the batches of each honest replica hold every due transaction
abbrev pub HoldAll : {S : Type 0} → Plan → Run S → Type 0
HoldAll {S = S} plan run = (at : ℕ) (w : Working S) → slice_get run.workers.items at ≡ Some w → holds_by plan.faulty run.due w ≡ true

-- The batches of an honest replica lack a due transaction.
pub record SomeLacks {S : Type 0} (plan : Plan) (run : Run S) : Type 0 where
  pub at : ℕ
  pub worker : Working S
  pub there : slice_get run.workers.items at ≡ Some worker
  pub lacks : holds_by plan.faulty run.due worker ≡ false

-- all batches hold what is due, or there is a replica whose batches lack something
abbrev pub AnswersDone : {S : Type 0} → Plan → Run S → Bool → Type 0
AnswersDone plan run true = HoldAll plan run
AnswersDone plan run false = SomeLacks plan run

-- a run whose workers are unchanged, with this count of ticks
abbrev pub IsSame : {S : Type 0} → ℕ → Run S → Run S → Type 0
IsSame ticks old new = (new ≡ record old { workers = new.workers; ticks = ticks }) × (new.workers.items ≡ old.workers.items)

-- How a run continues where a due transaction is lacking and turns are left, by whether everything that was sent was
-- received. A round without a tick comes only while something is in flight, a tick only after all was received.
abbrev pub IsNext : {S : Type 0} → Plan → Bool → Next → Run S → Run S → Type 0
IsNext plan whole Ends old new = (new ≡ old) × (whole ≡ true) × (plan.ticks ≤ old.ticks)
IsNext plan whole (Goes None) old new = (new ≡ old) × (whole ≡ false)
IsNext plan whole (Goes (Some floor)) old new = (new ≡ record old { ticks = old.ticks + 1 }) × (whole ≡ true) × (old.ticks < plan.ticks)
    × (floor ≡ fold (floor_by plan.faulty) 0 old.workers.items)

-- How a run continues. It ends where everything due is held, or the turns are used up, or the ticks are used up and
-- everything that was sent was received. Otherwise a due transaction is lacking. A tick comes exactly where everything
-- that was sent was received, with the greatest view of the honest replicas: without one, something is in flight.
abbrev pub IsDecided : {S : Type 0} → Plan → Next → Run S → Run S → Type 0
IsDecided plan Ends old new = IsSame old.ticks old new × ((whole : Bool) × AllCompared whole old.workers.items)
    × (HoldAll plan old ⊎ ((plan.turns ≤ old.turns) ⊎ ((plan.ticks ≤ old.ticks) × AllCompared true old.workers.items)))
IsDecided plan (Goes None) old new = IsSame old.ticks old new × (old.turns < plan.turns) × AllCompared false old.workers.items × SomeLacks plan old
IsDecided plan (Goes (Some floor)) old new = IsSame (old.ticks + 1) old new × (old.turns < plan.turns) × (old.ticks < plan.ticks)
    × AllCompared true old.workers.items × (floor ≡ fold (floor_by plan.faulty) 0 old.workers.items) × SomeLacks plan old

-- The replicas stopped: every link was compared, and there is a cause.
pub record IsOver {S : Type 0} (fits : Check) (plan : Plan) (m : Meaning S) (gives : ℕ → Gives) (capacity : ℕ) (run : Run S) : Type 0 where
  pub rounds : ℕ
  pub going : IsGoing fits plan m gives capacity (rounds + 1) run.ticks run
  pub linked : AreLinked plan (journals_at run.workers.items)
  pub cause : HoldAll plan run ⊎ ((plan.turns ≤ run.turns) ⊎ ((run.ticks ≡ plan.ticks) × IsWhole plan (journals_at run.workers.items)))
