-- The logs of a run's replicas: for each logged replica, a log of the events that it was given.
use Rattle.std.specs.Prelude.{◌≡◌, ◌<◌, ◌≤◌, ℕ, List, ◌++◌, Option, Some, None, Result, Ok, Err, ⊤, false, true, length, map, All, replicate, slice_get, slice_set}
use Rattle.std.specs.Int.{w64, to_be_bytes}
use Rattle.count_set.specs.Sets.{is_among}
use Rattle.plan_text.specs.declared.plan.Plan.{Plan}
use Rattle.node_core.specs.Rows.{Check}
use Rattle.node_core.specs.Runs.{opening_state, state_after}
use Rattle.node_core.specs.Reported.{Gives}
use Rattle.node_core.specs.declared.event.Event.{Event}
use Rattle.node_core.specs.declared.entry.Entry.{Entry}
use Rattle.durable_node.specs.Check.{next_digest}
use Rattle.durable_node.specs.Header.{header_of, height_number}
use Rattle.durable_node.specs.Log.{CanBeKept, LogOf, body_of, log_digest, record_of}
use Rattle.durable_node.specs.declared.keeper.Keeper.{Ghosts}
use Rattle.durable_node.specs.declared.kept.KeptFault.{KeptFault}
use Rattle.durable_node.specs.declared.kept.KeptFault.TheVariants as kepts
use Rattle.replica_seat.specs.Seats.{Meaning, Replica, replica_of}
use Rattle.replay_run.specs.World.{Net}
use Rattle.replay_run.specs.declared.keepers.Keeping.{Keeping}
use Rattle.replay_run.specs.declared.keepers.StepFault.{StepFault}
use Rattle.replay_run.specs.declared.keepers.StepFault.TheVariants.{Keep, NoMemory}

-- the values of a keeper: its bytes, how many of them are durable, how many of its calls failed, and how many times it
-- was opened
pub record Meant (K : Type 0) : Type 0 where
  pub bytes : K → List ℕ
  pub durable_size : K → ℕ
  pub faults : K → ℕ
  pub openings : K → ℕ

abbrev pub meant : {K : Type 0} → Ghosts K → Meant K
meant k = record { bytes = k.bytes; durable_size = k.durable_size; faults = k.faults; openings = k.openings }

-- the bytes that stand in the logs of a plan's replicas instead of the digest of the public keys: the seed that all
-- keys are drawn from, and zeros
unfoldable pub keys_of : Plan → List ℕ
keys_of plan = to_be_bytes w64 plan.seed ++ replicate 24 0

-- the header of the log of a plan's replica
abbrev pub header_at : Plan → ℕ → List ℕ
header_at plan at = header_of plan.setting plan.views at (height_number plan.height) (keys_of plan)

-- ---- one event

-- the event's record was appended to the bytes, and all bytes are durable; the running digest moves on over it
pub record HasLogged {K : Type 0} (m : Meant K) (event : Event) (before : List ℕ) (old : K) (after : List ℕ) (new : K) : Type 0 where
  pub bytes : m.bytes new ≡ m.bytes old ++ record_of before event
  pub moved : after ≡ next_digest before (body_of event)
  pub durable_size : m.durable_size new ≡ length (m.bytes new)
  pub can : CanBeKept event
  pub openings : m.openings new ≡ m.openings old
  pub later : m.faults old ≤ m.faults new

-- the same for a replica's keeper, if the replica is logged
pub record HasKeptOne {K : Type 0} (m : Meant K) (event : Event) (old new : Keeping K) : Type 0 where
  pub same : new.on ≡ old.on
  pub later : m.faults old.keeper ≤ m.faults new.keeper
  pub logged : old.on ≡ true → HasLogged m event old.digest old.keeper new.digest new.keeper

abbrev pub HasKeptAt : {K : Type 0} → Meant K → Event → ℕ → List (Keeping K) → Option (Keeping K) → List (Keeping K) → Type 0
HasKeptAt m event at old None new = new ≡ old
HasKeptAt {K} m event at old (Some k) new = (after : Keeping K) × HasKeptOne m event k after × (new ≡ slice_set old at after)

-- the event of the replica at a place was logged, if that replica is logged
pub record HasKept {K : Type 0} (m : Meant K) (event : Event) (at : ℕ) (old new : List (Keeping K)) : Type 0 where
  pub kept : HasKeptAt m event at old (slice_get old at) new

-- its count of faults increased
abbrev pub RoseFrom : {K : Type 0} → Meant K → Option (Keeping K) → Option (Keeping K) → Type 0
RoseFrom m None new = ⊥
RoseFrom {K} m (Some k) new = (after : Keeping K) × (new ≡ Some after) × (m.faults k.keeper < m.faults after.keeper)

-- why an event was not logged: the count of faults of that replica's keeper increased, or memory ran out
abbrev pub IsKeepFault : {K : Type 0} → Meant K → ℕ → List (Keeping K) → List (Keeping K) → StepFault → Type 0
IsKeepFault m at old new (Keep replica) = (replica ≡ at) × RoseFrom m (slice_get old at) (slice_get new at)
IsKeepFault m at old new NoMemory = ⊤

-- the same for one keeper, by its counts of faults
abbrev pub IsLogFault : ℕ → ℕ → ℕ → StepFault → Type 0
IsLogFault at old new (Keep replica) = (replica ≡ at) × (old < new)
IsLogFault at old new NoMemory = ⊤

-- why a run stops, by why its replica was not opened or its event not logged
abbrev pub step_fault : ℕ → KeptFault → StepFault
step_fault at kepts.Keep = Keep at
step_fault at kepts.NoHeader = NoMemory
step_fault at kepts.OtherLog = NoMemory
step_fault at (kepts.BadLog place) = NoMemory
step_fault at kepts.Closed = NoMemory
step_fault at kepts.NoMemory = NoMemory

-- ---- everything that is logged

-- what does not change, by the places of replicas: the seals that each gives, how many it can make, how many times it
-- was started, and a lower bound of the faults of its keeper
pub record Incarnations : Type 0 where
  pub gives : ℕ → Gives
  pub capacity : ℕ
  pub starts : ℕ → ℕ
  pub faults : ℕ → ℕ

-- the events of a journal
abbrev pub events_of : List Entry → List Event
events_of journal = map (λ e. e.event) journal

-- The keeper holds the replica's header and then the log of its journal's events, all durable. The state of the replica
-- is the result of its turns on these events.
pub record HoldsLogOf {K : Type 0} (m : Meant K) (fits : Check) (plan : Plan) (l : Incarnations) (at : ℕ) (keeper : K) (r : Replica) : Type 0 where
  pub number : r.number ≡ at
  pub gives : r.gives ≡ l.gives at
  pub log : m.bytes keeper ≡ header_at plan at ++ LogOf (header_at plan at) (events_of r.journal)
  pub durable_size : m.durable_size keeper ≡ length (m.bytes keeper)
  pub each : All CanBeKept (events_of r.journal)
  pub state : r.state ≡ state_after fits (l.gives at) (opening_state plan.setting plan.views at l.capacity) (events_of r.journal)
  pub starts : m.openings keeper ≡ l.starts at

-- The same for a replica's keeper, if the replica is honest, with the running digest of the log; in any case the lower bound of
-- the keeper's faults holds.
pub record IsKeptBy {K : Type 0} (m : Meant K) (fits : Check) (plan : Plan) (l : Incarnations) (at : ℕ) (k : Keeping K) (r : Replica) : Type 0 where
  pub faults : l.faults at ≤ m.faults k.keeper
  pub honest : is_among plan.faulty at ≡ false
      → (k.on ≡ true) × HoldsLogOf m fits plan l at k.keeper r × (k.digest ≡ log_digest (header_at plan at) (events_of r.journal))

-- the same for each replica
pub record AreKept {K : Type 0} (m : Meant K) (fits : Check) (plan : Plan) (l : Incarnations) (keepers : List (Keeping K))
    (replicas : List Replica) : Type 0 where
  pub count : length keepers ≡ length replicas
  pub each : (at : ℕ) (k : Keeping K) (r : Replica) → slice_get keepers at ≡ Some k → slice_get replicas at ≡ Some r → IsKeptBy m fits plan l at k r

-- ---- over a part of a run

-- what was logged stays logged
pub record StaysKept {K S : Type 0} (m : Meant K) (means : Meaning S) (fits : Check) (plan : Plan) (old : List (Keeping K)) (before : Net S)
    (new : List (Keeping K)) (after : Net S) : Type 0 where
  pub stays : (l : Incarnations) → AreKept m fits plan l old (map (replica_of means) before.seats)
      → AreKept m fits plan l new (map (replica_of means) after.seats)

-- there is a keeper, and it has failed more often than this
abbrev pub HasFailed : {K : Type 0} → Meant K → ℕ → Option (Keeping K) → Type 0
HasFailed m least None = ⊥
HasFailed m least (Some k) = least < m.faults k.keeper

-- the keeper of the replica in the fault has failed more often than its lower bound
abbrev pub IsStopFor : {K : Type 0} → Meant K → (ℕ → ℕ) → List (Keeping K) → StepFault → Type 0
IsStopFor m least new (Keep replica) = HasFailed m (least replica) (slice_get new replica)
IsStopFor m least new NoMemory = ⊤

-- why a run stopped, where everything was logged before
pub record IsStop {K S : Type 0} (m : Meant K) (means : Meaning S) (fits : Check) (plan : Plan) (old : List (Keeping K)) (before : Net S)
    (new : List (Keeping K)) (fault : StepFault) : Type 0 where
  pub cause : (l : Incarnations) → AreKept m fits plan l old (map (replica_of means) before.seats) → IsStopFor m l.faults new fault

-- A part of a run: everything stays logged, or the run stopped for a cause.
abbrev pub GoesKept : {K S X : Type 0} → Meant K → Meaning S → Check → Plan → List (Keeping K) → Net S → Result X StepFault → List (Keeping K) → Net S → Type 0
GoesKept m means fits plan old before (Ok x) new after = StaysKept m means fits plan old before new after
GoesKept m means fits plan old before (Err fault) new after = IsStop m means fits plan old before new fault
