-- The replicas of a run that are logged, and restarted during it.
use Rattle.std.specs.Prelude.{◌≡◌, ◌<◌, ◌-◌, ◌^◌, ◌+◌, ◌==◌, ◌≤◌, ℕ, List, Result, Ok, Err, IfOk, Some, true, map, slice_get, slice_set, if◌then◌else◌}
use Rattle.seal_kit.specs.Seals.{capacity_of}
use Rattle.seal_kit.specs.declared.height.Height.{Height}
use Rattle.plan_text.specs.declared.plan.Plan.{Plan}
use Rattle.node_core.specs.Rows.{Check}
use Rattle.node_core.specs.State.{NodeValue, State}
use Rattle.node_core.specs.Reported.{Gives}
use Rattle.replica_seat.specs.Seats.{Meaning, Replica, replica_of}
use Rattle.durable_node.specs.Log.{log_digest}
use Rattle.replay_run.specs.Kept.{AreKept, HoldsLogOf, IsStopFor, Incarnations, Meant, events_of, header_at}
use Rattle.replay_run.specs.World.{Net}
use Rattle.replay_run.specs.declared.keepers.Keeping.{Keeping}
use Rattle.replay_run.specs.declared.keepers.StepFault.{StepFault}

-- What a run with keepers is about: the values of keepers and sealers, which seals fit, the plan, and which seals each
-- of its replicas gives.
pub record Ground (K S : Type 0) : Type 0 where
  pub keeps : Meant K
  pub means : Meaning S
  pub fits : Check
  pub plan : Plan
  pub gives : ℕ → Gives

-- the seals that the replicas of a plan give, by what their maker's sealers give
abbrev pub gives_for : (ℕ → Height → ℕ → ℕ → Gives) → Plan → ℕ → Gives
gives_for gives plan = gives plan.seed plan.height plan.setting.n

abbrev pub ground : {K S : Type 0} → Meant K → Meaning S → Check → Plan → (ℕ → Height → ℕ → ℕ → Gives) → Ground K S
ground keeps means fits plan gives = record { keeps = keeps; means = means; fits = fits; plan = plan; gives = gives_for gives plan }

-- its replicas, each started this many times, with these lower bounds of the keepers' faults
abbrev pub lifetimes_of : {K S : Type 0} → Ground K S → (ℕ → ℕ) → (ℕ → ℕ) → Incarnations
lifetimes_of g starts faults = record { gives = g.gives; capacity = capacity_of g.plan.height; starts = starts; faults = faults }

-- all honest replicas are logged, and were started this many times
abbrev pub AreStarted : {K S : Type 0} → Ground K S → (ℕ → ℕ) → (ℕ → ℕ) → List (Keeping K) → Net S → Type 0
AreStarted g starts least keepers net = AreKept g.keeps g.fits g.plan (lifetimes_of g starts least) keepers (map (replica_of g.means) net.seats)

-- the lower bound 0 for the faults of every keeper
abbrev pub none_failed : ℕ → ℕ
none_failed at = 0

-- so few starts that each replica can be restarted
pub record IsUnderWay {K S : Type 0} (g : Ground K S) (keepers : List (Keeping K)) (net : Net S) : Type 0 where
  pub starts : ℕ → ℕ
  pub few : (at : ℕ) → starts at < 2 ^ 64 - 1
  pub kept : AreStarted g starts none_failed keepers net

-- the replica at a place is started once more
abbrev pub once_more : ℕ → (ℕ → ℕ) → ℕ → ℕ
once_more replica starts at = starts at + (if replica == at then 1 else 0)

-- A reopened node has the state that its replica had, and the keeper holds the same log, with this running digest.
pub record IsAgain {K : Type 0} (m : Meant K) (fits : Check) (plan : Plan) (l : Incarnations) (at : ℕ) (keeper : K) (digest : List ℕ)
    (r : Replica) (now : State) : Type 0 where
  pub state : now ≡ r.state
  pub kept : HoldsLogOf m fits plan l at keeper r
  pub moved : digest ≡ log_digest (header_at plan at) (events_of r.journal)

abbrev pub started_again : Incarnations → ℕ → Incarnations
started_again l replica = record l { starts = once_more replica l.starts }

-- The keeper at a place holds the log of a replica with an unchanged state, and no other keeper was touched.
pub record IsReopened {K : Type 0} (m : Meant K) (fits : Check) (plan : Plan) (l : Incarnations) (at : ℕ) (r : Replica) (now : State)
    (k : Keeping K) (old new : List (Keeping K)) : Type 0 where
  pub after : Keeping K
  pub on : after.on ≡ true
  pub later : m.faults k.keeper ≤ m.faults after.keeper
  pub again : IsAgain m fits plan (started_again l at) at after.keeper after.digest r now
  pub put : new ≡ slice_set old at after

-- A replica is reopened over its keeper, with a sealer that gives these seals and can make this many. If the keeper
-- holds the log of a replica that gave the same seals and could make as many, the reopened node has the state of that
-- replica.
abbrev pub OpensAgain : {K S : Type 0} → Meant K → Check → Plan → ℕ → Gives → ℕ → K → Result (NodeValue S) StepFault → K → List ℕ → Type 0
OpensAgain m fits plan at gives capacity old result new digest = (l : Incarnations) (r : Replica) → HoldsLogOf m fits plan l at old r
    → gives ≡ l.gives at → capacity ≡ l.capacity
    → IfOk result (λ node. IsAgain m fits plan (started_again l at) at new digest r node.state)

-- the same for the replica whose keeper is at a place
abbrev pub OpensAgainAt : {K S : Type 0} → Meant K → Check → Plan → ℕ → Gives → ℕ → List (Keeping K) → Result (NodeValue S) StepFault
    → List (Keeping K) → Type 0
OpensAgainAt {K} m fits plan at gives capacity old result new = (l : Incarnations) (r : Replica) (k : Keeping K) → slice_get old at ≡ Some k
    → HoldsLogOf m fits plan l at k.keeper r
    → gives ≡ l.gives at → capacity ≡ l.capacity → IfOk result (λ node. IsReopened m fits plan l at r node.state k old new)

-- there is an element at this place
pub record IsHere {X : Type 0} (xs : List X) (at : ℕ) : Type 0 where
  pub it : X
  pub here : slice_get xs at ≡ Some it

-- everything is logged after a part of the run, or the keeper that stopped it has failed
abbrev pub AreStartedOr : {K S X : Type 0} → Ground K S → (ℕ → ℕ) → (ℕ → ℕ) → Result X StepFault → List (Keeping K) → Net S → Type 0
AreStartedOr g starts least (Ok x) new after = AreStarted g starts least new after
AreStartedOr g starts least (Err fault) new after = IsStopFor g.keeps least new fault

-- a part of the run, by how many times the replicas were started before it and after it
pub record Starts {K S X : Type 0} (g : Ground K S) (from to : ℕ → ℕ) (old : List (Keeping K)) (before : Net S)
    (result : Result X StepFault) (new : List (Keeping K)) (after : Net S) : Type 0 where
  pub go : (least : ℕ → ℕ) → AreStarted g from least old before → AreStartedOr g to least result new after
