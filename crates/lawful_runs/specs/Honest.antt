-- An honest replica of a run: its node, given some events.
use Rattle.std.specs.Prelude.{◌≡◌, ℕ, ◌*◌, ◌<◌, ◌≤◌, List, ◌++◌, All, slice_get}
use Rattle.std.specs.List.{flat_map}
use Rattle.std.specs.Option.{option_map_or}
use Rattle.fault_script.specs.Sealing.{Signer}
use Rattle.node_core.specs.declared.event.Event.{Event}
use Rattle.node_core.specs.Rows.{Check}
use Rattle.plan_text.specs.declared.plan.Plan.{Plan}
use Rattle.replica_seat.specs.Feed.{txs_of, timed_for}
use Rattle.replica_seat.specs.Seats.{Replica}
use Rattle.replica_seat.specs.Senders.{IsFrom}
use Rattle.journal_rules.specs.JournalPrefixes.{arrived_by}
use Rattle.node_core.specs.Runs.{opening_state, journal_of, state_after}

-- the count of seals that the sealer of the replica at this place can make
abbrev pub capacity_at : List Signer → ℕ → ℕ
capacity_at sealers at = option_map_or (λ s. s.capacity) (slice_get sealers at) 0

-- The replica at a place is the one with that number. Its journal is that of its node on some events, from its opening
-- state with a sealer of this capacity, and its state is the one after them. What arrived is a prefix of its arrival
-- list, which is the plan's.
pub record IsRun (fits : Check) (plan : Plan) (at capacity : ℕ) (r : Replica) : Type 0 where
  pub number : r.number ≡ at
  pub below : r.number < plan.setting.n
  pub list : r.feed.txs ≡ txs_of (timed_for plan r.number)
  pub events : List Event
  pub journal : r.journal ≡ journal_of fits r.gives (opening_state plan.setting plan.views r.number capacity) events
  pub state : r.state ≡ state_after fits r.gives (opening_state plan.setting plan.views r.number capacity) events
  pub from : All (IsFrom plan.setting.n) events
  pub arrived : r.feed.txs ≡ flat_map arrived_by events ++ txs_of r.feed.left

-- no seal was made before the run
abbrev pub HaveMadeNothing : List Signer → Type 0
HaveMadeNothing sealers = All (λ s. s.made ≡ 0) sealers

-- No turn of the replica's node was left without a seal. At most five were made for each view, of those that its sealer
-- can make, and with any other sealer that can make as many the journal is the same.
pub record IsNeverSpent (fits : Check) (plan : Plan) (s : Signer) (r : Replica) : Type 0 where
  pub room : 5 * plan.views ≤ s.capacity
  pub few : r.state.made ≤ 5 * plan.views
  pub events : List Event
  pub state : r.state ≡ state_after fits r.gives (opening_state plan.setting plan.views r.number s.capacity) events
  pub journal : (capacity : ℕ) → 5 * plan.views ≤ capacity
      → r.journal ≡ journal_of fits r.gives (opening_state plan.setting plan.views r.number capacity) events
