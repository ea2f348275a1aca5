-- One step of a run.
use Rattle.std.specs.Prelude.{ℕ, ◌+◌, List, [], ◌∷◌, Option, Some, None, Bool, true, false, ◌||◌, ◌&&◌, not, nat_le, nat_lt, max, slice_get, slice_set, if◌then◌else◌}
use Rattle.std.specs.List.{fold, list_all, range_with_len}
use Rattle.std.specs.Option.{option_map_or}
use Rattle.seq_base.specs.declared.tx.Tx.{Tx}
use Rattle.count_set.specs.Sets.{is_among}
use Rattle.plan_text.specs.declared.plan.Plan.{Plan}
use Rattle.node_core.specs.Rows.{Check}
use Rattle.node_core.specs.declared.event.Event.TheVariants.{Arrived, Deliver, Tick}
use Rattle.replica_seat.specs.Feed.{after_giving, arrived}
use Rattle.replica_seat.specs.Seats.{Replica, holds_due}
use Rattle.replay_run.specs.World.{World}
use Rattle.replay_run.specs.Acting.{event_at}
use Rattle.replica_seat.specs.declared.seat.Envelope.{Envelope}

-- the replicas of a plan, ascending
abbrev pub everyone : Plan → List ℕ
everyone plan = range_with_len 0 plan.setting.n

-- ---- arrivals

-- arrivals come as one event; an empty list is no event
abbrev pub reported_arrived : Check → Plan → World → ℕ → List Tx → World
reported_arrived fits plan w at [] = w
reported_arrived fits plan w at (t ∷ ts) = event_at fits plan w at (Arrived (t ∷ ts))

-- the world in which a replica was given what arrived by now
abbrev pub taken_for : World → ℕ → Option Replica → World
taken_for w at None = w
taken_for w at (Some r) = record w { replicas = slice_set w.replicas at (record r { feed = after_giving w.turns r.feed }) }

-- the same for the replica at a place
unfoldable pub taken_at : World → ℕ → World
taken_at w at = taken_for w at (slice_get w.replicas at)

-- what arrived by now at the replica at a place, and was not given yet
unfoldable pub arrived_at : World → ℕ → List Tx
arrived_at w at = option_map_or (λ r. arrived w.turns r.feed) (slice_get w.replicas at) []

-- it is given to that replica
abbrev pub given_at : Check → Plan → World → ℕ → World
given_at fits plan w at = reported_arrived fits plan (taken_at w at) at (arrived_at w at)

-- the same for each of these replicas, one after another
abbrev pub given_over : Check → Plan → World → List ℕ → World
given_over fits plan w replicas = fold (given_at fits plan) w replicas

-- each replica is given what arrived by now
unfoldable pub give_arrivals : Check → Plan → World → World
give_arrivals fits plan w = given_over fits plan w (everyone plan)

-- ---- the end

-- the batches of the replica at a place hold every due transaction
abbrev pub holds_due_at : World → ℕ → Bool
holds_due_at w at = option_map_or (λ r. holds_due w.due r.state.known) (slice_get w.replicas at) true

-- the same for each of these replicas that is honest
abbrev pub done_over : Plan → World → List ℕ → Bool
done_over plan w replicas = list_all (λ at. is_among plan.faulty at || holds_due_at w at) replicas

-- Done: the batches of every honest replica hold every due transaction.
unfoldable pub has_all_due : Plan → World → Bool
has_all_due plan w = done_over plan w (everyone plan)

-- the replica is one of the plan, and honest
abbrev pub counts : Plan → ℕ → Bool
counts plan at = nat_lt at plan.setting.n && not (is_among plan.faulty at)

-- ---- ticks

-- the view of the replica at a place
abbrev pub replica_view : World → ℕ → ℕ
replica_view w at = option_map_or (λ r. r.state.known.view) (slice_get w.replicas at) 0

-- the greatest of a view and those of the honest ones among these replicas
abbrev pub floor_over : Plan → World → ℕ → List ℕ → ℕ
floor_over plan w floor replicas = fold (λ floor at. if is_among plan.faulty at then floor else max (replica_view w at) floor) floor replicas

-- the greatest view of the honest replicas
unfoldable pub floor_of : Plan → World → ℕ
floor_of plan w = floor_over plan w 0 (everyone plan)

-- a tick of each of these replicas, with the same floor
abbrev pub ticked_over : Check → Plan → ℕ → World → List ℕ → World
ticked_over fits plan floor w replicas = fold (λ w at. event_at fits plan w at (Tick floor)) w replicas

-- a tick of each replica, whose floor is the greatest honest view before it
unfoldable pub tick_all : Check → Plan → World → World
tick_all fits plan w = ticked_over fits plan (floor_of plan w) w (everyone plan)

-- ---- the step

-- the world after a step, and whether the run continues
pub record Stepped : Type 0 where
  pub goes_on : Bool
  pub world : World

-- the run ends here
abbrev pub ended : World → Stepped
ended w = record { goes_on = false; world = w }

-- the run continues from here
abbrev pub going_on : World → Stepped
going_on w = record { goes_on = true; world = w }

-- The oldest envelope is delivered as one turn. If there is none, each replica has a tick, unless the run had as many
-- ticks as it may have.
abbrev pub next_for : Check → Plan → World → List Envelope → Stepped
next_for fits plan w (e ∷ rest) = going_on (event_at fits plan (record w { queue = rest; turns = w.turns + 1 }) e.to (Deliver e.from e.bytes))
next_for fits plan w [] = if nat_le plan.ticks w.ticks then ended w else going_on (tick_all fits plan (record w { ticks = w.ticks + 1 }))

-- the next event, unless the run had as many turns as it may have
unfoldable pub advanced : Check → Plan → World → Stepped
advanced fits plan w = if nat_le plan.turns w.turns then ended w else next_for fits plan w w.queue

-- the same, unless all is done
abbrev pub unless_done : Check → Plan → World → Stepped
unless_done fits plan w = if has_all_due plan w then ended w else advanced fits plan w

-- One step. What arrived is given. The run ends where all is done, or where it had its turns. Otherwise the oldest
-- envelope is delivered. If there is none, the run ends where it had its ticks. Otherwise each replica has a tick.
unfoldable pub step : Check → Plan → World → Stepped
step fits plan w = unless_done fits plan (give_arrivals fits plan w)
