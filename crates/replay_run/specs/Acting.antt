-- One event of a replica of a run.
use Rattle.std.specs.Prelude.{ℕ, Option, Some, None, slice_get, slice_set}
use Rattle.plan_text.specs.declared.plan.Plan.{Plan}
use Rattle.node_core.specs.Rows.{Check}
use Rattle.node_core.specs.declared.event.Event.{Event}
use Rattle.replica_seat.specs.Seats.{Replica}
use Rattle.replica_seat.specs.Acting.{After, after_event}
use Rattle.replay_run.specs.World.{World}

-- the world with that replica at its place
abbrev pub in_world : World → ℕ → After → World
in_world w at a = record w { replicas = slice_set w.replicas at a.replica; queue = a.queue }

-- a place without a replica has no event
abbrev pub event_for : Check → Plan → World → ℕ → Event → Option Replica → World
event_for fits plan w at event None = w
event_for fits plan w at event (Some r) = in_world w at (after_event fits plan at r w.queue event)

-- an event of the replica at a place
unfoldable pub event_at : Check → Plan → World → ℕ → Event → World
event_at fits plan w at event = event_for fits plan w at event (slice_get w.replicas at)
