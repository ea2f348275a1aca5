-- A replica that is given events, one after the other.
use Rattle.std.specs.Prelude.{ℕ, List, [], map, filter, ◌==◌}
use Rattle.std.specs.List.{fold}
use Rattle.plan_text.specs.declared.plan.Plan.{Plan}
use Rattle.fault_script.specs.Sealing.{signer}
use Rattle.node_core.specs.Rows.{Check}
use Rattle.node_core.specs.Reported.{Gives}
use Rattle.node_core.specs.declared.event.Event.{Event}
use Rattle.replica_seat.specs.Acting.{After, after_event}
use Rattle.replica_seat.specs.Opening.{fresh_replica}
use Rattle.replica_seat.specs.declared.seat.Envelope.{Envelope}

-- the replica before its first event, with nothing in transit
abbrev pub opening : Plan → Gives → ℕ → ℕ → After
opening plan gives capacity at = record { replica = fresh_replica plan (signer at capacity gives 0); queue = [] }

-- one more event: its sends are appended to all earlier sends
abbrev pub act : Check → Plan → ℕ → After → Event → After
act fits plan at a event = after_event fits plan at a.replica a.queue event

abbrev pub acts : Check → Plan → ℕ → After → List Event → After
acts fits plan at a events = fold (act fits plan at) a events

-- the replica of a plan after these events, with all that it has put in transit
unfoldable pub after_events : Check → Plan → Gives → ℕ → ℕ → List Event → After
after_events fits plan gives capacity at events = acts fits plan at (opening plan gives capacity at) events

-- the part that is sent to a replica
abbrev pub on_way_to : ℕ → List Envelope → List (List ℕ)
on_way_to receiver queue = map (λ e. e.bytes) (filter (λ e. e.to == receiver) queue)
