-- The replicas of a run, and what is in transit between them.
use Rattle.std.specs.Prelude.{◌≡◌, ℕ, List, Option, Some, None, Bool, true, false, map, not, slice_get, slice_set}
use Rattle.std.specs.Option.{option_map_or}
use Rattle.seq_base.specs.declared.tx.Tx.{Tx}
use Rattle.node_core.specs.State.{NodeValue}
use Rattle.replica_seat.specs.Seats.{Meaning, Replica, Seated, holds_due, replica_of}
use Rattle.replica_seat.specs.declared.seat.Envelope.{Envelope}

-- A run in progress: the replicas, the due transactions, the envelopes in transit with the oldest first, how many
-- envelopes were delivered, and how many ticks there were.
pub record World : Type 0 where
  pub replicas : List Replica
  pub due : List Tx
  pub queue : List Envelope
  pub turns : ℕ
  pub ticks : ℕ

-- all seats, and what is in transit
pub record Net (S : Type 0) : Type 0 where
  pub seats : List (Seated S)
  pub due : List Tx
  pub queue : List Envelope
  pub turns : ℕ
  pub ticks : ℕ

-- seats as replicas of the definition
abbrev pub replicas_of : {S : Type 0} → Meaning S → List (Seated S) → List Replica
replicas_of m seats = map (replica_of m) seats

-- all seats, and what is in transit, as a world of the definition
abbrev pub world_of : {S : Type 0} → Meaning S → Net S → World
world_of m net = record {
  replicas = replicas_of m net.seats;
  due = net.due;
  queue = net.queue;
  turns = net.turns;
  ticks = net.ticks;
}

-- whether the node at a place waits for due transactions
abbrev pub waits_at : {S : Type 0} → List Tx → List (Seated S) → ℕ → Bool
waits_at due seats at = option_map_or (λ seat. not (holds_due due seat.node.state.known)) (slice_get seats at) false

-- what is recorded of a replica that was found to wait
abbrev pub IsWaiting : {S : Type 0} → List Tx → List (Seated S) → ℕ → Bool → Type 0
IsWaiting due seats at waits = waits ≡ true → waits_at due seats at ≡ true

-- the seats, where the seat at a place has this node
abbrev pub reseated_for : {S : Type 0} → List (Seated S) → ℕ → NodeValue S → Option (Seated S) → List (Seated S)
reseated_for seats at node None = seats
reseated_for seats at node (Some seat) = slice_set seats at (record seat { node = node })

unfoldable pub reseated : {S : Type 0} → List (Seated S) → ℕ → NodeValue S → List (Seated S)
reseated seats at node = reseated_for seats at node (slice_get seats at)
