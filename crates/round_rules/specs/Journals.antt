-- Deliveries, sends and ticks in a journal.
use Rattle.std.specs.Prelude.{ℕ, zero, suc, ◌+◌, ◌==◌, List, [], ◌∷◌, Bool, true, false, map, filter, if◌then◌else◌}
use Rattle.std.specs.List.{flat_map}
use Rattle.seq_base.specs.declared.message.Outgoing.{Outgoing}
use Rattle.seq_base.specs.declared.tx.Tx.{Tx}
use Rattle.node_core.specs.declared.event.Event.{Event}
use Rattle.node_core.specs.declared.event.Event.TheVariants.{Arrived, Deliver, Tick}
use Rattle.node_core.specs.declared.entry.Entry.{Entry}

-- the events that a replica was given, in order
abbrev pub events_of : List Entry → List Event
events_of journal = map (λ e. e.event) journal

abbrev pub is_delivery : Event → Bool
is_delivery (Arrived list) = false
is_delivery (Deliver from bytes) = true
is_delivery (Tick floor) = false

abbrev pub is_tick : Event → Bool
is_tick (Arrived list) = false
is_tick (Deliver from bytes) = false
is_tick (Tick floor) = true

-- the count of delivered envelopes, and the count of ticks
abbrev pub deliveries : List Event → ℕ
deliveries [] = 0
deliveries (e ∷ es) = (if is_delivery e then 1 else 0) + deliveries es

abbrev pub ticks_in : List Event → ℕ
ticks_in [] = 0
ticks_in (e ∷ es) = (if is_tick e then 1 else 0) + ticks_in es

-- the arrivals of an event, and those of all events: what the node then knows
abbrev pub carried_by : Event → List Tx
carried_by (Arrived list) = list
carried_by (Deliver from bytes) = []
carried_by (Tick floor) = []

abbrev pub known_in : List Event → List Tx
known_in events = flat_map carried_by events

-- the bytes that were delivered from a replica, in order
abbrev pub bytes_from : ℕ → Event → List (List ℕ)
bytes_from sender (Arrived list) = []
bytes_from sender (Deliver from bytes) = if from == sender then bytes ∷ [] else []
bytes_from sender (Tick floor) = []

abbrev pub delivered_from : ℕ → List Event → List (List ℕ)
delivered_from sender events = flat_map (bytes_from sender) events

-- the bytes that were sent to a replica, in order
abbrev pub bytes_to : ℕ → List Outgoing → List (List ℕ)
bytes_to receiver sends = map (λ s. s.bytes) (filter (λ s. s.to == receiver) sends)

abbrev pub sent_to : ℕ → List Entry → List (List ℕ)
sent_to receiver journal = flat_map (λ e. bytes_to receiver e.turned.sends) journal

-- The entries before tick k, counted from 0, or all if there is no such tick.
abbrev pub before_tick : ℕ → List Entry → List Entry
before_tick zero [] = []
before_tick (suc k) [] = []
before_tick zero (e ∷ es) = if is_tick e.event then [] else e ∷ before_tick zero es
before_tick (suc k) (e ∷ es) = if is_tick e.event then e ∷ before_tick k es else e ∷ before_tick (suc k) es

-- The cut with a number: nothing for 0, otherwise the entries before the tick with that number, counted from 1.
abbrev pub cut : ℕ → List Entry → List Entry
cut zero journal = []
cut (suc k) journal = before_tick k journal
