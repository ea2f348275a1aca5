-- What a replica's worker is, and what it does in a round.
use Rattle.std.specs.Prelude.{◌≡◌, ◌⊎◌, ℕ, ◌+◌, ◌<◌, ◌≤◌, List, [], ◌∷◌, ◌++◌, Option, Some, None, Bool, true, false, All, take, length, slice_get, slice_set}
use Rattle.std.specs.List.{AllZip, flat_map, fold}
use mathlib.Core.List.{IsPrefix}
use Rattle.seq_base.specs.declared.tx.Tx.{Tx}
use Rattle.client_logs.specs.Clients.{Goes, OfClient}
use Rattle.client_logs.specs.declared.client.Client.{Client as ClientWorker}
use Rattle.locked_log.specs.History.{HasLooked, IsPassOf, Known, Opened as Log}
use Rattle.mailbox.specs.Boxes.{IsSenderOf, IsReceiverOf, Opened as Box, Sender, Receiver, sent_more}
use Rattle.mailbox.specs.Mail.{Emptied, WasEmpty}
use Rattle.mailbox.specs.declared.envelope.Envelope.{Envelope as Letter}
use Rattle.mailbox.specs.declared.rule.News.{News}
use Rattle.plan_text.specs.declared.plan.Plan.{Plan}
use Rattle.node_core.specs.Rows.{Check}
use Rattle.node_core.specs.declared.event.Event.{Event}
use Rattle.node_core.specs.declared.event.Event.TheVariants.{Arrived, Deliver, Tick}
use Rattle.replica_seat.specs.Seats.{Meaning, Seated, replica_of}
use Rattle.replica_seat.specs.Acting.{after_event}
use Rattle.replica_seat.specs.declared.seat.Envelope.{Envelope}
use Rattle.round_rules.specs.Acts.{acts}
use Rattle.round_rules.specs.Journals.{deliveries, known_in}
use Rattle.round_rules.specs.Rounds.{IsFed, tick_of}

-- A worker: the replica's place, its seat, its pass of the log, how many entries of the log the node knows, its
-- receiving pass of its mailbox, its sending passes of all mailboxes, how many envelopes it delivered, and whether
-- memory ran out.
pub record Working (S : Type 0) : Type 0 where
  pub at : ℕ
  pub seat : Seated S
  pub log : Known Tx
  pub known : ℕ
  pub take : Receiver
  pub sends : List Sender
  pub turns : ℕ
  pub failed : Bool

-- what the node knows
abbrev pub knows : {S : Type 0} → Working S → List Tx
knows w = take w.known w.log.seen

-- ---- passes

-- an envelope is put into the mailbox of its receiver, if there is one
abbrev pub posted_for : List Sender → Envelope → Option Sender → List Sender
posted_for sends e None = sends
posted_for sends e (Some p) = slice_set sends e.to (sent_more p e.bytes)

abbrev pub posted_one : List Sender → Envelope → List Sender
posted_one sends e = posted_for sends e (slice_get sends e.to)

unfoldable pub posted : List Sender → List Envelope → List Sender
posted sends queue = fold posted_one sends queue

-- what was received from the mailbox is what was delivered
abbrev pub letters_of : Event → List Letter
letters_of (Arrived list) = []
letters_of (Deliver from bytes) = (record { from = from; bytes = bytes }) ∷ []
letters_of (Tick floor) = []

abbrev pub letters_in : List Event → List Letter
letters_in events = flat_map letters_of events

-- the pass after these events, with what it was informed of by then
abbrev pub taken_with : Receiver → List Event → List News → Receiver
taken_with pass events heard = record pass { taken = pass.taken ++ letters_in events; heard = heard }

-- an envelope that one of n senders put into a mailbox
abbrev pub IsOf : ℕ → Letter → Type 0
IsOf n letter = letter.from < n

-- the passes of a worker belong to its log and to the mailboxes
pub record Belongs {S : Type 0} (logs : List Log) (boxes : List Box) (w : Working S) : Type 0 where
  pub log : (o : Log) × (slice_get logs w.at ≡ Some o) × IsPassOf o w.log
  pub take : (b : Box) × (slice_get boxes w.at ≡ Some b) × IsReceiverOf b w.take × (b.senders ≡ length boxes)
  pub sends : AllZip IsSenderOf boxes w.sends
  -- what was received came from replicas that have mailboxes
  pub senders : All (IsOf (length boxes)) w.take.taken
  -- the node knows no more than what the pass has seen
  pub known : w.known ≤ length w.log.seen

-- ---- what a worker did

-- Its replica was given these events, one after the other. What it sent was put into the mailboxes, and what was
-- delivered was received. What arrived are the entries of the log after those that the node knew.
pub record Did {S : Type 0} (fits : Check) (plan : Plan) (m : Meaning S) (events : List Event) (old new : Working S) : Type 0 where
  pub at : new.at ≡ old.at
  pub replica : replica_of m new.seat ≡ (acts fits plan old.at (record { replica = replica_of m old.seat; queue = [] }) events).replica
  pub sends : new.sends ≡ posted old.sends (acts fits plan old.at (record { replica = replica_of m old.seat; queue = [] }) events).queue
  pub take : new.take ≡ taken_with old.take events new.take.heard
  pub turns : new.turns ≡ old.turns + deliveries events
  pub log : HasLooked old.log new.log
  pub knows : knows new ≡ knows old ++ known_in events

-- One event: the replica was given it, and what it sends was put into the mailboxes.
pub record Reported {S : Type 0} (fits : Check) (plan : Plan) (m : Meaning S) (event : Event) (old new : Working S) : Type 0 where
  pub replica : replica_of m new.seat ≡ (after_event fits plan old.at (replica_of m old.seat) [] event).replica
  pub rest : new ≡ record old { seat = new.seat; sends = posted old.sends (after_event fits plan old.at (replica_of m old.seat) [] event).queue }

-- an arrival of transactions is one event; an empty list is no event
abbrev pub arrived_event : List Tx → List Event
arrived_event [] = []
arrived_event (t ∷ ts) = Arrived (t ∷ ts) ∷ []

-- A look at the log: the node was given the entries after those that it knew, so that it knows all that the pass has
-- seen.
pub record Heard {S : Type 0} (fits : Check) (plan : Plan) (m : Meaning S) (old new : Working S) : Type 0 where
  pub list : List Tx
  pub did : Did fits plan m (arrived_event list) old new
  pub all : knows new ≡ new.log.seen
  pub news : new.take.heard ≡ old.take.heard

-- A look into the mailbox: an envelope was delivered, or there was none. If there was none, everything that the pass
-- was informed of was received.
abbrev pub Takes : {S : Type 0} → Check → Plan → Meaning S → Bool → Working S → Working S → Type 0
Takes fits plan m true old new = (from : ℕ) × (bytes : List ℕ) × Did fits plan m (Deliver from bytes ∷ []) old new × (new.take.heard ≡ old.take.heard)
Takes fits plan m false old new = (new ≡ old) × WasEmpty old.take

-- A round of a replica: its tick where the round has one, and then at most 32 deliveries. Before each delivery and at
-- the end, the node knows all that the pass had seen of the log when the round began.
pub record Works {S : Type 0} (fits : Check) (plan : Plan) (m : Meaning S) (tick : Option ℕ) (old new : Working S) : Type 0 where
  pub events : List Event
  pub did : Did fits plan m (tick_of tick ++ events) old new
  pub fed : IsFed old.log.seen (knows old) 32 events
  pub reported : IsPrefix old.log.seen (knows new)

-- A round delivers what waits: as many envelopes as it may, or all that the worker was informed of before the round.
abbrev pub Drains : {S : Type 0} → ℕ → Working S → Working S → Type 0
Drains most old new = (new.turns ≡ old.turns + most) ⊎ Emptied new.take.taken old.take.heard

-- ---- a round of a worker

-- A replica's worker whose passes belong to these logs and mailboxes. Its count of turns has room for a round.
abbrev pub Ready : {S : Type 0} → List Log → List Box → Working S → Type 0
Ready logs boxes w = Belongs logs boxes w × (w.turns + 32 < 4294967296)

-- what it did, unless memory ran out
abbrev pub Worked : {S : Type 0} → Check → Plan → Meaning S → List Log → List Box → Option ℕ → Working S → Working S → Type 0
Worked fits plan m logs boxes tick old new = new.failed ≡ false → Works fits plan m tick old new × Belongs logs boxes new

-- It delivered at most this many envelopes, unless memory ran out.
abbrev pub DeliversFew : {S : Type 0} → ℕ → Working S → Working S → Type 0
DeliversFew most old new = new.failed ≡ false → new.turns ≤ old.turns + most

-- It delivered what was waiting, unless memory ran out.
abbrev pub Drained : {S : Type 0} → ℕ → Working S → Working S → Type 0
Drained most old new = new.failed ≡ false → Drains most old new

-- a client's round
abbrev pub ClientWorked : List Log → ClientWorker → ClientWorker → Type 0
ClientWorked logs old new = OfClient logs new × Goes old new
