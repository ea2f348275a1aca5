-- The start of a threaded run.
use Rattle.std.specs.Prelude.{◌≡◌, ℕ, ◌+◌, ◌<◌, ◌≤◌, List, [], ◌∷◌, Some, None, false, map, length, slice_get}
use Rattle.std.specs.Global.{Vec}
use Rattle.seq_base.specs.declared.tx.Tx.{Tx}
use Rattle.locked_log.specs.History.{IsPassOf, Known, Opened as Log, known}
use Rattle.mailbox.specs.Boxes.{Opened as Box, Sender as SendPass, Receiver, sender_in}
use Rattle.client_logs.specs.Clients.{OfClient}
use Rattle.client_logs.specs.declared.client.Client.{Client as ClientWorker}
use Rattle.plan_text.specs.declared.plan.Arrival.{Arrival}
use Rattle.plan_text.specs.declared.plan.Client.{Client as Sender}
use Rattle.replica_seat.specs.Feed.{feed_without_clients}
use Rattle.replica_seat.specs.Seats.{Seated}
use Rattle.thread_run.specs.declared.driver.Driver.{Driver}
use Rattle.thread_run.specs.Workers.{Working}

-- ---- passes of logs

-- a pass of a log with this many parts, which has seen and submitted nothing
abbrev pub pass_with : ℕ → Log → Known Tx
pass_with parts log = known log.name parts [] []

-- a pass that may give a part away
abbrev pub HasTwo : Log → Known Tx → Type 0
HasTwo log pass = IsPassOf log pass × (2 ≤ pass.parts)

-- a client that has submitted nothing, with a pass for each log
pub record IsNewClient (logs : List Log) (p : Sender) (c : ClientWorker) : Type 0 where
  pub id : c.id ≡ p.id
  pub count : c.count ≡ p.count
  pub next : c.next ≡ 0
  pub fault : c.fault ≡ None
  pub of : OfClient logs c

-- the driver's state for a log, and for the logs of the replicas from a place on
abbrev pub driver_with : List Arrival → ℕ → Known Tx → Driver
driver_with arrivals at pass = record { pass = pass; feed = feed_without_clients arrivals at; fault = None }

abbrev pub drivers_from : List Arrival → ℕ → List (Known Tx) → List Driver
drivers_from arrivals at [] = []
drivers_from arrivals at (p ∷ ps) = driver_with arrivals at p ∷ drivers_from arrivals (at + 1) ps

-- ---- passes of mailboxes

-- the lists that vectors hold, instead of the vectors
abbrev pub rows_in : {X : Type 0} → List (Vec X) → List (List X)
rows_in vecs = map (λ v. v.items) vecs

-- the passes of a mailbox, one for each of n senders, in their order
pub record IsDealt (n : ℕ) (box : Box) (row : List SendPass) : Type 0 where
  pub count : length row ≡ n
  pub each : (i : ℕ) → i < n → slice_get row i ≡ Some (sender_in box.name i)

-- ---- workers

-- a replica's worker that has done nothing
abbrev pub worker_with : {S : Type 0} → ℕ → Seated S → Known Tx → Receiver → List SendPass → Working S
worker_with at seat log take sends = record { at = at; seat = seat; log = log; known = 0; take = take; sends = sends; turns = 0; failed = false }

-- the workers of the replicas from a place on
abbrev pub workers_from : {S : Type 0} → ℕ → List (Seated S) → List (Known Tx) → List Receiver → List (List SendPass) → List (Working S)
workers_from at [] os ts rows = []
workers_from at (s ∷ ss) [] ts rows = []
workers_from at (s ∷ ss) (o ∷ os) [] rows = []
workers_from at (s ∷ ss) (o ∷ os) (t ∷ ts) [] = []
workers_from at (s ∷ ss) (o ∷ os) (t ∷ ts) (row ∷ rows) = worker_with at s o t row ∷ workers_from (at + 1) ss os ts rows
