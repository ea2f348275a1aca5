-- What workers and the driver are informed of between rounds.
use Rattle.std.specs.Prelude.{◌≡◌, ℕ, ◌<◌, ◌≤◌, List, Some, None, slice_get, get_or}
use Rattle.std.specs.List.{AllZip}
use mathlib.Core.List.{IsPrefix}
use Rattle.seq_base.specs.declared.tx.Tx.{Tx}
use Rattle.locked_log.specs.History.{HasLooked, IsPassOf, Opened as Log}
use Rattle.client_logs.specs.Clients.{SeenMore, numbered}
use Rattle.client_logs.specs.Submitted.{HoldsEach}
use Rattle.client_logs.specs.declared.client.Client.{Client as ClientWorker}
use Rattle.thread_run.specs.declared.driver.Driver.{Driver}
use Rattle.thread_run.specs.Standing.{seen_at}
use Rattle.thread_run.specs.Workers.{Working}

-- a client whose passes have seen at least as much, and nothing else changed
pub record ReportedClient (old new : ClientWorker) : Type 0 where
  pub same : (new.id ≡ old.id) × (new.count ≡ old.count) × (new.next ≡ old.next) × (new.fault ≡ old.fault)
  pub seen : AllZip SeenMore old.passes.items new.passes.items

-- a replica's worker whose pass has seen at least as much, and nothing else changed
pub record ReportedWorker {S : Type 0} (old new : Working S) : Type 0 where
  pub rest : new ≡ record old { log = new.log }
  pub looked : HasLooked old.log new.log

-- a list that holds all that a client has submitted, unless a log did not take something of it
abbrev pub HoldsOf : List Tx → ClientWorker → Type 0
HoldsOf seen c = c.fault ≡ None → HoldsEach seen (numbered c.id c.next)

-- the same for the first k clients
abbrev pub HoldsFirst : ℕ → List Tx → List ClientWorker → Type 0
HoldsFirst k seen clients = (i : ℕ) (c : ClientWorker) → i < k → slice_get clients i ≡ Some c → HoldsOf seen c

-- The worker of a replica has seen all of a list, and all that the clients have submitted to its log.
abbrev pub IsReportedAll : {S : Type 0} → List Tx → List ClientWorker → Working S → Type 0
IsReportedAll seen clients w = IsPrefix seen w.log.seen × ((i : ℕ) (c : ClientWorker) → slice_get clients i ≡ Some c → HoldsOf w.log.seen c)

-- the same for the worker at a place
abbrev pub ReportedAt : {S : Type 0} → ℕ → List Tx → List (Working S) → List ClientWorker → Type 0
ReportedAt {S = S} k seen workers clients = (d : Working S) → IsReportedAll seen clients (get_or workers k d)

-- the worker of each replica stands at its place
abbrev pub AreSeated : {S : Type 0} → List (Working S) → Type 0
AreSeated {S = S} workers = (k : ℕ) (w : Working S) → slice_get workers k ≡ Some w → w.at ≡ k

-- ---- all logs

abbrev pub IsDriverOf : Log → Driver → Type 0
IsDriverOf log d = IsPassOf log d.pass × (2 ≤ d.pass.parts)

-- the driver's pass of a log has seen at least as much, and nothing else changed
pub record DriverHears (old new : Driver) : Type 0 where
  pub looked : HasLooked old.pass new.pass
  pub feed : new.feed ≡ old.feed
  pub fault : new.fault ≡ old.fault

-- the workers of the first k replicas were informed of all that the driver had seen of their logs, and of all that the
-- clients had submitted
abbrev pub ReportedFirst : {S : Type 0} → ℕ → List Driver → List (Working S) → List ClientWorker → Type 0
ReportedFirst k drivers workers clients = (j : ℕ) (d : Driver) → j < k → ReportedAt j (get_or drivers j d).pass.seen workers clients

-- the driver was informed of all that the workers of the first k replicas had seen of their logs
abbrev pub HeardFirst : {S : Type 0} → ℕ → List (Working S) → List Driver → Type 0
HeardFirst k workers drivers = (j : ℕ) (d : Driver) → j < k → IsPrefix (seen_at workers j) (get_or drivers j d).pass.seen
