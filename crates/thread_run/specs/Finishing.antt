-- How all passes of a log are joined once a run has ended.
use Rattle.std.specs.Prelude.{◌≡◌, ℕ, ◌+◌, ◌<◌, ◌≤◌, true, false, None, List, [], ◌∷◌, ◌++◌, Option, Some, map, length, remove, slice_get, sum_by, ⊤, All}
use Rattle.std.specs.List.{flat_map}
use Rattle.std.specs.Option.{option_to_list}
use mathlib.Core.List.{IsPrefix}
use Rattle.seq_base.specs.declared.tx.Tx.{Tx}
use Rattle.seq_base.specs.Lists.{AreDistinct, holds}
use Rattle.locked_log.specs.History.{IsPassOf, Known, Opened as Log, places, times}
use Rattle.arrival_log.specs.Arrivals.{IsArrivals}
use Rattle.arrival_log.specs.declared.log.SubmitFault.{SubmitFault}
use Rattle.arrival_log.specs.declared.log.SubmitFault.TheVariants.{NoMemory}
use Rattle.client_logs.specs.Clients.{OfClient}
use Rattle.client_logs.specs.Merges.{IsMerge}
use Rattle.client_logs.specs.Submitted.{AreShared, Claim, HoldEach, StandsAt, all_of}
use Rattle.client_logs.specs.declared.client.Client.{Client as ClientWorker}
use Rattle.plan_text.specs.declared.plan.Client.{Client as Sender}
use Rattle.plan_text.specs.declared.plan.Plan.{Plan}
use Rattle.replica_seat.specs.Feed.{arrivals_for}
use Rattle.round_rules.specs.Submissions.{submitted_to}
use Rattle.thread_run.specs.declared.driver.Driver.{Driver}
use Rattle.thread_run.specs.Going.{HasGiven}

-- ---- passes

-- the passes of each client, one for each log
abbrev pub rows_of : List ClientWorker → List (List (Known Tx))
rows_of clients = map (λ c. c.passes.items) clients

-- the element at a place of each row that has one
abbrev pub column : {X : Type 0} → ℕ → List (List X) → List X
column k rows = flat_map (λ row. option_to_list (slice_get row k)) rows

-- each row without its first element
abbrev pub later_columns : {X : Type 0} → List (List X) → List (List X)
later_columns rows = map (λ row. remove row 0) rows

-- these are all passes of a log
pub record AreAllPasses (log : Log) (passes : List (Known Tx)) : Type 0 where
  pub of : All (IsPassOf log) passes
  pub parts : sum_by (λ p. p.parts) passes ≡ log.parts

-- a pass into which these passes were joined
pub record HasJoined (passes : List (Known Tx)) (old new : Known Tx) : Type 0 where
  pub log : new.log ≡ old.log
  pub parts : new.parts ≡ old.parts + sum_by (λ p. p.parts) passes
  pub own : new.own ≡ old.own ++ flat_map (λ p. p.own) passes
  pub seen : IsPrefix old.seen new.seen
  pub reported : All (λ p. IsPrefix p.seen new.seen) passes

-- The list of a log that has exactly these passes. Each place of the list belongs to one pass, and what each pass has
-- seen is a prefix of the list.
pub record IsListOf (passes : List (Known Tx)) (list : List Tx) : Type 0 where
  pub arrivals : IsArrivals list
  pub owned : (x : ℕ) → times x (flat_map (λ p. p.own) passes) ≡ times x (places list)
  pub seen : All (λ p. IsPrefix p.seen list) passes

-- ---- all logs

-- the passes of each log are the driver's, its worker's, and one of each client
abbrev pub CanFinish : List Log → List Driver → List (Known Tx) → List (List (Known Tx)) → Type 0
CanFinish [] ds os rows = ⊤
CanFinish (l ∷ ls) [] os rows = ⊥
CanFinish (l ∷ ls) (d ∷ ds) [] rows = ⊥
CanFinish (l ∷ ls) (d ∷ ds) (o ∷ os) rows =
    AreAllPasses l (d.pass ∷ o ∷ column 0 rows) × All (λ row. 0 < length row) rows × CanFinish ls ds os (later_columns rows)

-- the lists of the logs
abbrev pub AreFinished : List Driver → List (Known Tx) → List (List (Known Tx)) → List (List Tx) → Type 0
AreFinished ds os rows [] = ⊤
AreFinished [] os rows (x ∷ xs) = ⊥
AreFinished (d ∷ ds) [] rows (x ∷ xs) = ⊥
AreFinished (d ∷ ds) (o ∷ os) rows (x ∷ xs) = IsListOf (d.pass ∷ o ∷ column 0 rows) x × AreFinished ds os (later_columns rows) xs

-- the log was not out of memory for what was submitted
abbrev pub HadMemory : Option SubmitFault → Type 0
HadMemory fault = fault ≡ Some NoMemory → ⊥

-- ---- what each log holds in the end

-- A client of the plan with a pass for each log. It has submitted everything, unless a log did not take something.
pub record HasClient (logs : List Log) (p : Sender) (c : ClientWorker) : Type 0 where
  pub id : c.id ≡ p.id
  pub count : c.count ≡ p.count
  pub of : OfClient logs c
  pub ends : c.fault ≡ None → c.next ≡ c.count
  pub had : HadMemory c.fault

-- all that is submitted to a replica's log
abbrev pub all_submitted : Plan → ℕ → List Tx
all_submitted plan at = flat_map (λ l. l) (submitted_to plan at)

-- it has room in the log, and no transaction is submitted twice
pub record HasRoom (plan : Plan) (at : ℕ) : Type 0 where
  pub distinct : AreDistinct (all_submitted plan at)
  pub short : length (all_submitted plan at) ≤ 65536

-- What is submitted to a log has room in it. The driver has submitted everything, unless the log did not take
-- something. Nothing was submitted with the worker's pass.
pub record CanMerge (plan : Plan) (logs : List Log) (k : ℕ) (d : Driver) (worker : Known Tx) : Type 0 where
  pub below : k < length logs
  pub room : HasRoom plan k
  pub given : HasGiven (arrivals_for plan.arrivals k) d
  pub ends : d.fault ≡ None → d.feed.left ≡ []
  pub had : HadMemory d.fault
  pub bare : worker.own ≡ []

-- the laws on logs whose places belong to some passes
pub record MergeLaws : Type 0 where
  pub merge : (log : List Tx) (claims : List Claim) → AreShared log claims → AreDistinct (all_of claims) → HoldEach log claims
      → IsMerge (map (λ c. c.list) claims) log
  pub room : (log : List Tx) (claims : List Claim) (k : ℕ) (c : Claim) (t : Tx) → AreShared log claims → length (all_of claims) ≤ 65536
      → slice_get claims k ≡ Some c → holds t c.list ≡ true → holds t log ≡ false → length log < 65536
  pub places : (log : List Tx) (claims : List Claim) (k : ℕ) (c : Claim) (t : Tx) → AreShared log claims → AreDistinct (all_of claims) → HoldEach log claims
      → slice_get claims k ≡ Some c → holds t c.list ≡ true → StandsAt log c.own t
