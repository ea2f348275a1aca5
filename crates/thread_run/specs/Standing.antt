-- A replica's worker since the start of the run, and all workers between two rounds.
use Rattle.std.specs.Prelude.{◌≡◌, ℕ, ◌<◌, List, [], Some, false, slice_get}
use Rattle.std.specs.Option.{option_map_or}
use Rattle.fault_script.specs.Sealing.{signer}
use Rattle.seq_base.specs.declared.tx.Tx.{Tx}
use Rattle.mailbox.specs.Boxes.{Sender}
use Rattle.plan_text.specs.declared.plan.Plan.{Plan}
use Rattle.node_core.specs.Rows.{Check}
use Rattle.node_core.specs.Reported.{Gives}
use Rattle.node_core.specs.declared.entry.Entry.{Entry}
use Rattle.replica_seat.specs.Seats.{Meaning, replica_of}
use Rattle.replica_seat.specs.Opening.{fresh_replica}
use Rattle.round_rules.specs.Journals.{events_of}
use Rattle.round_rules.specs.Moments.{Moment}
use Rattle.thread_run.specs.Workers.{Did, Working}

-- a worker before its first event: it has received and sent nothing, and its node knows nothing
pub record IsNew {S : Type 0} (plan : Plan) (m : Meaning S) (gives : Gives) (capacity at : ℕ) (w : Working S) : Type 0 where
  pub place : w.at ≡ at
  pub replica : replica_of m w.seat ≡ fresh_replica plan (signer at capacity gives 0)
  pub taken : w.take.taken ≡ []
  pub sent : (to : ℕ) → to < plan.setting.n → (p : Sender) × (slice_get w.sends to ≡ Some p) × (p.from ≡ at) × (p.sent ≡ [])
  pub turns : w.turns ≡ 0
  pub known : w.known ≡ 0

-- the worker of a replica, starting from a new one
pub record Stands {S : Type 0} (fits : Check) (plan : Plan) (m : Meaning S) (gives : Gives) (capacity at : ℕ) (w : Working S) : Type 0 where
  pub first : Working S
  pub new : IsNew plan m gives capacity at first
  pub did : Did fits plan m (events_of w.seat.journal) first w

-- ---- all workers

-- the journal of a worker, and what its pass of its log has seen; and those of the worker at a place
abbrev pub journal_of : {S : Type 0} → Working S → List Entry
journal_of w = w.seat.journal

abbrev pub seen_by : {S : Type 0} → Working S → List Tx
seen_by w = w.log.seen

abbrev pub journals_at : {S : Type 0} → List (Working S) → Moment
journals_at workers at = option_map_or journal_of (slice_get workers at) []

abbrev pub seen_at : {S : Type 0} → List (Working S) → ℕ → List Tx
seen_at workers at = option_map_or seen_by (slice_get workers at) []

-- each replica's worker stands at its place
abbrev pub AllStand : {S : Type 0} → Check → Plan → Meaning S → (ℕ → Gives) → ℕ → List (Working S) → Type 0
AllStand {S = S} fits plan m gives capacity workers = (at : ℕ) → at < plan.setting.n
    → (w : Working S) × (slice_get workers at ≡ Some w) × Stands fits plan m (gives at) capacity at w

-- no replica's worker was out of memory
abbrev pub NoneFailed : {S : Type 0} → List (Working S) → Type 0
NoneFailed {S = S} workers = (at : ℕ) (w : Working S) → slice_get workers at ≡ Some w → w.failed ≡ false
