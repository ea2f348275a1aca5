-- Services of which an auditor has checked one session after another. What is final before a session is worked out from the
-- list of one honest replica in each earlier session. It serves for all replicas, also where one took a history from another.
use Rattle.std.specs.Prelude.{◌≡◌, ℕ, zero, suc, ◌<◌, List, [], ◌++◌, true, Some, if◌then◌else◌}
use Rattle.seq_base.specs.declared.tx.Tx.{Tx}
use Rattle.run_record.specs.Done.{is_finalised}
use Rattle.run_record.specs.Honest.{is_honest}
use Rattle.run_verdict.specs.Shown.{IsHonest}
use Rattle.node_core.specs.Rows.{Check}
use Rattle.journal_rules.specs.Records.{arrivals_in, batches_in}
use Rattle.session_rules.specs.Cuts.{marker}
use Rattle.session_rules.specs.Final.{MayFollow, is_known}
use Rattle.session_laws.specs.Service.{AreSound}
use Rattle.session_laws.specs.Sessions.{Sessions, Starts, History, cut_of}

-- what is final before each session
abbrev pub Histories : Type 0
Histories = ℕ → History

-- The next session starts from this one's history and the cut of an honest replica that has ended this one.
pub record IsEnded (sessions : Sessions) (before : Histories) (session q : ℕ) : Type 0 where
  pub honest : IsHonest (sessions session) q
  pub marked : is_finalised (batches_in (sessions session) q) (marker session) ≡ true
  pub is : before (suc session) ≡ before session ++ cut_of sessions session q

-- what arrived at a replica in the session before, if it was honest there
abbrev pub arrived_before : Sessions → ℕ → ℕ → List Tx
arrived_before sessions zero r = []
arrived_before sessions (suc session) r =
    if is_honest (sessions session).setting.n (sessions session).faulty r then arrivals_in (sessions session) r else []

-- What arrived at a replica in this session may follow the history before it: the check of `FinalTxs` (`session_rules`).
abbrev pub MayHaveArrived : Sessions → Histories → ℕ → ℕ → Type 0
MayHaveArrived sessions before session r =
    MayFollow (is_finalised (before session)) (arrived_before sessions session r) (arrivals_in (sessions session) r)

-- The records of the first `many` sessions are sound, each session but the last is ended, and the arrivals of each honest
-- replica have passed the check.
pub record IsAuditedService (fits : ℕ → Check) (sessions : Sessions) (before : Histories) (many : ℕ) : Type 0 where
  pub sound : AreSound fits sessions many
  pub empty : before 0 ≡ []
  pub ended : (session : ℕ) → suc session < many → (q : ℕ) × IsEnded sessions before session q
  pub arrived : (session r : ℕ) → session < many → IsHonest (sessions session) r → MayHaveArrived sessions before session r

-- Each replica that is honest in a session starts it from the history before it.
abbrev pub audited_starts : Histories → Starts
audited_starts before session r = Some (before session)

-- A set with these keys has what is in the history.
abbrev pub KnowsHistory : List Tx → History → Type 0
KnowsHistory keys history = (t : Tx) → is_known keys t ≡ is_finalised history t
