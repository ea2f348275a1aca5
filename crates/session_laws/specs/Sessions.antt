-- The sessions of one service, numbered from 0, and the histories of replicas over them. A replica starts a session from
-- a history: from its own, or from one that it took from another replica. A session may have its own seals, faulty
-- replicas and setting.
use Rattle.std.specs.Prelude.{◌≡◌, ℕ, List, ◌++◌, true, Option, Some}
use Rattle.seq_base.specs.declared.tx.Tx.{Tx}
use Rattle.run_record.specs.Done.{is_finalised}
use Rattle.run_record.specs.declared.record.RunRecord.{RunRecord}
use Rattle.run_verdict.specs.Shown.{IsHonest}
use Rattle.journal_rules.specs.Records.{batches_in}
use Rattle.session_rules.specs.Cuts.{marker, cut_at}

-- the record of each session
abbrev pub Sessions : Type 0
Sessions = ℕ → RunRecord

-- batches, earliest first
abbrev pub History : Type 0
History = List (List Tx)

-- the cut of a replica's list of a session
abbrev pub cut_of : Sessions → ℕ → ℕ → History
cut_of sessions session r = cut_at (marker session) (batches_in (sessions session) r)

-- the history from which a replica starts a session, if it starts it, by the session and the replica
abbrev pub Starts : Type 0
Starts = ℕ → ℕ → Option History

-- A replica that is honest in a session starts it from this history.
pub record StartsFrom (sessions : Sessions) (starts : Starts) (session r : ℕ) (start : History) : Type 0 where
  pub honest : IsHonest (sessions session) r
  pub start_is : starts session r ≡ Some start

-- A replica that is honest in a session has this history in it: that from which it started, and then the session's cut.
pub record HasHistory (sessions : Sessions) (starts : Starts) (session r : ℕ) (history : History) : Type 0 where
  pub start : History
  pub started : StartsFrom sessions starts session r start
  pub is : history ≡ start ++ cut_of sessions session r

-- Such a replica has ended the session with this history: its list holds the session's marker.
pub record EndsWith (sessions : Sessions) (starts : Starts) (session r : ℕ) (history : History) : Type 0 where
  pub has : HasHistory sessions starts session r history
  pub marked : is_finalised (batches_in (sessions session) r) (marker session) ≡ true
