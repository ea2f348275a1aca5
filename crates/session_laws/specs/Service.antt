-- What the laws over sessions assume of the first `many` sessions.
use Rattle.std.specs.Prelude.{◌≡◌, ℕ, suc, ◌<◌, List, [], ◌++◌, true, false, IsSome}
use Rattle.seq_base.specs.declared.tx.Tx.{Tx}
use Rattle.seq_base.specs.Lists.{holds}
use Rattle.run_record.specs.Done.{is_finalised}
use Rattle.run_verdict.specs.Shown.{IsHonest}
use Rattle.node_core.specs.Rows.{Check}
use Rattle.journal_rules.specs.Records.{arrivals_in}
use Rattle.headline_laws.specs.Premises.{IsSound}
use Rattle.session_rules.specs.Cuts.{carried_over}
use Rattle.session_laws.specs.Sessions.{Sessions, Starts, StartsFrom, EndsWith}

-- Each session has a sound record: at most f of its replicas are faulty, the others' parts obey the protocol, no seal is
-- forged and no two blocks have the same digest. So what is proved of one session holds of each.
abbrev pub AreSound : (ℕ → Check) → Sessions → ℕ → Type 0
AreSound fits sessions many = (session : ℕ) → session < many → IsSound (fits session) (sessions session)

-- Nothing is final before the first session.
abbrev pub StartEmpty : Sessions → Starts → Type 0
StartEmpty sessions starts = (r : ℕ) (start : List (List Tx)) → StartsFrom sessions starts 0 r start → start ≡ []

-- A replica starts each later session from a history with which an honest replica has ended the session before. This is
-- its own, or one that it took from another, as one that f+1 replicas report. Otherwise histories could differ.
abbrev pub StartFromEnded : Sessions → Starts → ℕ → Type 0
StartFromEnded sessions starts many = (session r : ℕ) (start : List (List Tx)) → suc session < many
    → StartsFrom sessions starts (suc session) r start → (q : ℕ) × EndsWith sessions starts session q start

-- What arrives at an honest replica arrives in a session that it has started, and is not in the history from which it
-- started. Otherwise a history could hold a transaction twice.
abbrev pub ArriveNew : Sessions → Starts → ℕ → Type 0
ArriveNew sessions starts many = (session r : ℕ) (t : Tx) → session < many → IsHonest (sessions session) r
    → holds t (arrivals_in (sessions session) r) ≡ true
    → (start : List (List Tx)) × StartsFrom sessions starts session r start × (is_finalised start t ≡ false)

-- A replica that starts a session and was honest in the one before had started that too. What arrived there and is not in
-- the history comes first in its arrival list, in the same order. Otherwise the order of receipt could be reversed.
abbrev pub CarryOver : Sessions → Starts → ℕ → Type 0
CarryOver sessions starts many = (session r : ℕ) (start : List (List Tx)) → suc session < many → IsHonest (sessions session) r
    → StartsFrom sessions starts (suc session) r start
    → IsSome (starts session r) × (rest : List Tx) × (arrivals_in (sessions (suc session)) r ≡ carried_over start (arrivals_in (sessions session) r) ++ rest)

-- The first `many` sessions are those of one service.
pub record IsService (fits : ℕ → Check) (sessions : Sessions) (starts : Starts) (many : ℕ) : Type 0 where
  pub sound : AreSound fits sessions many
  pub empty : StartEmpty sessions starts
  pub ended : StartFromEnded sessions starts many
  pub new : ArriveNew sessions starts many
  pub carries : CarryOver sessions starts many
