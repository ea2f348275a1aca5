-- A service in which no replica takes a history from another, and the same replicas are faulty in all sessions. There the
-- rules of `session_rules`, which speak of one replica's own lists, are the premises.
use Rattle.std.specs.Prelude.{◌≡◌, ℕ, ◌<◌, Some, None, if◌then◌else◌}
use Rattle.run_verdict.specs.Shown.{IsHonest}
use Rattle.node_core.specs.Rows.{Check}
use Rattle.journal_rules.specs.Records.{arrivals_in, batches_in}
use Rattle.session_rules.specs.Histories.{SessionLists, SessionArrivals, has_ended_before, history_before}
use Rattle.session_rules.specs.Rules.{CarriesOver}
use Rattle.session_laws.specs.Service.{AreSound}
use Rattle.session_laws.specs.Sessions.{Sessions, Starts}

-- a replica's list of batches of each session
abbrev pub lists_of : Sessions → ℕ → SessionLists
lists_of sessions r session = batches_in (sessions session) r

-- its arrival list of each session
abbrev pub receipts_of : Sessions → ℕ → SessionArrivals
receipts_of sessions r session = arrivals_in (sessions session) r

-- a replica that has ended all earlier sessions starts the next one from its own history
abbrev pub own_starts : Sessions → Starts
own_starts sessions session r = if has_ended_before (lists_of sessions r) session then Some (history_before (lists_of sessions r) session) else None

-- The records are sound, all have the same setting and the same faulty replicas, and each honest replica carries over.
pub record IsOwnService (fits : ℕ → Check) (sessions : Sessions) (many : ℕ) : Type 0 where
  pub sound : AreSound fits sessions many
  pub setting : (session : ℕ) → session < many → (sessions session).setting ≡ (sessions 0).setting
  pub faulty : (session : ℕ) → session < many → (sessions session).faulty ≡ (sessions 0).faulty
  pub carries : (r : ℕ) → IsHonest (sessions 0) r → CarriesOver many (lists_of sessions r) (receipts_of sessions r)
