-- The rules by which a replica continues from one session to the next, on its own lists.
use Rattle.std.specs.Prelude.{◌≡◌, ℕ, suc, ◌<◌, List, ◌++◌, true, false}
use Rattle.seq_base.specs.declared.tx.Tx.{Tx}
use Rattle.seq_base.specs.Lists.{holds}
use Rattle.run_record.specs.Done.{is_finalised}
use Rattle.session_rules.specs.Cuts.{carried_over}
use Rattle.session_rules.specs.Histories.{SessionLists, SessionArrivals, cut_in, HasEndedBefore, history_before}

-- Nothing arrives in a session before the replica has ended all earlier ones. Otherwise it could receive, as new, what
-- the others have finalised in a session that it has not ended.
abbrev pub ArrivesInTurn : ℕ → SessionLists → SessionArrivals → Type 0
ArrivesInTurn many lists arrived = (session : ℕ) (t : Tx) → session < many → holds t (arrived session) ≡ true → HasEndedBefore lists session

-- Nothing that is in the history arrives again. Otherwise the history could hold it twice.
abbrev pub ArrivesNew : ℕ → SessionLists → SessionArrivals → Type 0
ArrivesNew many lists arrived = (session : ℕ) (t : Tx) → session < many → holds t (arrived session) ≡ true
    → is_finalised (history_before lists session) t ≡ false

-- Once the replica has ended a session, its next arrival list begins with what is carried over. Otherwise the order in
-- which it received two transactions could be reversed from one session to the next.
abbrev pub CarriesFirst : ℕ → SessionLists → SessionArrivals → Type 0
CarriesFirst many lists arrived = (session : ℕ) → suc session < many → HasEndedBefore lists (suc session)
    → (rest : List Tx) × (arrived (suc session) ≡ carried_over (cut_in lists session) (arrived session) ++ rest)

-- the rules, over the first `many` sessions
pub record CarriesOver (many : ℕ) (lists : SessionLists) (arrived : SessionArrivals) : Type 0 where
  pub in_turn : ArrivesInTurn many lists arrived
  pub new : ArrivesNew many lists arrived
  pub carries : CarriesFirst many lists arrived
