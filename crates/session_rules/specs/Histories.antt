-- The history of one replica over its sessions, which are numbered from 0: the cuts of its sessions, joined.
use Rattle.std.specs.Prelude.{◌≡◌, ℕ, zero, suc, ◌<◌, List, [], ◌++◌, Bool, ◌&&◌, true}
use Rattle.seq_base.specs.declared.tx.Tx.{Tx}
use Rattle.run_record.specs.Done.{is_finalised}
use Rattle.session_rules.specs.Cuts.{marker, cut_at}

-- a replica's list of final batches of each session
abbrev pub SessionLists : Type 0
SessionLists = ℕ → List (List Tx)

-- a replica's arrival list of each session
abbrev pub SessionArrivals : Type 0
SessionArrivals = ℕ → List Tx

-- the cut of a session
abbrev pub cut_in : SessionLists → ℕ → List (List Tx)
cut_in lists session = cut_at (marker session) (lists session)

-- The replica has ended each session before this one: its list holds the session's marker.
abbrev pub HasEndedBefore : SessionLists → ℕ → Type 0
HasEndedBefore lists session = (earlier : ℕ) → earlier < session → is_finalised (lists earlier) (marker earlier) ≡ true

-- the same as a test
abbrev pub has_ended_before : SessionLists → ℕ → Bool
has_ended_before lists zero = true
has_ended_before lists (suc session) = has_ended_before lists session && is_finalised (lists session) (marker session)

-- the cuts of all sessions before this one, joined
abbrev pub history_before : SessionLists → ℕ → List (List Tx)
history_before lists zero = []
history_before lists (suc session) = history_before lists session ++ cut_in lists session

-- the history of a replica that runs this session
abbrev pub history : SessionLists → ℕ → List (List Tx)
history lists session = history_before lists session ++ cut_in lists session
