-- The assumptions on the events of a node, and its state after them.
use Rattle.std.specs.Prelude.{◌≡◌, ℕ, ◌<◌, ◌^◌, List, ◌++◌, length, map}
use Rattle.std.specs.List.{flat_map}
use Rattle.seq_base.specs.declared.tx.Tx.{Tx}
use Rattle.chain_state.specs.Standings.{finals}
use Rattle.hotstuff_core.specs.Rules.{view_at}
use Rattle.agreement_laws.specs.JournalPrefixes.{commit}
use Rattle.node_core.specs.declared.event.Event.{Event}
use Rattle.node_core.specs.declared.entry.Entry.{Entry}
use Rattle.node_core.specs.Rows.{chain_at}
use Rattle.node_core.specs.Runs.{AllCome, journal_of, opening_state, state_after}
use Rattle.node_core.specs.State.{State}
use Rattle.node_core.specs.Reported.{Gives}
use Rattle.journal_rules.specs.JournalPrefixes.{arrived_by}
use Rattle.journal_rules.specs.Rules.{Scale, lock_in, commit_view_of, finals_of}
use Rattle.journal_rules.specs.Shown.{shown}

-- Events that the node of this journal may be given, in a run of this many views. Their arrivals are a prefix of the
-- arrival list.
pub record MayCome (by : Scale) (views me : ℕ) (events : List Event) : Type 0 where
  pub wide : views < 2 ^ 32
  pub own : by.replica ≡ me
  pub replica : me < 256
  pub few : length by.arrivals < 2 ^ 32
  pub come : AllCome by.setting events
  pub rest : List Tx
  pub begins : by.arrivals ≡ flat_map arrived_by events ++ rest

-- A node's state is the one that its journal shows: its lock and its commit by their digests, the view of the commit,
-- and the final batches of its chain.
pub record StandsAt (by : Scale) (end : State) (journal : List Entry) : Type 0 where
  pub lock : end.known.safety.lock ≡ (lock_in by.setting journal).digest
  pub commit : end.known.safety.committed ≡ (commit by.setting (map shown journal)).digest
  pub view : view_at end.known.store end.known.safety.committed ≡ commit_view_of by.setting journal
  pub finals : finals (chain_at end.known end.known.safety.committed) ≡ finals_of by.setting journal

-- After these events the node's state is the one that its journal shows.
abbrev pub StandsAsReported : Gives → Scale → ℕ → ℕ → ℕ → List Event → Type 0
StandsAsReported gives by views me capacity events =
    let opening = opening_state by.setting views me capacity in
    StandsAt by (state_after by.fits gives opening events) (journal_of by.fits gives opening events)
