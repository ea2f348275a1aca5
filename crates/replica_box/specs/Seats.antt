-- What contracts see of a replica, and what its calls do to it.
use Rattle.std.specs.Prelude.{◌≡◌, ℕ, List, [], ◌∷◌, ◌++◌, Bool, true, false, IsTrue}
use Rattle.seq_base.specs.declared.tx.Tx.{Tx}
use Rattle.seq_base.specs.declared.message.Outgoing.{Outgoing}
use Rattle.chain_state.specs.Standings.{finals, is_used}
use Rattle.intake.specs.Desk.{Desk}
use Rattle.hss_seal.specs.Any.{any_gives}
use Rattle.hss_seal.specs.declared.any.AnySealer.{AnySealer}
use Rattle.node_core.specs.declared.event.Event.{Event}
use Rattle.node_core.specs.declared.event.Reason.{Reason}
use Rattle.node_core.specs.Idle.{Changes}
use Rattle.node_core.specs.Memory.{MayRunOut, judging_takes_memory}
use Rattle.node_core.specs.Rows.{Check, chain_at}
use Rattle.node_core.specs.State.{Known, NodeValue}
use Rattle.node_core.specs.Reported.{Gives, Outcome}
use Rattle.node_core.specs.Turn.{turn_of}
use Rattle.durable_node.specs.Log.{CanBeKept}
use Rattle.replica_box.specs.CheckerKeys.{CheckerKeys, keys_fit}
use Rattle.replica_box.specs.Hosting.{Continues, Prepared, digest_past}

pub record Seat : Type 0 where
  pub node : NodeValue AnySealer
  -- the keys by which it checks seals
  pub checker : CheckerKeys
  -- the header of its log
  pub header : List ℕ
  -- the events that are prepared, the next one first, and the running digest of the log after the last of them
  pub ready : List Prepared
  pub digest : List ℕ
  -- the statements that the last turn sealed, and the messages that it sends
  pub sealed : List (List ℕ)
  pub sends : List Outgoing
  -- what it received and heard
  pub desk : Desk

-- which seals the replica accepts
abbrev pub fits_of : Seat → Check
fits_of seat = keys_fit seat.checker

-- the seals that its sealer gives
abbrev pub gives_of : Seat → Gives
gives_of seat = any_gives seat.node.sealer

-- the final batches of a node
abbrev pub finals_at : Known → List (List Tx)
finals_at known = finals (chain_at known known.safety.committed)

-- whether the chain of the block of its highest certificate proposes a transaction
abbrev pub proposes : Known → Tx → Bool
proposes known tx = is_used (chain_at known known.high.block) tx

-- what its turn on an event answers, and the state that it leaves
abbrev pub outcome_of : Seat → Event → Outcome
outcome_of seat event = turn_of (fits_of seat) (gives_of seat) seat.node.state event

-- Memory is taken to judge the event, before the node changes.
abbrev pub IsJudgedWithMemory : Seat → Event → Type 0
IsJudgedWithMemory seat event = IsTrue (judging_takes_memory (fits_of seat) seat.node.state.known event)

-- Memory may run out in its turn on the event.
abbrev pub CanRunOut : Seat → Event → Type 0
CanRunOut seat event = MayRunOut (fits_of seat) seat.node.state event (outcome_of seat event)

-- ---- preparing

-- Its turn on the event leaves the state as it is, and seals nothing.
pub record IsIdle (seat : Seat) (event : Event) : Type 0 where
  pub state : (outcome_of seat event).state ≡ seat.node.state
  pub sealed : (outcome_of seat event).reported.sealed ≡ []

-- An event as it is prepared in this state, after the last one: it has a record where its turn changes
-- the state. In every state that a host's run reaches it has one exactly there (`host_laws`).
pub record IsPrepared (event : Event) (seat : Seat) (ready : Prepared) : Type 0 where
  pub event_is : ready.event ≡ event
  pub idle : ready.has_record ≡ false → IsIdle seat event
  pub changes : ready.has_record ≡ true → Changes seat.node.state (outcome_of seat event)
  pub can : ready.has_record ≡ true → CanBeKept event
  pub after : ready.digest ≡ seat.digest

-- The event is the last one of those that are prepared.
pub record HasPrepared (event : Event) (old new : Seat) : Type 0 where
  pub ready : Prepared
  pub prepared : IsPrepared event old ready
  pub is : new ≡ record old { ready = old.ready ++ ready ∷ []; digest = digest_past ready }

-- ---- acting

-- The turn on an event: its seals and messages are the outcome's, the state is the one that it leaves, and the lifetime of the
-- host's log continues.
pub record HasTurned (first : Prepared) (more : List Prepared) (reason : Reason) (old new : Seat) : Type 0 where
  pub reason_is : (outcome_of old first.event).reported.reason ≡ reason
  pub sealed : (outcome_of old first.event).reported.sealed ≡ new.sealed
  pub sends : (outcome_of old first.event).reported.sends ≡ new.sends
  pub state : (outcome_of old first.event).state ≡ new.node.state
  pub rest : new.ready ≡ more
  pub digest : new.digest ≡ old.digest
  pub desk : new.desk ≡ old.desk
  pub checker : new.checker ≡ old.checker
  pub gives : gives_of new ≡ gives_of old
  pub lived : Continues (fits_of old) (gives_of old) old.node.state first more new.node.state

-- the same of the event that was prepared first
abbrev pub HasActed : Reason → Seat → Seat → Type 0
HasActed reason old new = (first : Prepared) (more : List Prepared) → old.ready ≡ first ∷ more → HasTurned first more reason old new

-- The event that was prepared first has no record, and its turn would change the state now. It is taken out of the prepared
-- ones, and nothing else is done.
pub record IsAgain (old new : Seat) : Type 0 where
  pub first : Prepared
  pub more : List Prepared
  pub was : old.ready ≡ first ∷ more
  pub unlogged : first.has_record ≡ false
  pub changes : Changes old.node.state (outcome_of old first.event)
  pub is : new ≡ record old { ready = more }
