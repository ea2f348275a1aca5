-- What the tests of a turn find before the node changes, and what the node then does.
use Rattle.std.specs.Prelude.{◌≡◌, ◌<◌, ◌≤◌, [], false, true, ⊤}
use Rattle.seq_base.specs.declared.digest.Digest.{Digest}
use Rattle.seq_base.specs.declared.block.Block.{Block}
use Rattle.seq_base.specs.Limits.{IsWithin}
use Rattle.block_store.specs.Store.{block_digest, is_stored, clashes}
use Rattle.wire_view.specs.Views.{Call}
use Rattle.node_core.specs.declared.judged.Judged.{Judged}
use Rattle.node_core.specs.declared.judged.Judged.TheVariants.{Idle, Active}
use Rattle.node_core.specs.declared.judged.Accepted.{Accepted}
use Rattle.node_core.specs.declared.judged.Accepted.TheVariants.{Arrived, Tick, NewView, Ask, Order, Propose, Vote, Give}
use Rattle.node_core.specs.State.{Known, State, knowing}
use Rattle.node_core.specs.Reported.{Gives, Outcome}
use Rattle.node_core.specs.NewView.{new_view_done}
use Rattle.node_core.specs.Ask.{ask_done}
use Rattle.node_core.specs.Order.{order_done}
use Rattle.node_core.specs.Propose.{propose_done}
use Rattle.node_core.specs.Vote.{vote_done}
use Rattle.node_core.specs.Give.{give_done}
use Rattle.node_core.specs.Turn.{on_arrived, calls}
use Rattle.node_core.specs.Idle.{Changes}

-- the outcome of an accepted event
abbrev pub applied : Gives → State → Accepted → Outcome
applied gives s (Arrived list) = on_arrived s list.now
applied gives s (Tick view) = calls gives (knowing s (record s.known { view = view }))
applied gives s (NewView from call) = new_view_done gives s from call
applied gives s (Ask from call) = ask_done gives s from call
applied gives s (Order sealed) = order_done gives s sealed
applied gives s (Propose block digest) = propose_done gives s block
applied gives s (Vote vote order) = vote_done gives s vote.vote order
applied gives s (Give block digest) = give_done s block

-- The call is for a view of the run, and shows a certificate of an earlier one.
pub record IsInRun (s : Known) (call : Call) : Type 0 where
  pub view : call.view ≤ s.views
  pub earlier : call.cert.view < call.view

-- The block can be stored: its view is one of the run, its parent is of an earlier view and is stored, and no other
-- block with its digest is.
pub record IsStorable (s : Known) (block : Block) (digest : Digest) : Type 0 where
  pub view : block.view ≤ s.views
  pub earlier : block.cert.view < block.view
  pub within : IsWithin block
  pub own : digest ≡ block_digest block
  pub parent : is_stored s.store block.cert.block ≡ true
  pub alone : clashes s.store digest block ≡ false

-- What the tests have found of an accepted event, as far as its turn relies on it.
abbrev pub IsPassed : Known → Accepted → Type 0
IsPassed s (Arrived list) = ⊤
IsPassed s (Tick view) = view ≤ s.views
IsPassed s (NewView from call) = IsInRun s call
IsPassed s (Ask from call) = IsInRun s call
IsPassed s (Order sealed) = ⊤
IsPassed s (Propose block digest) = IsStorable s block digest × (s.safety.voted < block.view)
IsPassed s (Vote vote order) = vote.vote.view ≤ s.views
IsPassed s (Give block digest) = IsStorable s block digest

-- The event is accepted: this is its outcome, the tests have passed, and it changes something.
pub record IsAccepted (gives : Gives) (s : State) (o : Outcome) (accepted : Accepted) : Type 0 where
  pub applies : o ≡ applied gives s accepted
  pub passed : IsPassed s.known accepted
  pub changes : Changes s o

-- What is known of a turn before the node changes. If the turn leaves the state as it is, all of its output is known,
-- and it seals nothing.
abbrev pub IsJudged : Gives → State → Outcome → Judged → Type 0
IsJudged gives s o (Idle reported) = (o ≡ record { reported = reported; state = s }) × (reported.sealed ≡ [])
IsJudged gives s o (Active accepted) = IsAccepted gives s o accepted
