-- The turns that memory may run out in. Most tests read a message in place, so their answers need none.
use Rattle.std.specs.Prelude.{ℕ, Bool, true, false, ◌⊎◌, is_some, IsTrue, Option, Result, Ok, Err}
use Rattle.seq_base.specs.declared.order.SealedOrder.{SealedOrder}
use Rattle.block_store.specs.Store.{block_at}
use Rattle.wire_view.specs.declared.fault.WireFault.{WireFault}
use Rattle.wire_view.specs.declared.messages.MessageView.{MessageView}
use Rattle.wire_view.specs.declared.messages.MessageView.TheVariants.{NewView, Ask, Order, Propose, Vote, Fetch, Give}
use Rattle.wire_view.specs.Messages.{read_of}
use Rattle.node_core.specs.declared.event.Event.{Event}
use Rattle.node_core.specs.declared.event.Event.TheVariants.{Arrived, Deliver, Tick}
use Rattle.node_core.specs.declared.event.Reason.{Reason}
use Rattle.node_core.specs.declared.event.Reason.TheVariants.{Done, Orphan}
use Rattle.node_core.specs.State.{Known, State}
use Rattle.node_core.specs.Reported.{Outcome}
use Rattle.node_core.specs.Rows.{Check}
use Rattle.node_core.specs.Ask.{ask_reason}
use Rattle.node_core.specs.Give.{give_reason}
use Rattle.node_core.specs.NewView.{new_view_reason}
use Rattle.node_core.specs.Order.{order_reason}
use Rattle.node_core.specs.Propose.{propose_reason}
use Rattle.node_core.specs.Vote.{vote_reason}
use Rattle.node_core.specs.Idle.{Changes}

-- no test held so far: the block or the order is copied for the tests of its lists
abbrev pub copies : Reason → Bool
copies Done = true
copies reason = false

-- a block that the message builds on is asked for
abbrev pub fetches : Reason → Bool
fetches Orphan = true
fetches reason = false

abbrev pub copies_or_fetches : Reason → Bool
copies_or_fetches Done = true
copies_or_fetches Orphan = true
copies_or_fetches reason = false

-- Of a vote only the order that it carries is copied.
abbrev pub vote_takes_memory : Reason → Option SealedOrder → Bool
vote_takes_memory Done order = is_some order
vote_takes_memory Orphan order = true
vote_takes_memory reason order = false

-- whether memory is taken to judge a message: a copy is made, or a message is sent
abbrev pub message_takes_memory : Check → Known → ℕ → MessageView → Bool
message_takes_memory fits s from (NewView call) = fetches (new_view_reason fits s from call)
message_takes_memory fits s from (Ask call) = fetches (ask_reason fits s from call)
message_takes_memory fits s from (Order sealed) = copies (order_reason fits s from sealed)
message_takes_memory fits s from (Propose proposed) = copies_or_fetches (propose_reason fits s from proposed)
message_takes_memory fits s from (Vote vote) = vote_takes_memory (vote_reason fits s from vote) vote.order
message_takes_memory fits s from (Fetch block) = is_some (block_at s.store block)
message_takes_memory fits s from (Give block) = copies_or_fetches (give_reason fits s block)

abbrev pub delivery_takes_memory : Check → Known → ℕ → Result MessageView WireFault → Bool
delivery_takes_memory fits s from (Ok message) = message_takes_memory fits s from message
delivery_takes_memory fits s from (Err fault) = false

-- whether memory is taken to judge an event, before the node changes
unfoldable pub judging_takes_memory : Check → Known → Event → Bool
judging_takes_memory fits s (Arrived list) = false
judging_takes_memory fits s (Deliver from bytes) = delivery_takes_memory fits s from (read_of bytes)
judging_takes_memory fits s (Tick floor) = false

-- Memory may run out in the turn on an event: it is taken to judge the event, or the event changes the node.
abbrev pub MayRunOut : Check → State → Event → Outcome → Type 0
MayRunOut fits s event o = IsTrue (judging_takes_memory fits s.known event) ⊎ Changes s o
