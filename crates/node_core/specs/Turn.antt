-- The turn of an event.
use Rattle.std.specs.Prelude.{ℕ, ◌+◌, List, [], ◌∷◌, ◌++◌, max, nat_le, Result, Ok, Err, if◌then◌else◌}
use Rattle.seq_base.specs.declared.kinds.TheConstants.{NEW_VIEW}
use Rattle.seq_base.specs.declared.tx.Tx.{Tx}
use Rattle.seq_base.specs.Setting.{leader_of}
use Rattle.seq_base.specs.Spelling.{call_spelling}
use Rattle.wire_view.specs.declared.fault.WireFault.{WireFault}
use Rattle.wire_view.specs.declared.messages.MessageView.{MessageView}
use Rattle.wire_view.specs.declared.messages.MessageView.TheVariants as messages
use Rattle.wire_view.specs.Messages.{read_of}
use Rattle.node_core.specs.declared.event.Event.{Event}
use Rattle.node_core.specs.declared.event.Event.TheVariants.{Arrived, Deliver, Tick}
use Rattle.node_core.specs.declared.event.Reason.TheVariants.{Done, BadWire, ViewLimit}
use Rattle.node_core.specs.State.{State, knowing}
use Rattle.node_core.specs.Reported.{Gives, Outcome, quiet, sealed_to}
use Rattle.node_core.specs.Rows.{Check}
use Rattle.node_core.specs.NewView.{on_new_view}
use Rattle.node_core.specs.Ask.{on_ask}
use Rattle.node_core.specs.Order.{on_order}
use Rattle.node_core.specs.Propose.{on_propose}
use Rattle.node_core.specs.Vote.{on_vote}
use Rattle.node_core.specs.Give.{on_fetch, on_give}

-- Arrived. Done: the list is appended to the known arrivals.
abbrev pub on_arrived : State → List Tx → Outcome
on_arrived s list = quiet (knowing s (record s.known { prefix = s.known.prefix ++ list })) Done

-- NewView{view, high} is sealed and sent to the leader of the view
abbrev pub calls : Gives → State → Outcome
calls gives s = sealed_to gives s (call_spelling NEW_VIEW s.known.me s.known.view s.known.high) (leader_of s.known.setting s.known.view ∷ [])

-- Tick. ViewLimit: the greater of the view and the floor is not below the last view. Done: the view becomes that and
-- one more.
unfoldable pub on_tick : Gives → State → ℕ → Outcome
on_tick gives s floor =
    if nat_le s.known.views (max s.known.view floor) then quiet s ViewLimit
    else calls gives (knowing s (record s.known { view = max s.known.view floor + 1 }))

-- a message, by its kind
abbrev pub on_message : Check → Gives → State → ℕ → MessageView → Outcome
on_message fits gives s from (messages.NewView call) = on_new_view fits gives s from call
on_message fits gives s from (messages.Ask call) = on_ask fits gives s from call
on_message fits gives s from (messages.Order sealed) = on_order fits gives s from sealed
on_message fits gives s from (messages.Propose proposed) = on_propose fits gives s from proposed
on_message fits gives s from (messages.Vote voted) = on_vote fits gives s from voted
on_message fits gives s from (messages.Fetch block) = on_fetch s from block
on_message fits gives s from (messages.Give block) = on_give fits s from block

-- Deliver. BadWire: the bytes are read as no message.
abbrev pub delivered : Check → Gives → State → ℕ → Result MessageView WireFault → Outcome
delivered fits gives s from (Ok read) = on_message fits gives s from read
delivered fits gives s from (Err fault) = quiet s (BadWire fault)

abbrev pub turn_of : Check → Gives → State → Event → Outcome
turn_of fits gives s (Arrived list) = on_arrived s list
turn_of fits gives s (Deliver from bytes) = delivered fits gives s from (read_of bytes)
turn_of fits gives s (Tick floor) = on_tick gives s floor
