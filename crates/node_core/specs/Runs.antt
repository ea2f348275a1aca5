-- Runs of a node: its turns on a list of events, one after the other.
use Rattle.std.specs.Prelude.{◌≡◌, ℕ, ◌<◌, Ok, List, [], ◌∷◌, ⊤, All}
use Rattle.seq_base.specs.Setting.{Parameters}
use Rattle.seq_base.specs.Writable.{IsWritable}
use Rattle.wire_view.specs.declared.messages.MessageView.{MessageView}
use Rattle.wire_view.specs.Messages.{read_of, message_of}
use Rattle.node_core.specs.declared.event.Event.{Event}
use Rattle.node_core.specs.declared.event.Event.TheVariants.{Arrived, Deliver, Tick}
use Rattle.node_core.specs.declared.entry.Entry.{Entry}
use Rattle.node_core.specs.State.{State, fresh_known}
use Rattle.node_core.specs.Reported.{Gives}
use Rattle.node_core.specs.Rows.{Check}
use Rattle.node_core.specs.Turn.{turn_of}

-- What a node may receive: bytes come from a replica, and what they read as can be written.
abbrev pub CanCome : Parameters → Event → Type 0
CanCome s (Arrived list) = ⊤
CanCome s (Deliver from bytes) = (from < s.n) × ((m : MessageView) → read_of bytes ≡ Ok m → IsWritable (message_of m))
CanCome s (Tick floor) = ⊤

abbrev pub AllCome : Parameters → List Event → Type 0
AllCome s events = All (CanCome s) events

-- a node that knows only the first block, and whose sealer has made no seal
abbrev pub opening_state : Parameters → ℕ → ℕ → ℕ → State
opening_state s views me capacity = record { known = fresh_known s views me; made = 0; capacity = capacity }

-- the entry of each turn in the journal
abbrev pub journal_of : Check → Gives → State → List Event → List Entry
journal_of fits gives s [] = []
journal_of fits gives s (e ∷ es) = record { event = e; turned = (turn_of fits gives s e).reported } ∷ journal_of fits gives (turn_of fits gives s e).state es

-- the state after them
abbrev pub state_after : Check → Gives → State → List Event → State
state_after fits gives s [] = s
state_after fits gives s (e ∷ es) = state_after fits gives (turn_of fits gives s e).state es
