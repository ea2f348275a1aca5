-- Events whose bytes, if they read as a message, read as one that can be written.
use Rattle.std.specs.Prelude.{◌≡◌, Ok, ⊤}
use Rattle.seq_base.specs.Writable.{IsWritable}
use Rattle.wire_view.specs.declared.messages.MessageView.{MessageView}
use Rattle.wire_view.specs.Messages.{read_of, message_of}
use Rattle.node_core.specs.declared.event.Event.{Event}
use Rattle.node_core.specs.declared.event.Event.TheVariants.{Arrived, Deliver, Tick}

-- The message that the bytes read as can be written.
abbrev pub IsReadable : Event → Type 0
IsReadable (Arrived list) = ⊤
IsReadable (Deliver from bytes) = (m : MessageView) → read_of bytes ≡ Ok m → IsWritable (message_of m)
IsReadable (Tick floor) = ⊤
