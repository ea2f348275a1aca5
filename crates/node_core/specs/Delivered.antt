-- The messages and blocks that events deliver.
use Rattle.std.specs.Prelude.{Option, Some, None}
use Rattle.std.specs.Result.{result_ok}
use Rattle.seq_base.specs.declared.block.Block.{Block}
use Rattle.wire_view.specs.Messages.{read_of}
use Rattle.wire_view.specs.declared.messages.MessageView.{MessageView}
use Rattle.wire_view.specs.declared.messages.MessageView.TheVariants.{NewView, Ask, Order, Propose, Vote, Fetch, Give}
use Rattle.node_core.specs.declared.event.Event.{Event}
use Rattle.node_core.specs.declared.event.Event.TheVariants.{Arrived, Deliver, Tick}

-- the message that an event delivers, if it delivers bytes that read as one
abbrev pub message_in : Event → Option MessageView
message_in (Arrived txs) = None
message_in (Deliver from bytes) = result_ok (read_of bytes)
message_in (Tick floor) = None

-- the block of a Propose or a Give
abbrev pub block_in : MessageView → Option Block
block_in (NewView c) = None
block_in (Ask c) = None
block_in (Order s) = None
block_in (Propose p) = Some p.block
block_in (Vote v) = None
block_in (Fetch digest) = None
block_in (Give block) = Some block
