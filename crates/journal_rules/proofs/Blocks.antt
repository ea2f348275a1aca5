-- The blocks that a prefix stored, as a node stores them.
use Rattle.std.proofs.Common.{List, [], Option, Some, None}
use Rattle.std.specs.Prelude.{if◌then◌else◌}
use Rattle.std.specs.List.{fold}
use Rattle.seq_base.specs.declared.block.Block.{Block}
use Rattle.block_store.specs.Store.{with_block}
use Rattle.wire_view.specs.declared.messages.MessageView.{MessageView}
use Rattle.wire_view.specs.declared.messages.MessageView.TheVariants.{NewView, Ask, Order, Propose, Vote, Fetch, Give}
use Rattle.node_core.specs.declared.entry.Entry.{Entry}
use Rattle.node_core.specs.Delivered.{message_in}
use Rattle.journal_rules.specs.Shown.{is_done}

-- the block that a message delivers
abbrev pub block_of : Option MessageView → Option Block
block_of None = None
block_of (Some (NewView call)) = None
block_of (Some (Ask call)) = None
block_of (Some (Order sealed)) = None
block_of (Some (Propose proposed)) = Some proposed.block
block_of (Some (Vote voted)) = None
block_of (Some (Fetch block)) = None
block_of (Some (Give block)) = Some block

abbrev pub stored_by : Entry → Option Block
stored_by e = if is_done e.turned.reason then block_of (message_in e.event) else None

abbrev pub with_stored : List Block → Option Block → List Block
with_stored blocks None = blocks
with_stored blocks (Some b) = with_block b blocks

-- the blocks of its Propose and Give entries with reason Done, each once, in the order in which they were first stored
abbrev pub blocks_in : List Entry → List Block
blocks_in prefix = fold (λ blocks e. with_stored blocks (stored_by e)) [] prefix
