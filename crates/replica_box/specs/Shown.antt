-- Which messages carry a block, and what their blocks show.
use Rattle.std.specs.Prelude.{ℕ, List, [], map, Bool, true, false, Result, Ok, Err}
use Rattle.seq_base.specs.declared.block.Block.{Block}
use Rattle.seq_base.specs.declared.tx.Tx.{Tx}
use Rattle.wire_view.specs.Messages.{read_of}
use Rattle.wire_view.specs.declared.fault.WireFault.{WireFault}
use Rattle.wire_view.specs.declared.messages.MessageView.{MessageView}
use Rattle.wire_view.specs.declared.messages.MessageView.TheVariants.{NewView, Ask, Order, Propose, Vote, Fetch, Give}

abbrev pub has_block : MessageView → Bool
has_block (NewView c) = false
has_block (Ask c) = false
has_block (Order s) = false
has_block (Propose p) = true
has_block (Vote v) = false
has_block (Fetch block) = false
has_block (Give block) = true

abbrev pub is_found : Result MessageView WireFault → Bool
is_found (Ok message) = has_block message
is_found (Err fault) = false

-- whether the bytes are a message with a block: a Propose or a Give
abbrev pub shows_block : List ℕ → Bool
shows_block bytes = is_found (read_of bytes)

-- the replicas of its local orders
abbrev pub order_replicas : Block → List ℕ
order_replicas block = map (λ order. order.order.replica) block.orders

-- the fresh lists of its local orders
abbrev pub fresh_lists : Block → List (List Tx)
fresh_lists block = map (λ order. order.order.fresh) block.orders

abbrev pub lists_of : MessageView → List (List Tx)
lists_of (NewView c) = []
lists_of (Ask c) = []
lists_of (Order s) = []
lists_of (Propose p) = fresh_lists p.block
lists_of (Vote v) = []
lists_of (Fetch block) = []
lists_of (Give block) = fresh_lists block

abbrev pub lists_found : Result MessageView WireFault → List (List Tx)
lists_found (Ok message) = lists_of message
lists_found (Err fault) = []

-- the fresh lists of the block of a message, and none of other bytes
abbrev pub shown_lists : List ℕ → List (List Tx)
shown_lists bytes = lists_found (read_of bytes)
