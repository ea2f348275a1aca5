-- Which sends a deed applies to, and what it makes of their parts.
use Rattle.std.specs.Prelude.{ℕ, ◌+◌, ◌/◌, ◌%◌, ◌^◌, ◌==◌, ◌&&◌, ◌||◌, Bool, false, List, Option, Some, None, Result, Ok, Err, length, take}
use Rattle.std.specs.List.{list_any}
use Rattle.seq_base.specs.declared.message.Message.{Message}
use Rattle.wire_view.specs.declared.fault.WireFault.{WireFault}
use Rattle.wire_view.specs.declared.messages.MessageView.{MessageView}
use Rattle.wire_view.specs.declared.messages.MessageView.TheVariants.{NewView, Ask, Order, Propose, Vote, Fetch, Give}
use Rattle.wire_view.specs.Messages.{message_of, read_of}
use Rattle.plan_text.specs.declared.plan.Deed.{Deed}
use Rattle.plan_text.specs.declared.plan.DeedKind.{DeedKind}
use Rattle.plan_text.specs.Deeds.{rank_of}

abbrev pub is_view : ℕ → Option ℕ → Bool
is_view view (Some v) = v == view
is_view view None = false

-- a deed of view 0 applies to every view, and to messages that belong to none
abbrev pub covers : ℕ → Option ℕ → Bool
covers of_deed view = (of_deed == 0) || is_view of_deed view

-- the deed is the replica's, of the kind, and applies to the view
abbrev pub deed_applies : Deed → ℕ → DeedKind → Option ℕ → Bool
deed_applies deed replica kind view = ((deed.replica == replica) && (rank_of deed.kind == rank_of kind)) && covers deed.view view

unfoldable pub holds_for : List Deed → ℕ → DeedKind → Option ℕ → Bool
holds_for deeds replica kind view = list_any (λ deed. deed_applies deed replica kind view) deeds

-- the view of a message: the block's for a proposal, none for Fetch and Give
abbrev pub view_shown : Result MessageView WireFault → Option ℕ
view_shown (Ok (NewView call)) = Some call.view
view_shown (Ok (Ask call)) = Some call.view
view_shown (Ok (Order sealed)) = Some sealed.order.view
view_shown (Ok (Propose proposed)) = Some proposed.block.view
view_shown (Ok (Vote voted)) = Some voted.vote.view
view_shown (Ok (Fetch block)) = None
view_shown (Ok (Give block)) = None
view_shown (Err fault) = None

unfoldable pub view_in : List ℕ → Option ℕ
view_in bytes = view_shown (read_of bytes)

-- the message that bytes spell, if they spell one
abbrev pub message_shown : Result MessageView WireFault → Option Message
message_shown (Ok view) = Some (message_of view)
message_shown (Err fault) = None

unfoldable pub message_in : List ℕ → Option Message
message_in bytes = message_shown (read_of bytes)

-- the first half, with its length rounded down
abbrev pub first_half : List ℕ → List ℕ
first_half bytes = take (length bytes / 2) bytes

-- the next replica, in cyclic order
abbrev pub neighbour : ℕ → ℕ → ℕ
neighbour n own = (own + 1) % 2 ^ 32 % n
