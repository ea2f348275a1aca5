-- Reading a message, and what the view of a message shows.
use Rattle.std.specs.Prelude.{ℕ, List, length, Option, Some, None, IfSome, Result, Ok, Err, ◌==◌, if◌then◌else◌}
use Rattle.seq_base.specs.declared.kinds.TheConstants.{VERSION, NEW_VIEW, ASK, ORDER, PROPOSE, VOTE, FETCH, GIVE}
use Rattle.seq_base.specs.declared.message.Message.{Message}
use Rattle.seq_base.specs.declared.message.Message.TheVariants as messages
use Rattle.seq_base.specs.Limits.{IsShort, IsWithin}
use Rattle.seq_base.specs.Spelling.{call_spelling, order_spelling, propose_spelling, vote_spelling}
use Rattle.wire_view.specs.declared.fault.WireFault.{WireFault}
use Rattle.wire_view.specs.declared.fault.WireFault.TheVariants.{Trailing, Kind, Version}
use Rattle.wire_view.specs.declared.messages.MessageView.{MessageView}
use Rattle.wire_view.specs.declared.messages.MessageView.TheVariants.{NewView, Ask, Order, Propose, Vote, Fetch, Give}
use Rattle.wire_view.specs.Reading.{WireReader, ◌>>=◌, give, byte_at, digest_at, sealed_at, block_at, call_at, proposed_at, voted_at}

-- what follows the kind
unfoldable pub after_kind : ℕ → WireReader MessageView
after_kind kind =
    if kind == NEW_VIEW then (call_at NEW_VIEW >>= λ c. give (NewView c))
    else if kind == ASK then (call_at ASK >>= λ c. give (Ask c))
    else if kind == ORDER then (sealed_at 0 >>= λ s. give (Order s))
    else if kind == PROPOSE then (proposed_at >>= λ p. give (Propose p))
    else if kind == VOTE then (voted_at >>= λ v. give (Vote v))
    else if kind == FETCH then (digest_at >>= λ d. give (Fetch d))
    else if kind == GIVE then (block_at >>= λ b. give (Give b))
    else λ bytes. Err Kind

abbrev pub is_version : ℕ → WireReader ℕ
is_version version bytes = if version == VERSION then Ok (version, bytes) else Err Version

unfoldable pub message_at : WireReader MessageView
message_at = do
  version ← byte_at
  _ ← is_version version
  kind ← byte_at
  after_kind kind

-- nothing follows a message
abbrev pub whole : {A : Type 0} → Result (A × List ℕ) WireFault → Result A WireFault
whole (Ok x) = if length x.1 == 0 then Ok x.0 else Err Trailing
whole (Err fault) = Err fault

-- what bytes read as: a message, or the first fault
unfoldable pub read_of : List ℕ → Result MessageView WireFault
read_of bytes = whole (message_at bytes)

-- the message that a view shows
abbrev pub message_of : MessageView → Message
message_of (NewView c) = messages.NewView c.replica c.view c.cert c.seal
message_of (Ask c) = messages.Ask c.replica c.view c.cert c.seal
message_of (Order s) = messages.Order s
message_of (Propose p) = messages.Propose p.replica p.block p.seal
message_of (Vote v) = messages.Vote v.vote v.order
message_of (Fetch block) = messages.Fetch block
message_of (Give block) = messages.Give block

-- the view of a message
abbrev pub view_of : Message → MessageView
view_of (messages.NewView replica view cert seal) = NewView (record { kind = NEW_VIEW; replica = replica; view = view; cert = cert; seal = seal })
view_of (messages.Ask replica view cert seal) = Ask (record { kind = ASK; replica = replica; view = view; cert = cert; seal = seal })
view_of (messages.Order s) = Order s
view_of (messages.Propose replica block seal) = Propose (record { replica = replica; block = block; seal = seal })
view_of (messages.Vote vote order) = Vote (record { vote = vote; order = order })
view_of (messages.Fetch block) = Fetch block
view_of (messages.Give block) = Give block

-- the bytes that its sender sealed
abbrev pub statement_of : MessageView → Option (List ℕ)
statement_of (NewView c) = Some (call_spelling c.kind c.replica c.view c.cert)
statement_of (Ask c) = Some (call_spelling c.kind c.replica c.view c.cert)
statement_of (Order s) = Some (order_spelling s.order)
statement_of (Propose p) = Some (propose_spelling p.replica p.block)
statement_of (Vote v) = Some (vote_spelling v.vote.replica v.vote.view v.vote.block)
statement_of (Fetch block) = None
statement_of (Give block) = None

abbrev pub seal_of : MessageView → Option (List ℕ)
seal_of (NewView c) = Some c.seal
seal_of (Ask c) = Some c.seal
seal_of (Order s) = Some s.seal
seal_of (Propose p) = Some p.seal
seal_of (Vote v) = Some v.vote.seal
seal_of (Fetch block) = None
seal_of (Give block) = None

-- its orders are short, and its block is within its limits
abbrev pub IsShortMessage : Message → Type 0
IsShortMessage (messages.NewView replica view cert seal) = Unit {0}
IsShortMessage (messages.Ask replica view cert seal) = Unit {0}
IsShortMessage (messages.Order s) = IsShort s.order
IsShortMessage (messages.Propose replica block seal) = IsWithin block
IsShortMessage (messages.Vote v order) = IfSome order (λ s. IsShort s.order)
IsShortMessage (messages.Fetch block) = Unit {0}
IsShortMessage (messages.Give block) = IsWithin block
