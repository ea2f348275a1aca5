-- What the deeds of a faulty replica make of its sends, one deed after another.
use Rattle.std.specs.Prelude.{◌≡◌, ℕ, ◌/◌, ◌==◌, List, [], ◌∷◌, ◌++◌, Option, Some, None, nat_lt, replicate, reverse, slice_get, slice_set, if◌then◌else◌}
use Rattle.std.specs.List.{flat_map, position}
use Rattle.std.specs.Option.{option_to_list}
use Rattle.std.specs.Str.{bytes_eq}
use Rattle.seq_base.specs.declared.kinds.TheConstants.{NEW_VIEW}
use Rattle.seq_base.specs.declared.order.LocalOrder.{LocalOrder}
use Rattle.seq_base.specs.declared.order.SealedOrder.{SealedOrder}
use Rattle.seq_base.specs.declared.block.Cert.{Cert}
use Rattle.seq_base.specs.declared.block.Block.{Block}
use Rattle.seq_base.specs.declared.block.Vote.{Vote}
use Rattle.seq_base.specs.declared.message.Outgoing.{Outgoing}
use Rattle.seq_base.specs.declared.message.Message.{Message}
use Rattle.seq_base.specs.declared.message.Message.TheVariants as message
use Rattle.seq_base.specs.Blocks.{first_cert}
use Rattle.seq_base.specs.Spelling.{call_spelling, message_spelling, order_spelling, propose_spelling}
use Rattle.plan_text.specs.declared.plan.Deed.{Deed}
use Rattle.plan_text.specs.declared.plan.DeedKind.TheVariants.{Silent, Reverse, TwoBlocks, Stale, Noise, Forge}
use Rattle.fault_script.specs.declared.two_blocks.Made.{Made}
use Rattle.fault_script.specs.declared.two_blocks.Second.{Second}
use Rattle.fault_script.specs.declared.two_blocks.Second.TheVariants as second
use Rattle.fault_script.specs.Deeds.{first_half, holds_for, message_in, neighbour, view_in}
use Rattle.fault_script.specs.Sealing.{Signer, sealed, signer_of, then_seal}

-- a message that replaces a send
abbrev pub in_place : Outgoing → Message → Outgoing
in_place send m = record { to = send.to; bytes = message_spelling m }

-- each send in turn, with what is carried from send to send
abbrev pub through : {S : Type 0} → (S → Outgoing → Option Outgoing × S) → S → List Outgoing → List Outgoing → List Outgoing × S
through step s out [] = (out, s)
through step s out (x ∷ xs) = through step (step s x).1 (out ++ option_to_list (step s x).0) xs

-- ---- stale: a NewView with the first block's certificate

-- a NewView with another certificate, sealed anew
unfoldable pub new_view_with : Signer → Outgoing → ℕ → ℕ → Cert → Option Outgoing × Signer
new_view_with s send replica view cert = sealed s (call_spelling NEW_VIEW replica view cert) (λ seal. in_place send (message.NewView replica view cert seal))

abbrev pub stale_message : Signer → Outgoing → Option Message → Option Outgoing × Signer
stale_message s send (Some (message.NewView replica view cert seal)) = new_view_with s send replica view first_cert
stale_message s send (Some (message.Ask replica view cert seal)) = (Some send, s)
stale_message s send (Some (message.Order o)) = (Some send, s)
stale_message s send (Some (message.Propose replica block seal)) = (Some send, s)
stale_message s send (Some (message.Vote vote order)) = (Some send, s)
stale_message s send (Some (message.Fetch block)) = (Some send, s)
stale_message s send (Some (message.Give block)) = (Some send, s)
stale_message s send None = (Some send, s)

unfoldable pub stale_of : List Deed → Signer → Outgoing → Option Outgoing × Signer
stale_of deeds s send = if holds_for deeds s.replica Stale (view_in send.bytes) then stale_message s send (message_in send.bytes) else (Some send, s)

-- ---- reverse: both lists of a local order are reversed, also of one that a vote carries

abbrev pub reversed : LocalOrder → LocalOrder
reversed order = record { replica = order.replica; view = order.view; parent = order.parent; fresh = reverse order.fresh; late = reverse order.late }

abbrev pub resealed : LocalOrder → List ℕ → SealedOrder
resealed order seal = record { order = order; seal = seal }

abbrev pub reverse_vote : Signer → Outgoing → Vote → Option SealedOrder → Option Outgoing × Signer
reverse_vote s send vote (Some o) =
    sealed s (order_spelling (reversed o.order)) (λ seal. in_place send (message.Vote vote (Some (resealed (reversed o.order) seal))))
reverse_vote s send vote None = (Some send, s)

abbrev pub reverse_message : Signer → Outgoing → Option Message → Option Outgoing × Signer
reverse_message s send (Some (message.Order o)) =
    sealed s (order_spelling (reversed o.order)) (λ seal. in_place send (message.Order (resealed (reversed o.order) seal)))
reverse_message s send (Some (message.Vote vote order)) = reverse_vote s send vote order
reverse_message s send (Some (message.NewView replica view cert seal)) = (Some send, s)
reverse_message s send (Some (message.Ask replica view cert seal)) = (Some send, s)
reverse_message s send (Some (message.Propose replica block seal)) = (Some send, s)
reverse_message s send (Some (message.Fetch block)) = (Some send, s)
reverse_message s send (Some (message.Give block)) = (Some send, s)
reverse_message s send None = (Some send, s)

unfoldable pub reverse_of : List Deed → Signer → Outgoing → Option Outgoing × Signer
reverse_of deeds s send = if holds_for deeds s.replica Reverse (view_in send.bytes) then reverse_message s send (message_in send.bytes) else (Some send, s)

-- ---- two_blocks: the upper half of the replicas gets a block in which the replica's own order has no transactions

abbrev pub emptied : LocalOrder → LocalOrder
emptied order = record { replica = order.replica; view = order.view; parent = order.parent; fresh = []; late = [] }

abbrev pub own_place : ℕ → List SealedOrder → Option ℕ
own_place own orders = position (λ o. o.order.replica == own) orders

abbrev pub with_orders : Block → List SealedOrder → Block
with_orders block orders = record { view = block.view; cert = block.cert; orders = orders }

abbrev pub block_or_nothing : Option (List ℕ) → Second
block_or_nothing (Some bytes) = second.Block bytes
block_or_nothing None = second.Nothing

abbrev pub settled : Option (List ℕ) × Signer → Second × Signer
settled r = (block_or_nothing r.0, r.1)

-- the order is sealed anew, and then the proposal once
abbrev pub proposed : Signer → ℕ → Block → Option (List ℕ) × Signer
proposed s replica block = sealed s (propose_spelling replica block) (λ seal. message_spelling (message.Propose replica block seal))

abbrev pub second_proposal : Signer → ℕ → Block → ℕ → LocalOrder → Option (List ℕ) × Signer
second_proposal s replica block at own =
    then_seal (sealed s (order_spelling own) (λ seal. resealed own seal)) (λ new s. proposed s replica (with_orders block (slice_set block.orders at new)))

abbrev pub second_at : Signer → ℕ → Block → ℕ → Option SealedOrder → Second × Signer
second_at s replica block at (Some own) = settled (second_proposal s replica block at (emptied own.order))
second_at s replica block at None = (second.Same, s)

abbrev pub second_block : Signer → ℕ → Block → Option ℕ → Second × Signer
second_block s replica block (Some at) = second_at s replica block at (slice_get block.orders at)
second_block s replica block None = (second.Same, s)

abbrev pub second_message : Signer → Option Message → Second × Signer
second_message s (Some (message.Propose replica block seal)) = second_block s replica block (own_place s.replica block.orders)
second_message s (Some (message.NewView replica view cert seal)) = (second.Same, s)
second_message s (Some (message.Ask replica view cert seal)) = (second.Same, s)
second_message s (Some (message.Order o)) = (second.Same, s)
second_message s (Some (message.Vote vote order)) = (second.Same, s)
second_message s (Some (message.Fetch block)) = (second.Same, s)
second_message s (Some (message.Give block)) = (second.Same, s)
second_message s None = (second.Same, s)

unfoldable pub second_of : List Deed → Signer → List ℕ → Second × Signer
second_of deeds s bytes = if holds_for deeds s.replica TwoBlocks (view_in bytes) then second_message s (message_in bytes) else (second.Same, s)

-- what replaces a send
abbrev pub exchanged : Second → Outgoing → Option Outgoing
exchanged second.Same send = Some send
exchanged (second.Block bytes) send = Some (record { to = send.to; bytes = bytes })
exchanged second.Nothing send = None

-- the replacements that were made, so that each is sealed once
pub record Seconds : Type 0 where
  pub made : List Made
  pub signer : Signer

abbrev pub seconds : List Made → Signer → Seconds
seconds made signer = record { made = made; signer = signer }

-- The result, the sealer after it and the replacements so far are those of a step.
abbrev pub Exchanges : {S X : Type 0} → (S → ℕ) → (S → ℕ) → (S → ℕ → List ℕ → List ℕ) → (S → ℕ) → S → S → List Made → List Made
    → (Seconds → X × Seconds) → X → Type 0
Exchanges replica capacity gives made old new before after step x =
    (x, seconds after (signer_of replica capacity gives made new)) ≡ step (seconds before (signer_of replica capacity gives made old))

abbrev pub made_for : List Made → List ℕ → Option Second
made_for [] bytes = None
made_for (m ∷ ms) bytes = if bytes_eq m.first bytes then Some m.second else made_for ms bytes

abbrev pub with_second : Seconds → Outgoing → Second × Signer → Option Outgoing × Seconds
with_second s send r = (exchanged r.0 send, record { made = s.made ++ record { first = send.bytes; second = r.0 } ∷ []; signer = r.1 })

abbrev pub second_for : List Deed → Seconds → Outgoing → Option Second → Option Outgoing × Seconds
second_for deeds s send (Some old) = (exchanged old send, s)
second_for deeds s send None = with_second s send (second_of deeds s.signer send.bytes)

unfoldable pub two_blocks_of : List Deed → ℕ → Seconds → Outgoing → Option Outgoing × Seconds
two_blocks_of deeds n s send = if nat_lt send.to (n / 2) then (Some send, s) else second_for deeds s send (made_for s.made send.bytes)

-- ---- forge: each vote is followed by one in the next replica's name, for a block whose digest is all ones

abbrev pub forged_vote : ℕ → ℕ → Vote → Message
forged_vote n own vote = message.Vote (record { replica = neighbour n own; view = vote.view; block = record { 0 = replicate 32 255 }; seal = vote.seal }) None

abbrev pub forged_message : ℕ → ℕ → Option Message → Option (List ℕ)
forged_message n own (Some (message.Vote vote order)) = Some (message_spelling (forged_vote n own vote))
forged_message n own (Some (message.NewView replica view cert seal)) = None
forged_message n own (Some (message.Ask replica view cert seal)) = None
forged_message n own (Some (message.Order o)) = None
forged_message n own (Some (message.Propose replica block seal)) = None
forged_message n own (Some (message.Fetch block)) = None
forged_message n own (Some (message.Give block)) = None
forged_message n own None = None

unfoldable pub forged_for : List Deed → ℕ → ℕ → List ℕ → Option (List ℕ)
forged_for deeds n own bytes = if holds_for deeds own Forge (view_in bytes) then forged_message n own (message_in bytes) else None

abbrev pub sent_to : ℕ → Option (List ℕ) → List Outgoing
sent_to to (Some bytes) = record { to = to; bytes = bytes } ∷ []
sent_to to None = []

abbrev pub forge_of : List Deed → ℕ → ℕ → Outgoing → List Outgoing
forge_of deeds n own send = send ∷ sent_to send.to (forged_for deeds n own send.bytes)

-- ---- noise and silent: each send is preceded by its first half; nothing is sent

abbrev pub noise_of : List Deed → ℕ → Outgoing → List Outgoing
noise_of deeds own send =
    if holds_for deeds own Silent (view_in send.bytes) then []
    else (if holds_for deeds own Noise (view_in send.bytes) then record { to = send.to; bytes = first_half send.bytes } ∷ send ∷ [] else send ∷ [])

-- ---- all deeds in their order

abbrev pub two_blocks_in : List Deed → ℕ → Signer → List Outgoing → List Outgoing × Signer
two_blocks_in deeds n s sends =
    let done : List Outgoing × Seconds = through (two_blocks_of deeds n) (record { made = []; signer = s }) [] sends in
    (done.0, done.1.signer)

abbrev pub spoken : List Deed → ℕ → ℕ → List Outgoing × Signer → List Outgoing × Signer
spoken deeds n own r = (flat_map (noise_of deeds own) (flat_map (forge_of deeds n own) r.0), r.1)

unfoldable pub twisted : List Deed → ℕ → Signer → List Outgoing → List Outgoing × Signer
twisted deeds n s sends =
    let first : List Outgoing × Signer = through (stale_of deeds) s [] sends in
    let then_reversed : List Outgoing × Signer = through (reverse_of deeds) first.1 [] first.0 in
    spoken deeds n s.replica (two_blocks_in deeds n then_reversed.1 then_reversed.0)
