-- Vote: a replica's vote for a block, with its order for the next view, which this node leads.
use Rattle.std.specs.Prelude.{ℕ, ◌+◌, List, [], ◌∷◌, ◌++◌, Bool, true, false, ◌||◌, ◌&&◌, not, nat_lt, nat_le, nat_eq, slice_index_or, Option, Some, None, if◌then◌else◌}
use Rattle.std.specs.List.{list_any, position, remove}
use Rattle.std.specs.Option.{option_map, option_map_or}
use Rattle.seq_base.specs.declared.digest.Digest.{Digest}
use Rattle.seq_base.specs.declared.block.Block.{Block}
use Rattle.seq_base.specs.declared.block.Cert.{Cert}
use Rattle.seq_base.specs.declared.block.CertVote.{CertVote}
use Rattle.seq_base.specs.declared.block.Vote.{Vote}
use Rattle.seq_base.specs.declared.order.SealedOrder.{SealedOrder}
use Rattle.seq_base.specs.Setting.{Parameters}
use Rattle.seq_base.specs.Blocks.{digest_eq}
use Rattle.seq_base.specs.Spelling.{vote_spelling, order_spelling}
use Rattle.block_store.specs.Store.{is_stored}
use Rattle.quorum_cert.specs.Boxes.{has_vote, bare, empty_box, kept_in, keep_answer}
use Rattle.quorum_cert.specs.declared.vote_box.Took.{Took}
use Rattle.quorum_cert.specs.declared.vote_box.Took.TheVariants as took
use Rattle.wire_view.specs.Views.{Voted}
use Rattle.node_core.specs.declared.state.votes.Formed.{Formed}
use Rattle.node_core.specs.declared.event.Reason.{Reason}
use Rattle.node_core.specs.declared.event.Reason.TheVariants.{Done, Foreign, ViewLimit, NotLeader, OldView, BadSeal, Orphan, Misfit, Repeat}
use Rattle.node_core.specs.State.{Known, State, Ballot, knowing, has_view, leads}
use Rattle.node_core.specs.See.{seen}
use Rattle.node_core.specs.Reported.{Gives, Outcome, quiet, fetched_from}
use Rattle.node_core.specs.Rows.{Check, Row, first_reason, is_stored_elsewhere, lists_fit}
use Rattle.node_core.specs.Order.{with_order, proposes}

-- the vote's seal fits, and that of the order that it carries
abbrev pub vote_is_sealed : Check → ℕ → Voted → Bool
vote_is_sealed fits from vote =
    fits from (vote_spelling vote.vote.replica vote.vote.view vote.vote.block) vote.vote.seal
    && option_map_or (λ sealed. fits from (order_spelling sealed.order) sealed.seal) vote.order true

-- Below the last view the vote carries an order of its replica for the next view over its block, and in the last view
-- none.
abbrev pub carries_fitly : Known → ℕ → Vote → Option SealedOrder → Bool
carries_fitly s from vote None = nat_eq vote.view s.views
carries_fitly s from vote (Some sealed) =
    nat_lt vote.view s.views
    && (nat_eq sealed.order.replica from && (nat_eq sealed.order.view (vote.view + 1) && digest_eq sealed.order.parent vote.block))

abbrev pub vote_rows : Check → Known → ℕ → Voted → List Row
vote_rows fits s from vote =
    let v : ℕ = vote.vote.view in
    (not (nat_eq vote.vote.replica from), Foreign)
    ∷ (not (has_view s v), ViewLimit)
    ∷ (not (leads s (v + 1)), NotLeader)
    ∷ (nat_lt (v + 1) s.view || (nat_le v s.high.view || nat_le (v + 1) s.asked), OldView)
    ∷ (not (vote_is_sealed fits from vote), BadSeal)
    ∷ (not (is_stored s.store vote.vote.block), Orphan)
    ∷ (is_stored_elsewhere s vote.vote.block v || not (carries_fitly s from vote.vote vote.order), Misfit)
    ∷ []

abbrev pub vote_reason : Check → Known → ℕ → Voted → Reason
vote_reason fits s from vote = first_reason (vote_rows fits s from vote)

-- the ballot of a block in a view
abbrev pub is_for : ℕ → Digest → Ballot → Bool
is_for v block b = nat_eq b.view v && digest_eq b.block block

-- a vote of the replica is kept
abbrev pub has_voted : List Ballot → ℕ → Digest → ℕ → Bool
has_voted boxes v block replica = list_any (λ b. is_for v block b && has_vote b.votes.votes replica) boxes

-- the lists of the order that it carries do not fit the chain of its block
abbrev pub carried_misfits : Known → Vote → Option SealedOrder → Bool
carried_misfits s vote None = false
carried_misfits s vote (Some sealed) = not (lists_fit s vote.block sealed.order)

-- the tests after these, for the case that none of these holds
abbrev pub voted_rows : Known → ℕ → Vote → Option SealedOrder → List Row
voted_rows s from vote order =
    (carried_misfits s vote order, Misfit)
    ∷ (has_voted s.boxes vote.view vote.block from, Repeat)
    ∷ []

abbrev pub voted_reason : Known → ℕ → Vote → Option SealedOrder → Reason
voted_reason s from vote order = first_reason (voted_rows s from vote order)

abbrev pub empty_ballot : Parameters → ℕ → Digest → Ballot
empty_ballot s v block = record { view = v; block = block; votes = empty_box s v block; orders = [] }

abbrev pub place_of : ℕ → Digest → List Ballot → Option ℕ
place_of v block boxes = position (is_for v block) boxes

-- the ballot of a block in a view, and the others
abbrev pub ballot_of : Known → ℕ → Digest → Ballot
ballot_of s v block =
    let none : Ballot = empty_ballot s.setting v block in
    option_map_or (λ at. slice_index_or s.boxes at none) (place_of v block s.boxes) none

abbrev pub others : ℕ → Digest → List Ballot → List Ballot
others v block boxes = option_map_or (λ at. remove boxes at) (place_of v block boxes) boxes

-- the orders with the one that a vote carries
abbrev pub with_carried : Option SealedOrder → List SealedOrder → List SealedOrder
with_carried None orders = orders
with_carried (Some sealed) orders = with_order sealed orders

-- the ballot with one more vote and its order
abbrev pub with_vote : CertVote → Option SealedOrder → Ballot → Ballot
with_vote vote order b = record { view = b.view; block = b.block; votes = kept_in b.votes vote; orders = with_carried order b.orders }

-- the votes of the certificate, if the last one completes it
abbrev pub formed_votes : Took → Option (List CertVote)
formed_votes (took.Formed cert) = Some cert.votes
formed_votes other = None

-- the certificate that the vote completes, if it does, and the orders that came with its votes
unfoldable pub formed : Known → ℕ → Digest → CertVote → Option SealedOrder → Option Formed
formed s v block vote order =
    let ballot : Ballot = ballot_of s v block in
    option_map (λ votes. record { cert = record { view = v; block = block; votes = votes }; orders = with_carried order ballot.orders })
    (formed_votes (keep_answer ballot.votes vote))

abbrev pub boxes_with : Option Formed → List Ballot → Ballot → List Ballot
boxes_with None others ballot = others ++ ballot ∷ []
boxes_with (Some f) others ballot = others

-- The vote is kept with its order. A ballot whose certificate is complete is dropped.
unfoldable pub keeping : Known → ℕ → Digest → CertVote → Option SealedOrder → Known
keeping s v block vote order =
    record s { boxes = boxes_with (formed s v block vote order) (others v block s.boxes) (with_vote vote order (ballot_of s v block)) }

-- the block of the next view, from the orders that the votes carried
abbrev pub next_block : Formed → Block
next_block f = record { view = f.cert.view + 1; cert = f.cert; orders = f.orders }

-- orders for the next view are not asked, since the votes carried them
abbrev pub proposing_next : Cert → Known → Known
proposing_next cert s = record s { asked = cert.view + 1; proposed = cert.view + 1; view = cert.view + 1; ask_cert = cert; orders = [] }

-- n-f votes: See(the certificate), and if there is a next view, the next block is proposed.
unfoldable pub certified : Gives → State → Formed → Outcome
certified gives s f =
    let after : State = knowing s (seen f.cert s.known) in
    if nat_eq f.cert.view after.known.views then quiet after Done
    else proposes gives (knowing after (proposing_next f.cert after.known)) (next_block f)

abbrev pub certified_if : Gives → State → Option Formed → Outcome
certified_if gives s None = quiet s Done
certified_if gives s (Some f) = certified gives s f

-- Done: the vote is kept with its order, and if the ballot has n-f votes, its block is certified.
unfoldable pub vote_done : Gives → State → Vote → Option SealedOrder → Outcome
vote_done gives s vote order =
    certified_if gives (knowing s (keeping s.known vote.view vote.block (bare vote) order)) (formed s.known vote.view vote.block (bare vote) order)

abbrev pub voted_for : Gives → State → Voted → Reason → Outcome
voted_for gives s vote Done = vote_done gives s vote.vote vote.order
voted_for gives s vote reason = quiet s reason

abbrev pub vote_for : Gives → State → ℕ → Voted → Reason → Outcome
vote_for gives s from vote Done = voted_for gives s vote (voted_reason s.known from vote.vote vote.order)
vote_for gives s from vote Orphan = fetched_from from vote.vote.block s
vote_for gives s from vote reason = quiet s reason

abbrev pub on_vote : Check → Gives → State → ℕ → Voted → Outcome
on_vote fits gives s from vote = vote_for gives s from vote (vote_reason fits s.known from vote)
