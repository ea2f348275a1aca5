-- Propose: the leader of a view proposes a block.
use Rattle.std.specs.Prelude.{ℕ, ◌+◌, List, [], ◌∷◌, ◌||◌, not, nat_lt, nat_le, nat_eq, Option, Some, None, if◌then◌else◌}
use Rattle.seq_base.specs.declared.digest.Digest.{Digest}
use Rattle.seq_base.specs.declared.block.Block.{Block}
use Rattle.seq_base.specs.declared.order.LocalOrder.{LocalOrder}
use Rattle.seq_base.specs.declared.order.SealedOrder.{SealedOrder}
use Rattle.seq_base.specs.declared.message.Message.TheVariants as messages
use Rattle.seq_base.specs.Setting.{leader_of}
use Rattle.seq_base.specs.Spelling.{propose_spelling, vote_spelling, order_spelling, message_spelling}
use Rattle.block_store.specs.Store.{block_digest, is_stored, clashes}
use Rattle.hotstuff_core.specs.Rules.{is_safe, voted_in}
use Rattle.wire_view.specs.Views.{Proposed}
use Rattle.node_core.specs.declared.event.Reason.{Reason}
use Rattle.node_core.specs.declared.event.Reason.TheVariants.{Done, Foreign, ViewLimit, NotLeader, OldView, BadSeal, BadCert, Orphan, Misfit, Clash, Unsafe, Repeat}
use Rattle.node_core.specs.State.{Known, State, knowing, has_view}
use Rattle.node_core.specs.See.{taken, ordering}
use Rattle.node_core.specs.Reported.{Gives, Outcome, reported, quiet, to_each, is_spent, one_more_made, fetched_from}
use Rattle.node_core.specs.Rows.{Check, Row, first_reason, is_bad, is_fit}
use Rattle.node_core.specs.Ask.{order_of_view}

abbrev pub propose_rows : Check → Known → ℕ → Proposed → List Row
propose_rows fits s from proposed =
    let block : Block = proposed.block in
    (not (nat_eq proposed.replica from), Foreign)
    ∷ (not (has_view s block.view), ViewLimit)
    ∷ (not (nat_eq from (leader_of s.setting block.view)), NotLeader)
    ∷ (nat_lt block.view s.view || nat_le block.view s.high.view, OldView)
    ∷ (not (fits from (propose_spelling proposed.replica block) proposed.seal), BadSeal)
    ∷ (is_bad fits s block.cert block.view, BadCert)
    ∷ (not (is_stored s.store block.cert.block), Orphan)
    ∷ []

abbrev pub propose_reason : Check → Known → ℕ → Proposed → Reason
propose_reason fits s from proposed = first_reason (propose_rows fits s from proposed)

-- the tests after these, for the case that none of these holds
abbrev pub proposed_rows : Check → Known → Block → List Row
proposed_rows fits s block =
    (not (is_fit fits s block), Misfit)
    ∷ (clashes s.store (block_digest block) block, Clash)
    ∷ (not (is_safe s.store s.safety block), Unsafe)
    ∷ (nat_le block.view s.safety.voted, Repeat)
    ∷ []

abbrev pub proposed_reason : Check → Known → Block → Reason
proposed_reason fits s block = first_reason (proposed_rows fits s block)

-- the vote for a block in a view
abbrev pub vote_statement : Known → ℕ → Digest → List ℕ
vote_statement s v block = vote_spelling s.me v block

-- the message of a vote with its seal, and of the order that it carries
abbrev pub vote_bytes : Known → ℕ → Digest → List ℕ → Option SealedOrder → List ℕ
vote_bytes s v block seal order = message_spelling (messages.Vote (record { replica = s.me; view = v; block = block; seal = seal }) order)

-- to the leader of the next view
abbrev pub to_next : Known → ℕ → List ℕ
to_next s v = leader_of s.setting (v + 1) ∷ []

-- In the last view the vote carries no order.
abbrev pub lone_vote : Gives → State → ℕ → Digest → Outcome
lone_vote gives s v block =
    if is_spent s then quiet s Done
    else record {
      reported = reported s Done (vote_statement s.known v block ∷ [])
          (to_each (to_next s.known v) (vote_bytes s.known v block (gives s.made (vote_statement s.known v block)) None));
      state = one_more_made s;
    }

-- The vote has its seal, and the order is sealed next. If the sealer is spent, the vote is left out; its seal stays
-- counted.
abbrev pub vote_with : Gives → State → ℕ → Digest → List ℕ → LocalOrder → Outcome
vote_with gives s v block seal order =
    if is_spent s then quiet s Done
    else record {
      reported = reported s Done (vote_statement s.known v block ∷ order_spelling order ∷ [])
          (to_each (to_next s.known v) (vote_bytes s.known v block seal (Some (record { order = order; seal = gives s.made (order_spelling order) }))));
      state = one_more_made s;
    }

-- The vote is sealed, and then the order that it carries.
abbrev pub vote_for : Gives → State → ℕ → Digest → LocalOrder → Outcome
vote_for gives s v block order =
    if is_spent s then quiet s Done
    else vote_with gives (one_more_made s) v block (gives s.made (vote_statement s.known v block)) order

-- The node votes. Below the last view it draws its order for the next one, which the vote carries.
unfoldable pub voted : Gives → State → ℕ → Digest → Outcome
voted gives s v block =
    let known : Known = s.known in
    let after : Known = record known { safety = voted_in v known.safety } in
    if nat_lt v after.views
    then (let next : State = knowing s (ordering (v + 1) after) in vote_for gives next v block (order_of_view next.known (v + 1) block))
    else lone_vote gives (knowing s (record after { view = v })) v block

-- Done: See(the block's certificate), the block is stored, and the node votes.
unfoldable pub propose_done : Gives → State → Block → Outcome
propose_done gives s block = voted gives (knowing s (taken block s.known)) block.view (block_digest block)

abbrev pub proposed_for : Gives → State → Block → Reason → Outcome
proposed_for gives s block Done = propose_done gives s block
proposed_for gives s block reason = quiet s reason

abbrev pub propose_for : Check → Gives → State → ℕ → Block → Reason → Outcome
propose_for fits gives s from block Done = proposed_for gives s block (proposed_reason fits s.known block)
propose_for fits gives s from block Orphan = fetched_from from block.cert.block s
propose_for fits gives s from block reason = quiet s reason

abbrev pub on_propose : Check → Gives → State → ℕ → Proposed → Outcome
on_propose fits gives s from proposed = propose_for fits gives s from proposed.block (propose_reason fits s.known from proposed)
