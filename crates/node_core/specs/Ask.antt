-- Ask: the leader of a view asks for local orders over a certified block.
use Rattle.std.specs.Prelude.{ℕ, List, [], ◌∷◌, ◌||◌, not, nat_lt, nat_le, nat_eq}
use Rattle.seq_base.specs.declared.digest.Digest.{Digest}
use Rattle.seq_base.specs.declared.order.LocalOrder.{LocalOrder}
use Rattle.seq_base.specs.Setting.{leader_of}
use Rattle.seq_base.specs.Spelling.{call_spelling, order_spelling}
use Rattle.block_store.specs.Store.{is_stored}
use Rattle.chain_state.specs.Standings.{order_drawn}
use Rattle.wire_view.specs.Views.{Call}
use Rattle.node_core.specs.declared.event.Reason.{Reason}
use Rattle.node_core.specs.declared.event.Reason.TheVariants.{Done, Foreign, ViewLimit, NotLeader, OldView, BadSeal, BadCert, Orphan, Repeat}
use Rattle.node_core.specs.State.{Known, State, knowing, has_view}
use Rattle.node_core.specs.See.{seen, ordering}
use Rattle.node_core.specs.Reported.{Gives, Outcome, quiet, sealed_to, fetched_from}
use Rattle.node_core.specs.Rows.{Check, Row, first_reason, is_bad, chain_at}

abbrev pub ask_rows : Check → Known → ℕ → Call → List Row
ask_rows fits s from call =
    (not (nat_eq call.replica from), Foreign)
    ∷ (not (has_view s call.view), ViewLimit)
    ∷ (not (nat_eq from (leader_of s.setting call.view)), NotLeader)
    ∷ (nat_lt call.view s.view || nat_le call.view s.high.view, OldView)
    ∷ (not (fits from (call_spelling call.kind call.replica call.view call.cert) call.seal), BadSeal)
    ∷ (is_bad fits s call.cert call.view, BadCert)
    ∷ (not (is_stored s.store call.cert.block), Orphan)
    ∷ (nat_le call.view s.ordered, Repeat)
    ∷ []

abbrev pub ask_reason : Check → Known → ℕ → Call → Reason
ask_reason fits s from call = first_reason (ask_rows fits s from call)

-- the node's own order for a view over a stored block, drawn from what it knows
abbrev pub order_of_view : Known → ℕ → Digest → LocalOrder
order_of_view s v block = order_drawn s.me v block s.prefix (chain_at s block)

-- Done: See(cert), and the order for the view and the certificate's block is sealed and sent to the leader.
unfoldable pub ask_done : Gives → State → ℕ → Call → Outcome
ask_done gives s from call =
    let after : State = knowing s (ordering call.view (seen call.cert s.known)) in
    sealed_to gives after (order_spelling (order_of_view after.known call.view call.cert.block)) (from ∷ [])

abbrev pub ask_for : Gives → State → ℕ → Call → Reason → Outcome
ask_for gives s from call Done = ask_done gives s from call
ask_for gives s from call Orphan = fetched_from from call.cert.block s
ask_for gives s from call reason = quiet s reason

abbrev pub on_ask : Check → Gives → State → ℕ → Call → Outcome
on_ask fits gives s from call = ask_for gives s from call (ask_reason fits s.known from call)
