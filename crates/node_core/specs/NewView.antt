-- NewView: a replica calls for a view, and shows its highest certificate to the leader.
use Rattle.std.specs.Prelude.{ℕ, List, [], ◌∷◌, ◌++◌, ◌||◌, not, nat_lt, nat_le, nat_eq, if◌then◌else◌}
use Rattle.seq_base.specs.declared.kinds.TheConstants.{ASK}
use Rattle.seq_base.specs.Setting.{quorum_of}
use Rattle.seq_base.specs.Spelling.{call_spelling}
use Rattle.block_store.specs.Store.{is_stored}
use Rattle.wire_view.specs.Views.{Call}
use Rattle.node_core.specs.declared.event.Reason.{Reason}
use Rattle.node_core.specs.declared.event.Reason.TheVariants.{Done, Foreign, ViewLimit, NotLeader, OldView, BadSeal, BadCert, Orphan, Repeat}
use Rattle.node_core.specs.State.{Known, State, knowing, has_view, leads, has_called, callers_of}
use Rattle.node_core.specs.See.{seen, asked_for}
use Rattle.node_core.specs.Reported.{Gives, Outcome, quiet, sealed_to, everyone, fetched_from}
use Rattle.node_core.specs.Rows.{Check, Row, first_reason, is_bad}

abbrev pub new_view_rows : Check → Known → ℕ → Call → List Row
new_view_rows fits s from call =
    (not (nat_eq call.replica from), Foreign)
    ∷ (not (has_view s call.view), ViewLimit)
    ∷ (not (leads s call.view), NotLeader)
    ∷ (nat_lt call.view s.view || (nat_le call.view s.high.view || nat_le call.view s.asked), OldView)
    ∷ (not (fits from (call_spelling call.kind call.replica call.view call.cert) call.seal), BadSeal)
    ∷ (is_bad fits s call.cert call.view, BadCert)
    ∷ (not (is_stored s.store call.cert.block), Orphan)
    ∷ (has_called s.gathered call.view from, Repeat)
    ∷ []

abbrev pub new_view_reason : Check → Known → ℕ → Call → Reason
new_view_reason fits s from call = first_reason (new_view_rows fits s from call)

-- See(cert), and the replica joins those that called for the view
abbrev pub joined : ℕ → Call → Known → Known
joined from call s =
    let after : Known = seen call.cert s in
    record after { gathered = after.gathered ++ record { view = call.view; replica = from } ∷ [] }

-- Ask{v, high} is sealed and sent to everyone
abbrev pub asks : Gives → State → Outcome
asks gives s = sealed_to gives s (call_spelling ASK s.known.me s.known.asked s.known.high) (everyone s.known)

-- Done: with n-f callers, AskFor(v).
unfoldable pub new_view_done : Gives → State → ℕ → Call → Outcome
new_view_done gives s from call =
    let after : State = knowing s (joined from call s.known) in
    if nat_eq (callers_of after.known.gathered call.view) (quorum_of after.known.setting)
    then asks gives (knowing after (asked_for call.view after.known))
    else quiet after Done

abbrev pub new_view_for : Gives → State → ℕ → Call → Reason → Outcome
new_view_for gives s from call Done = new_view_done gives s from call
new_view_for gives s from call Orphan = fetched_from from call.cert.block s
new_view_for gives s from call reason = quiet s reason

abbrev pub on_new_view : Check → Gives → State → ℕ → Call → Outcome
on_new_view fits gives s from call = new_view_for gives s from call (new_view_reason fits s.known from call)
