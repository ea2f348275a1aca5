-- A turn seals at most two statements.
use Rattle.std.proofs.Common.{◌≤◌, ◌+◌, ℕ, List, [], ◌∷◌, Bool, true, false, length, max, nat_eq, nat_le, nat_lt, Option, Some, None, Result, Ok, Err, if◌then◌else◌, arith}
use Rattle.seq_base.specs.declared.block.Block.{Block}
use Rattle.seq_base.specs.declared.digest.Digest.{Digest}
use Rattle.seq_base.specs.declared.kinds.TheConstants.{ASK, NEW_VIEW}
use Rattle.seq_base.specs.Setting.{leader_of, quorum_of}
use Rattle.seq_base.specs.Spelling.{call_spelling, order_spelling}
use Rattle.hotstuff_core.specs.Rules.{voted_in}
use Rattle.block_store.specs.Store.{block_at, block_digest}
use Rattle.quorum_cert.specs.Boxes.{bare}
use Rattle.wire_view.specs.Messages.{read_of}
use Rattle.wire_view.specs.declared.fault.WireFault.{WireFault}
use Rattle.wire_view.specs.declared.messages.MessageView.{MessageView}
use Rattle.wire_view.specs.declared.messages.MessageView.TheVariants as messages
use Rattle.node_core.specs.declared.event.Event.{Event}
use Rattle.node_core.specs.declared.event.Event.TheVariants.{Arrived, Deliver, Tick}
use Rattle.node_core.specs.declared.event.Reason.{Reason}
use Rattle.node_core.specs.declared.event.Reason.TheVariants.{BadWire, Done, ViewLimit}
use Rattle.node_core.specs.declared.state.votes.Formed.{Formed}
use Rattle.node_core.specs.Ask.{ask_done, order_of_view}
use Rattle.node_core.specs.Give.{fetch_of, give_done}
use Rattle.node_core.specs.NewView.{joined, new_view_done}
use Rattle.node_core.specs.Order.{asked_block, keeping, order_done, proposal, proposes_if}
use Rattle.node_core.specs.Propose.{propose_done, voted}
use Rattle.node_core.specs.Rows.{Check}
use Rattle.node_core.specs.See.{asked_for, ordering, seen, taken}
use Rattle.node_core.specs.State.{Known, State, callers_of, knowing}
use Rattle.node_core.specs.Reported.{Gives, Outcome, everyone, is_spent, one_more_made, quiet, sealed_to}
use Rattle.node_core.specs.Turn.{delivered, on_message, on_tick, turn_of}
use Rattle.node_core.specs.Vote as voting
use Rattle.journal_laws.proofs.Cases.{Still, ask_cases, give_cases, new_view_cases, order_cases, propose_cases, vote_cases}

record SealsTwo (o : Outcome) : Type 0 where
  few : length o.reported.sealed ≤ 2

either : (b : Bool) (x y : Outcome) → SealsTwo x → SealsTwo y → SealsTwo (if b then x else y)
either true x y p q = p
either false x y p q = q

silent : (s : State) (reason : Reason) → SealsTwo (quiet s reason)
silent s reason = record { few = omega arith }

one : (gives : Gives) (s : State) (statement receivers : List ℕ) → SealsTwo (sealed_to gives s statement receivers)
one gives s statement receivers = either (is_spent s) _ _ (silent s Done) (record { few = omega arith })

if_block : (gives : Gives) (s : State) (o : Option Block) → SealsTwo (proposes_if gives s o)
if_block gives s None = silent s Done
if_block gives s (Some block) = one gives s (proposal s.known.me block) (everyone s.known)

if_formed : (gives : Gives) (s : State) (o : Option Formed) → SealsTwo (voting.certified_if gives s o)
unfolding voting.certified
if_formed gives s None = silent s Done
if_formed gives s (Some f) =
    let after : State = knowing s (seen f.cert s.known) in
    let next : State = knowing after (voting.proposing_next f.cert after.known) in
    either (nat_eq f.cert.view after.known.views) _ _ (silent after Done) (one gives next (proposal next.known.me (voting.next_block f)) (everyone next.known))

if_stored : (s : State) (from : ℕ) (o : Option Block) → SealsTwo (fetch_of s from o)
if_stored s from None = record { few = omega arith }
if_stored s from (Some block) = record { few = omega arith }

votes : (gives : Gives) (s : State) (v : ℕ) (block : Digest) → SealsTwo (voted gives s v block)
unfolding voted
votes gives s v block =
    let after : Known = record s.known { safety = voted_in v s.known.safety } in
    let next : State = knowing s (ordering (v + 1) after) in
    let last : State = knowing s (record after { view = v }) in
    either (nat_lt v s.known.views) _ _
    (either (is_spent next) _ _ (silent next Done)
    (either (is_spent (one_more_made next)) _ _ (silent (one_more_made next) Done) (record { few = omega arith })))
    (either (is_spent last) _ _ (silent last Done) (record { few = omega arith }))

module _ (fits : Check) (gives : Gives) (s : State) (from : ℕ) where
  still : Still fits gives s from SealsTwo
  still reason not_done sends = record { few = omega arith }

  of_message : (m : MessageView) → SealsTwo (on_message fits gives s from m)
  unfolding new_view_done ask_done order_done propose_done voting.vote_done give_done
  of_message (messages.NewView call) = new_view_cases fits gives s from SealsTwo call still (λ p.
      let after : State = knowing s (joined from call s.known) in
      let next : State = knowing after (asked_for call.view after.known) in
      either (nat_eq (callers_of after.known.gathered call.view) (quorum_of after.known.setting)) _ _
      (one gives next (call_spelling ASK next.known.me next.known.asked next.known.high) (everyone next.known)) (silent after Done))
  of_message (messages.Ask call) = ask_cases fits gives s from SealsTwo call still (λ p.
      let after : State = knowing s (ordering call.view (seen call.cert s.known)) in
      one gives after (order_spelling (order_of_view after.known call.view call.cert.block)) (from ∷ []))
  of_message (messages.Order sealed) = order_cases fits gives s from SealsTwo sealed still
      (λ p q. if_block gives (knowing s (keeping s.known sealed)) (asked_block s.known sealed))
  of_message (messages.Propose proposed) = propose_cases fits gives s from SealsTwo proposed still
      (λ p q. votes gives (knowing s (taken proposed.block s.known)) proposed.block.view (block_digest proposed.block))
  of_message (messages.Vote vote) = vote_cases fits gives s from SealsTwo vote still
      (λ p q. if_formed gives (knowing s (voting.keeping s.known vote.vote.view vote.vote.block (bare vote.vote) vote.order))
      (voting.formed s.known vote.vote.view vote.vote.block (bare vote.vote) vote.order))
  of_message (messages.Fetch block) = if_stored s from (block_at s.known.store block)
  of_message (messages.Give block) = give_cases fits gives s from SealsTwo block still (λ p q. silent (knowing s (taken block s.known)) Done)

of_turn : (fits : Check) (gives : Gives) (s : State) (e : Event) → SealsTwo (turn_of fits gives s e)
unfolding on_tick
of_turn fits gives s (Arrived list) = record { few = omega arith }
of_turn fits gives s (Deliver from bytes) = by (read_of bytes)
  where
    by : (r : Result MessageView WireFault) → SealsTwo (delivered fits gives s from r)
    by (Ok m) = of_message fits gives s from m
    by (Err fault) = silent s (BadWire fault)
of_turn fits gives s (Tick floor) = either (nat_le s.known.views (max s.known.view floor)) _ _ (silent s ViewLimit)
    (let next : State = knowing s (record s.known { view = max s.known.view floor + 1 }) in
    one gives next (call_spelling NEW_VIEW next.known.me next.known.view next.known.high) (leader_of next.known.setting next.known.view ∷ []))

pub two_sealed : (fits : Check) (gives : Gives) (s : State) (e : Event) → length (turn_of fits gives s e).reported.sealed ≤ 2
two_sealed fits gives s e = (of_turn fits gives s e).few
