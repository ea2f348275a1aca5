-- In each turn, for each kind, the views of the sealed statements are above the kind's mark, and the mark increases
-- with them.
use Rattle.std.proofs.Common.{◌≡◌, ℕ, ◌+◌, ◌<◌, ◌≤◌, List, [], ◌∷◌, ◌++◌, Bool, true, false, Option, Some, None, max, nat_eq, nat_le, nat_lt, refl, sym, ap, ◌∙◌, inl, inr, arith, if◌then◌else◌}
use Rattle.std.specs.Prelude.{not, Ok, Err, Result}
use Rattle.std.specs.Option.{option_map}
use Rattle.std.proofs.lemmas.Bool.{cases_Bool, leb-false, ltb-false, ltb-true, not-false, or_parts}
use Rattle.std.proofs.lemmas.Bool.Decides.{nat_tests}
use Rattle.seq_base.specs.declared.kinds.TheConstants.{NEW_VIEW, ASK, ORDER, PROPOSE, VOTE}
use Rattle.seq_base.specs.declared.digest.Digest.{Digest}
use Rattle.seq_base.specs.declared.block.Block.{Block}
use Rattle.seq_base.specs.declared.block.Cert.{Cert}
use Rattle.seq_base.specs.declared.block.CertVote.{CertVote}
use Rattle.seq_base.specs.declared.block.Vote.{Vote}
use Rattle.seq_base.specs.declared.order.LocalOrder.{LocalOrder}
use Rattle.seq_base.specs.declared.order.SealedOrder.{SealedOrder}
use Rattle.seq_base.specs.Setting.{leader_of, quorum_of}
use Rattle.seq_base.specs.Spelling.{call_spelling, order_spelling, vote_spelling}
use Rattle.block_store.specs.Store.{block_digest}
use Rattle.quorum_cert.specs.Boxes.{bare, keep_answer}
use Rattle.wire_view.specs.Views.{Call, Proposed, Voted}
use Rattle.wire_view.specs.declared.fault.WireFault.{WireFault}
use Rattle.wire_view.specs.declared.messages.MessageView.{MessageView}
use Rattle.wire_view.specs.declared.messages.MessageView.TheVariants as messages
use Rattle.wire_view.specs.Messages.{read_of}
use Rattle.node_core.specs.declared.event.Event.{Event}
use Rattle.node_core.specs.declared.event.Event.TheVariants.{Arrived, Deliver, Tick}
use Rattle.node_core.specs.declared.event.Reason.TheVariants.{Done, ViewLimit}
use Rattle.node_core.specs.declared.state.votes.Formed.{Formed}
use Rattle.node_core.specs.State.{Known, State, knowing, callers_of}
use Rattle.node_core.specs.See.{seen, asked_for, taken, ordering}
use Rattle.node_core.specs.Reported.{Gives, Outcome, quiet, is_spent, one_more_made}
use Rattle.node_core.specs.Rows.{Check}
use Rattle.node_core.specs.NewView.{joined, new_view_done, new_view_rows}
use Rattle.node_core.specs.Ask.{ask_done, ask_rows, order_of_view}
use Rattle.node_core.specs.Order.{order_done, order_rows, are_enough, with_order, proposal, proposes}
use Rattle.node_core.specs.Propose.{propose_done, propose_rows, proposed_rows, voted, vote_for, lone_vote}
use Rattle.node_core.specs.Vote.{vote_done, vote_rows, formed, formed_votes, certified, certified_if, proposing_next, next_block, ballot_of, with_carried}
use Rattle.node_core.specs.Vote as voting
use Rattle.node_core.specs.Give.{give_done, give_rows, fetch_of}
use Rattle.node_core.specs.Turn.{turn_of, on_tick, on_message, delivered, calls}
use Rattle.node_core.specs.Runs.{journal_of, state_after}
use Rattle.std.proofs.lemmas.Grind.{flat_map-append}
use Rattle.journal_rules.specs.Sealed.{sealed_in}
use Rattle.journal_laws.specs.Sealed.{has_kind, Rise, AreSealedOnce}
use Rattle.journal_laws.proofs.Cases.{Passes, Still, new_view_cases, ask_cases, order_cases, propose_cases, vote_cases, give_cases}
use Rattle.journal_laws.proofs.Marks.{rise_on, InBounds, Seals, SealsIn, forget, if_seals, one_sealed, Goes, nothing, a_call, an_ask, an_order, a_proposal, a_vote, with_order as vote_with_order}
use Rattle.journal_laws.proofs.Tests.{viewed, is_below}

-- Only the mark of the view increases, if any does.
view_rises : (s t : Known) → InBounds s → t.views ≡ s.views → t.asked ≡ s.asked → t.ordered ≡ s.ordered → t.proposed ≡ s.proposed
    → t.safety.voted ≡ s.safety.voted → s.view ≤ t.view → t.view ≤ s.views → Goes s t
view_rises s t b views asked ordered proposed voted above below = record {
  bounds = record {
    ordered = omega (arith, b.ordered, ordered, above);
    proposed = omega (arith, b.proposed, proposed, asked);
    view = omega (arith, views, below);
    asked = omega (arith, b.asked, asked, views);
    voted = omega (arith, b.voted, voted, views);
    wide = omega (arith, b.wide, views);
  };
  views = views;
  view = above;
  asked = omega (arith, asked);
  ordered = omega (arith, ordered);
  proposed = omega (arith, proposed);
  voted = omega (arith, voted);
}

stays : (s : Known) → InBounds s → Goes s s
stays s b = view_rises s s b refl refl refl refl refl (omega arith) b.view

seen_goes : (s : Known) (cert : Cert) → InBounds s → cert.view ≤ s.views → Goes s (seen cert s)
seen_goes s cert b below = view_rises s (seen cert s) b refl refl refl refl refl (omega arith) (omega (arith, b.view, below))

tick_seals : (gives : Gives) (s : State) (floor : ℕ) → InBounds s.known → SealsIn s.known (on_tick gives s floor)
unfolding on_tick
tick_seals gives s floor b = by (nat_le s.known.views (max s.known.view floor)) refl
  where
    by : (t : Bool) → nat_le s.known.views (max s.known.view floor) ≡ t
        → SealsIn s.known (if t then quiet s ViewLimit else calls gives (knowing s (record s.known { view = max s.known.view floor + 1 })))
    by true is = nothing s.known s.known (stays s.known b)
    by false is =
        let below : max s.known.view floor < s.known.views = leb-false _ _ is in
        let now : Known = record s.known { view = max s.known.view floor + 1 } in
        let goes : Goes s.known now = view_rises s.known now b refl refl refl refl refl (omega arith) (omega (arith, below)) in
        one_sealed s.known gives (knowing s now) (call_spelling NEW_VIEW s.known.me (max s.known.view floor + 1) s.known.high)
        (leader_of s.known.setting (max s.known.view floor + 1) ∷ [])
        (a_call s.known now s.known.me (max s.known.view floor + 1) (omega (arith, below, b.wide)) goes s.known.high (omega arith) (omega arith))

new_view_seals : (fits : Check) (gives : Gives) (s : State) (from : ℕ) (call : Call) → InBounds s.known
    → Passes (new_view_rows fits s.known from call) → SealsIn s.known (new_view_done gives s from call)
unfolding new_view_done
new_view_seals fits gives s from call b p =
    let fit : (0 < call.view) × (call.view ≤ s.known.views) = viewed s.known call.view p.1.0 in
    let new = or_parts (nat_lt call.view s.known.view) _ p.1.1.1.0 in
    let above : s.known.view ≤ call.view = ltb-false _ _ new.0 in
    let asked : s.known.asked < call.view = leb-false _ _ (or_parts (nat_le call.view s.known.high.view) _ new.1).1 in
    let earlier : call.cert.view < call.view = is_below fits s.known call.cert call.view p.1.1.1.1.1.0 in
    let after : Known = joined from call s.known in
    let seen_now : Goes s.known after = seen_joined earlier fit.1 in
    let next : Known = asked_for call.view after in
    let goes : Goes s.known next = record {
      bounds =
          record {
            ordered = omega (arith, b.ordered, above);
            proposed = omega (arith, b.proposed, asked);
            view = fit.1;
            asked = fit.1;
            voted = b.voted;
            wide = b.wide;
          };
      views = refl;
      view = above;
      asked = omega (arith, asked);
      ordered = omega arith;
      proposed = omega arith;
      voted = omega arith;
    } in
    if_seals s.known (nat_eq (callers_of after.gathered call.view) (quorum_of after.setting)) _ _
    (one_sealed s.known gives (knowing (knowing s after) next)
    _ _ (an_ask s.known next s.known.me call.view (omega (arith, fit.1, b.wide)) goes next.high asked (omega arith)))
    (nothing s.known after seen_now)
  where
    seen_joined : call.cert.view < call.view → call.view ≤ s.known.views → Goes s.known (joined from call s.known)
    seen_joined earlier below = view_rises s.known (joined from call s.known) b refl refl refl refl refl (omega arith) (omega (arith, b.view, earlier, below))

ask_seals : (fits : Check) (gives : Gives) (s : State) (from : ℕ) (call : Call) → InBounds s.known
    → Passes (ask_rows fits s.known from call) → SealsIn s.known (ask_done gives s from call)
unfolding ask_done
ask_seals fits gives s from call b p =
    let fit : (0 < call.view) × (call.view ≤ s.known.views) = viewed s.known call.view p.1.0 in
    let new = or_parts (nat_lt call.view s.known.view) _ p.1.1.1.0 in
    let above : s.known.view ≤ call.view = ltb-false _ _ new.0 in
    let unordered : s.known.ordered < call.view = leb-false _ _ p.1.1.1.1.1.1.1.0 in
    let after : Known = ordering call.view (seen call.cert s.known) in
    let goes : Goes s.known after = record {
      bounds = record { ordered = omega arith; proposed = b.proposed; view = fit.1; asked = b.asked; voted = b.voted; wide = b.wide };
      views = refl;
      view = above;
      asked = omega arith;
      ordered = omega (arith, unordered);
      proposed = omega arith;
      voted = omega arith;
    } in
    one_sealed s.known gives (knowing s after) _ (from ∷ [])
    (let order : LocalOrder = order_of_view after call.view call.cert.block in
    an_order s.known after s.known.me call.view (omega (arith, fit.1, b.wide)) goes order.parent order.fresh order.late unordered (omega arith))

order_seals : (fits : Check) (gives : Gives) (s : State) (from : ℕ) (sealed : SealedOrder) → InBounds s.known
    → Passes (order_rows fits s.known from sealed) → SealsIn s.known (order_done gives s sealed)
unfolding order_done proposal
order_seals fits gives s from sealed b p =
    let old = or_parts (not (nat_eq sealed.order.view s.known.asked)) _ p.1.1.1.0 in
    let same : nat_eq sealed.order.view s.known.asked ≡ true = not-false _ old.0 in
    let other = or_parts (nat_lt sealed.order.view s.known.view) _ old.1 in
    let differs : nat_eq sealed.order.view s.known.proposed ≡ false = other.1 in
    let view_is : sealed.order.view ≡ s.known.asked = grind (arith, nat_tests) in
    let below : s.known.proposed < s.known.asked = grind (arith, nat_tests, b.proposed) in
    elim (cases_Bool (are_enough s.known (with_order sealed s.known.orders))) [
      | inl full ↦ rw full (
          let after : Known = record s.known { proposed = s.known.asked; orders = [] } in
          let goes : Goes s.known after = record {
            bounds = record { ordered = b.ordered; proposed = omega arith; view = b.view; asked = b.asked; voted = b.voted; wide = b.wide };
            views = refl;
            view = omega arith;
            asked = omega arith;
            ordered = omega arith;
            proposed = b.proposed;
            voted = omega arith;
          } in
          one_sealed s.known gives (knowing s after) _ _ (a_proposal s.known after s.known.me s.known.asked
          (omega (arith, b.asked, b.wide)) goes s.known.ask_cert (with_order sealed s.known.orders) below (omega arith)))
      | inr few ↦ rw few (
          let after : Known = record s.known { orders = with_order sealed s.known.orders } in
          nothing s.known after (view_rises s.known after b refl refl refl refl refl (omega arith) b.view))
    ]

-- a vote, with the order that it carries below the last view
voted_seals : (gives : Gives) (old : Known) (s : State) (v : ℕ) (block : Digest) → InBounds s.known → Goes old s.known
    → s.known.safety.voted ≡ old.safety.voted → s.known.ordered ≡ old.ordered
    → old.safety.voted < v → s.known.view ≤ v → v ≤ s.known.views → SealsIn old (voted gives s v block)
unfolding voted
voted_seals gives old s v block b goes same_voted same_ordered fresh above below = by (nat_lt v s.known.views) refl
  where
    by : (t : Bool) → nat_lt v s.known.views ≡ t → SealsIn old (if t
        then vote_for gives (knowing s (ordering (v + 1) (record s.known { safety = record s.known.safety { voted = v } }))) v block
        (order_of_view (ordering (v + 1) (record s.known { safety = record s.known.safety { voted = v } })) (v + 1) block)
        else lone_vote gives (knowing s (record s.known { safety = record s.known.safety { voted = v }; view = v })) v block)
    by true is =
        let next : Known = ordering (v + 1) (record s.known { safety = record s.known.safety { voted = v } }) in
        let lower : v < s.known.views = ltb-true _ _ is in
        let on : Goes old next = record {
          bounds = record { ordered = omega arith; proposed = b.proposed; view = omega (arith, lower); asked = b.asked; voted = below; wide = b.wide };
          views = goes.views;
          view = omega (arith, goes.view, above);
          asked = goes.asked;
          ordered = omega (arith, goes.view, goes.ordered, b.ordered, above);
          proposed = goes.proposed;
          voted = omega (arith, fresh);
        } in
        let order : LocalOrder = order_of_view next (v + 1) block in
        let whole : Seals old (vote_spelling s.known.me v block ∷ order_spelling order ∷ []) next =
        vote_with_order old next s.known.me v (omega (arith, lower, b.wide)) on block order.parent order.fresh order.late fresh
        (omega arith) (omega (arith, lower, b.wide)) (omega (arith, same_ordered, b.ordered, above)) (omega arith) in
        let none : Seals old [] next = forget old _ next whole in
        if_seals old (is_spent (knowing s next)) _ _ none (if_seals old (is_spent (one_more_made (knowing s next))) _ _ none whole)
    by false is =
        let next : Known = record s.known { safety = record s.known.safety { voted = v }; view = v } in
        let on : Goes old next = record {
          bounds = record { ordered = omega (arith, b.ordered, above); proposed = b.proposed; view = below; asked = b.asked; voted = below; wide = b.wide };
          views = goes.views;
          view = omega (arith, goes.view, above);
          asked = goes.asked;
          ordered = goes.ordered;
          proposed = goes.proposed;
          voted = omega (arith, fresh);
        } in
        let whole : Seals old (vote_spelling s.known.me v block ∷ []) next =
        a_vote old next s.known.me v (omega (arith, below, b.wide)) on block fresh (omega arith) in
        if_seals old (is_spent (knowing s next)) _ _ (forget old _ next whole) whole

propose_seals : (fits : Check) (gives : Gives) (s : State) (from : ℕ) (proposed : Proposed) → InBounds s.known
    → Passes (propose_rows fits s.known from proposed) → Passes (proposed_rows fits s.known proposed.block)
    → SealsIn s.known (propose_done gives s proposed.block)
unfolding propose_done
propose_seals fits gives s from proposed b p q =
    let block : Block = proposed.block in
    let fit : (0 < block.view) × (block.view ≤ s.known.views) = viewed s.known block.view p.1.0 in
    let new = or_parts (nat_lt block.view s.known.view) _ p.1.1.1.0 in
    let above : s.known.view ≤ block.view = ltb-false _ _ new.0 in
    let earlier : block.cert.view < block.view = is_below fits s.known block.cert block.view p.1.1.1.1.1.0 in
    let fresh : s.known.safety.voted < block.view = leb-false _ _ q.1.1.1.0 in
    let goes : Goes s.known (taken block s.known) = took block earlier fit.1 in
    voted_seals gives s.known (knowing s (taken block s.known)) block.view (block_digest block) goes.bounds goes refl refl fresh
    (omega (arith, above, earlier)) fit.1
  where
    took : (block : Block) → block.cert.view < block.view → block.view ≤ s.known.views → Goes s.known (taken block s.known)
    took block earlier below = view_rises s.known (taken block s.known) b refl refl refl refl refl (omega arith) (omega (arith, b.view, earlier, below))

give_seals : (fits : Check) (gives : Gives) (s : State) (block : Block) → InBounds s.known → Passes (give_rows fits s.known block)
    → SealsIn s.known (give_done s block)
unfolding give_done
give_seals fits gives s block b p =
    let fit : (0 < block.view) × (block.view ≤ s.known.views) = viewed s.known block.view p.0 in
    let earlier : block.cert.view < block.view = is_below fits s.known block.cert block.view p.1.0 in
    nothing s.known (taken block s.known)
    (view_rises s.known (taken block s.known) b refl refl refl refl refl (omega arith) (omega (arith, b.view, fit.1, earlier)))

-- a certificate formed, or not
one_certified_seals : (gives : Gives) (s : State) (f : Formed) → InBounds s.known → f.cert.view ≤ s.known.views
    → s.known.view ≤ f.cert.view + 1 → s.known.asked < f.cert.view + 1
    → SealsIn s.known (certified gives s f)
unfolding certified proposal
one_certified_seals gives s f b below above asked = by (nat_eq f.cert.view s.known.views) refl
  where
    saw : Goes s.known (seen f.cert s.known)
    saw = seen_goes s.known f.cert b below

    by : (t : Bool) → nat_eq f.cert.view s.known.views ≡ t
        → SealsIn s.known (if t then quiet (knowing s (seen f.cert s.known)) Done
        else proposes gives (knowing (knowing s (seen f.cert s.known)) (proposing_next f.cert (seen f.cert s.known))) (next_block f))
    by true is = nothing s.known (seen f.cert s.known) saw
    by false is =
        let next : Known = proposing_next f.cert (seen f.cert s.known) in
        let lower : f.cert.view < s.known.views = grind (arith, nat_tests, below) in
        let goes : Goes s.known next = record {
          bounds =
              record {
                ordered = omega (arith, b.ordered, above);
                proposed = omega arith;
                view = omega (arith, lower);
                asked = omega (arith, lower);
                voted = b.voted;
                wide = b.wide;
              };
          views = refl;
          view = omega (arith, above);
          asked = omega (arith, asked);
          ordered = omega arith;
          proposed = omega (arith, b.proposed, asked);
          voted = omega arith;
        } in
        one_sealed s.known gives (knowing s next) _ _ (a_proposal s.known next s.known.me (f.cert.view + 1)
        (omega (arith, lower, b.wide)) goes f.cert f.orders (omega (arith, b.proposed, asked)) (omega arith))

certified_seals : (gives : Gives) (s : State) (v : ℕ) (f : Option Formed) → InBounds s.known → ((x : Formed) → f ≡ Some x → x.cert.view ≡ v)
    → v ≤ s.known.views → s.known.view ≤ v + 1 → s.known.asked < v + 1
    → SealsIn s.known (certified_if gives s f)
certified_seals gives s v None b same below above asked = nothing s.known s.known (stays s.known b)
certified_seals gives s v (Some f) b same below above asked =
    let is_v : f.cert.view ≡ v = same f refl in
    one_certified_seals gives s f b (omega (arith, is_v, below)) (omega (arith, is_v, above)) (omega (arith, is_v, asked))

formed_view : (s : Known) (v : ℕ) (block : Digest) (vote : CertVote) (order : Option SealedOrder) (x : Formed)
    → formed s v block vote order ≡ Some x → x.cert.view ≡ v
unfolding formed
formed_view s v block vote order x is = by (formed_votes (keep_answer (ballot_of s v block).votes vote)) is
  where
    by : (o : Option (List CertVote))
        → option_map (λ votes. record { cert = record { view = v; block = block; votes = votes }; orders = with_carried order (ballot_of s v block).orders }) o
        ≡ Some x → x.cert.view ≡ v
    by None none = absurd (cc)
    by (Some votes) some =
        let same : record { cert = record { view = v; block = block; votes = votes }; orders = with_carried order (ballot_of s v block).orders } ≡ x = cc in
        ap (λ (f : Formed). f.cert.view) (sym same)

vote_seals : (fits : Check) (gives : Gives) (s : State) (from : ℕ) (voted : Voted) → InBounds s.known
    → Passes (vote_rows fits s.known from voted) → SealsIn s.known (vote_done gives s voted.vote voted.order)
unfolding vote_done voting.keeping
vote_seals fits gives s from voted b p =
    let vote : Vote = voted.vote in
    let fit : (0 < vote.view) × (vote.view ≤ s.known.views) = viewed s.known vote.view p.1.0 in
    let old = or_parts (nat_lt (vote.view + 1) s.known.view) _ p.1.1.1.0 in
    let above : s.known.view ≤ vote.view + 1 = ltb-false _ _ old.0 in
    let asked : s.known.asked < vote.view + 1 = leb-false _ _ (or_parts (nat_le vote.view s.known.high.view) _ old.1).1 in
    let next : Known = voting.keeping s.known vote.view vote.block (bare vote) voted.order in
    let h : SealsIn next (certified_if gives (knowing s next) (formed s.known vote.view vote.block (bare vote) voted.order)) =
    certified_seals gives (knowing s next) vote.view (formed s.known vote.view vote.block (bare vote) voted.order)
    (view_rises s.known next b refl refl refl refl refl (omega arith) b.view).bounds
    (λ x is. formed_view s.known vote.view vote.block (bare vote) voted.order x is) fit.1 above asked in
    record { bounds = h.bounds; views = h.views; calls = h.calls; asks = h.asks; orders = h.orders; proposals = h.proposals; votes = h.votes }

fetch_seals : (s : State) (from : ℕ) (block : Option Block) → InBounds s.known → SealsIn s.known (fetch_of s from block)
fetch_seals s from None b = nothing s.known s.known (stays s.known b)
fetch_seals s from (Some block) b = nothing s.known s.known (stays s.known b)

message_seals : (fits : Check) (gives : Gives) (s : State) (from : ℕ) (m : MessageView) → InBounds s.known → SealsIn s.known (on_message fits gives s from m)
message_seals fits gives s from m b = by m
  where
    still : Still fits gives s from (SealsIn s.known)
    still reason not_done sends = nothing s.known s.known (stays s.known b)

    by : (m : MessageView) → SealsIn s.known (on_message fits gives s from m)
    by (messages.NewView call) = new_view_cases fits gives s from (SealsIn s.known) call still (new_view_seals fits gives s from call b)
    by (messages.Ask call) = ask_cases fits gives s from (SealsIn s.known) call still (ask_seals fits gives s from call b)
    by (messages.Order sealed) = order_cases fits gives s from (SealsIn s.known) sealed still (λ p q. order_seals fits gives s from sealed b p)
    by (messages.Propose proposed) = propose_cases fits gives s from (SealsIn s.known) proposed still (λ p q. propose_seals fits gives s from proposed b p q)
    by (messages.Vote voted) = vote_cases fits gives s from (SealsIn s.known) voted still (λ p q. vote_seals fits gives s from voted b p)
    by (messages.Fetch block) = fetch_seals s from _ b
    by (messages.Give block) = give_cases fits gives s from (SealsIn s.known) block still (λ p q. give_seals fits gives s block b p)

pub turn_seals : (fits : Check) (gives : Gives) (s : State) (e : Event) → InBounds s.known → SealsIn s.known (turn_of fits gives s e)
turn_seals fits gives s (Arrived list) b =
    let now : Known = record s.known { prefix = s.known.prefix ++ list } in
    nothing s.known now (view_rises s.known now b refl refl refl refl refl (omega arith) b.view)
turn_seals fits gives s (Deliver from bytes) b = by (read_of bytes)
  where
    by : (r : Result MessageView WireFault) → SealsIn s.known (delivered fits gives s from r)
    by (Ok m) = message_seals fits gives s from m b
    by (Err fault) = nothing s.known s.known (stays s.known b)
turn_seals fits gives s (Tick floor) b = tick_seals gives s floor b

-- statements that are sealed in two parts
joined_seals : (s t u : Known) (xs ys : List (List ℕ)) → Seals s xs t → Seals t ys u → Seals s (xs ++ ys) u
joined_seals s t u xs ys first next = record {
  bounds = next.bounds;
  views = next.views ∙ first.views;
  calls = rw (flat_map-append (has_kind NEW_VIEW) xs ys) (rise_on s.view t.view u.view _ _ first.calls next.calls);
  asks = rw (flat_map-append (has_kind ASK) xs ys) (rise_on s.asked t.asked u.asked _ _ first.asks next.asks);
  orders = rw (flat_map-append (has_kind ORDER) xs ys) (rise_on s.ordered t.ordered u.ordered _ _ first.orders next.orders);
  proposals = rw (flat_map-append (has_kind PROPOSE) xs ys) (rise_on s.proposed t.proposed u.proposed _ _ first.proposals next.proposals);
  votes = rw (flat_map-append (has_kind VOTE) xs ys) (rise_on s.safety.voted t.safety.voted u.safety.voted _ _ first.votes next.votes);
}

pub run_seals : (fits : Check) (gives : Gives) (s : State) (events : List Event) → InBounds s.known
    → Seals s.known (sealed_in (journal_of fits gives s events)) (state_after fits gives s events).known
run_seals fits gives s [] b = nothing s.known s.known (stays s.known b)
run_seals fits gives s (e ∷ es) b =
    let o : Outcome = turn_of fits gives s e in
    let now : Seals s.known o.reported.sealed o.state.known = turn_seals fits gives s e b in
    joined_seals s.known o.state.known (state_after fits gives o.state es).known o.reported.sealed
    (sealed_in (journal_of fits gives o.state es)) now (run_seals fits gives o.state es now.bounds)

higher : (low high most : ℕ) (vs : List ℕ) → high ≤ most → Rise low vs high → Rise low vs most
higher low high most [] below rise = omega (arith, below, rise)
higher low high most (v ∷ vs) below rise = (rise.0, higher v high most vs below rise.1)

pub once : (s t : Known) (sealed : List (List ℕ)) → Seals s sealed t → s.view ≡ 0 → s.asked ≡ 0 → s.ordered ≡ 0 → s.proposed ≡ 0
    → s.safety.voted ≡ 0 → AreSealedOnce s.views sealed
once s t sealed h view asked ordered proposed voted = record {
  calls = rw (← view) (higher s.view t.view s.views _ (omega (arith, h.bounds.view, h.views)) h.calls);
  asks = rw (← asked) (higher s.asked t.asked s.views _ (omega (arith, h.bounds.asked, h.views)) h.asks);
  orders = rw (← ordered) (higher s.ordered t.ordered s.views _ (omega (arith, h.bounds.ordered, h.bounds.view, h.views)) h.orders);
  proposals = rw (← proposed) (higher s.proposed t.proposed s.views _ (omega (arith, h.bounds.proposed, h.bounds.asked, h.views)) h.proposals);
  votes = rw (← voted) (higher s.safety.voted t.safety.voted s.views _ (omega (arith, h.bounds.voted, h.views)) h.votes);
}
