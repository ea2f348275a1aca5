-- A turn, kind by kind: the invariant between state and journal is preserved, and the entry is lawful.
use Rattle.std.proofs.Common.{◌≡◌, ℕ, ◌+◌, ◌^◌, ◌<◌, ◌≤◌, List, [], ◌∷◌, ◌++◌, Bool, true, false, Option, Some, None, is_some, nat_eq, nat_lt, nat_le, max, refl, sym, ap, subst, ◌∙◌, inl, inr, arith}
use Rattle.std.specs.Prelude.{Result, Ok, Err, if◌then◌else◌}
use Rattle.std.specs.List.{cons_option}
use Rattle.std.proofs.lemmas.Bool.{and_parts, cases_Bool, leb-false, ltb-true, not-false, or_parts, or_right}
use Rattle.std.proofs.lemmas.Bool.Decides.{nat_tests}
use Rattle.std.proofs.lemmas.List.{append-nil}
use Rattle.std.proofs.lemmas.List.Elements.{All-nil, All-cons}
use Rattle.seq_base.specs.declared.kinds.TheConstants.{NEW_VIEW, ASK}
use Rattle.seq_base.specs.declared.tx.Tx.{Tx}
use Rattle.seq_base.specs.declared.digest.Digest.{Digest}
use Rattle.seq_base.specs.declared.block.Block.{Block}
use Rattle.seq_base.specs.declared.message.Outgoing.{Outgoing}
use Rattle.seq_base.specs.declared.order.SealedOrder.{SealedOrder}
use Rattle.seq_base.specs.Blocks.{first_digest, digest_eq}
use Rattle.seq_base.specs.Setting.{Parameters, leader_of, quorum_of}
use Rattle.seq_base.specs.Spelling.{call_spelling, order_spelling, propose_spelling, vote_spelling}
use Rattle.block_store.specs.Store.{block_digest, is_stored, with_block}
use Rattle.quorum_cert.specs.Boxes.{bare}
use Rattle.wire_view.specs.Views.{Call, Proposed, Voted}
use Rattle.wire_view.specs.declared.fault.WireFault.{WireFault}
use Rattle.wire_view.specs.declared.messages.MessageView.{MessageView}
use Rattle.wire_view.specs.declared.messages.MessageView.TheVariants as messages
use Rattle.wire_view.specs.Messages.{read_of}
use Rattle.hotstuff_core.specs.Rules.{seen_in, is_safe}
use Rattle.agreement_laws.specs.Journals.{Named, Message, Ballot, Entry as Shown}
use Rattle.agreement_laws.specs.Lawful.{IsLawfulVote}
use Rattle.node_core.specs.declared.event.Event.{Event}
use Rattle.node_core.specs.declared.event.Event.TheVariants.{Arrived, Deliver, Tick}
use Rattle.node_core.specs.declared.event.Reason.{Reason}
use Rattle.node_core.specs.declared.event.Reason.TheVariants.{Done, BadWire, ViewLimit, Orphan}
use Rattle.node_core.specs.declared.state.votes.Formed.{Formed}
use Rattle.node_core.specs.State.{Ballot as Kept_ballot, Known, State, knowing, callers_of}
use Rattle.node_core.specs.See.{seen, asked_for, taken, ordering}
use Rattle.node_core.specs.Reported.{Gives, Outcome, reported, quiet, everyone, sealed_to, is_spent, one_more_made}
use Rattle.node_core.specs.Rows.{Check, is_stored_elsewhere, is_fit}
use Rattle.node_core.specs.NewView.{joined, new_view_done, new_view_rows}
use Rattle.node_core.specs.Ask.{ask_done, ask_rows, order_of_view}
use Rattle.node_core.specs.Order.{order_done, are_enough, with_order, proposal}
use Rattle.node_core.specs.Propose.{propose_done, propose_rows, proposed_rows, voted as votes_now, vote_for, lone_vote}
use Rattle.node_core.specs.Vote.{others, ballot_of, with_vote, boxes_with, vote_is_sealed, vote_done, vote_rows, voted_rows, formed, certified, certified_if, proposing_next, next_block as block_of_votes}
use Rattle.node_core.specs.Vote as voting
use Rattle.node_core.specs.Give.{give_done, give_rows, given_rows, fetch_of}
use Rattle.node_core.specs.Turn.{turn_of, on_tick, on_message, delivered}
use Rattle.node_core.specs.Delivered.{message_in}
use Rattle.std.specs.Result.{result_ok}
use Rattle.journal_rules.specs.Shown.{is_done, named, shown_message, ballot_in}
use Rattle.journal_rules.specs.JournalPrefixes.{arrived_by}
use Rattle.journal_rules.proofs.Blocks.{block_of, with_stored}
use Rattle.journal_laws.proofs.Cases.{Passes, Still, new_view_cases, ask_cases, order_cases, propose_cases, vote_cases, give_cases}
use Rattle.journal_laws.proofs.Marks.{InBounds}
use Rattle.journal_laws.proofs.StateInvariant.{TiedTo, found_with, next_still, next_seen, next_vote}
use Rattle.journal_rules.specs.Stores.{at}
use Rattle.journal_rules.proofs.Stores.{found_stored}
use Rattle.journal_laws.proofs.AcceptedBlocks.{IsTaken, IsTaking, none_more, proposal_entry, taken_ties, takes_cert, valid_block, voting_ties}
use Rattle.journal_laws.proofs.Tests.{viewed}
use Rattle.journal_laws.proofs.TurnTies.{Laws, WasDone, IsOwn, TurnTies, if_so, ComesFrom, vote_shown}

module _ (laws : Laws) (fits : Check) (gives : Gives) (s : Parameters) (state : State) (blocks : List Block) (arrived : List Tx) (prior : List Shown)
    (tied : TiedTo s state.known blocks arrived prior) (bounds : InBounds state.known) where
  abbrev known : Known
  known = state.known

  abbrev Ties : Option MessageView → List Tx → Outcome → Type 0
  Ties m more o = TurnTies fits s known blocks arrived prior m more o

  -- nothing is done
  idle_ties : (m : Option MessageView) (reason : Reason) → is_done reason ≡ false → (sends : List Outgoing)
      → Ties m [] (record { reported = reported state reason [] sends; state = state })
  idle_ties m reason is sends = record {
    tied = rw is (next_still s known blocks arrived prior tied laws.moves known []
        (record { message = shown_message m; is_done = false; sealed = [] }) refl (λ done. absurd (cc)) refl (λ v d. refl) refl
        refl refl refl refl refl (sym (append-nil known.prefix)));
    kept = refl;
    me = refl;
    idle = λ none. (refl, refl);
    done = λ done. (let never : true ≡ false = sym done ∙ is in absurd (cc));
    own = All-nil (IsOwn known);
  }

  -- a statement that is no order and no vote, over the knowledge after the turn
  sealed_ties : (m : Option MessageView) (more : List Tx) (next : State) (statement receivers : List ℕ) → next.known.me ≡ known.me
      → ballot_in statement ≡ None → IsOwn next.known statement → WasDone fits known m
      → TiedTo s next.known (with_stored blocks (block_of m)) (arrived ++ more)
      (prior ++ record { message = shown_message m; is_done = true; sealed = [] } ∷ [])
      → Ties m more (sealed_to gives next statement receivers)
  sealed_ties m more next statement receivers own no_vote drawn was ties =
      if_so (Ties m more) (is_spent next) _ _
      (record { tied = ties; kept = refl; me = own; idle = λ none. absurd (cc); done = λ done. was; own = All-nil (IsOwn next.known) })
      (record {
        tied = rw no_vote ties;
        kept = refl;
        me = own;
        idle = λ none. absurd (cc);
        done = λ done. was;
        own = All-cons (IsOwn next.known) statement [] drawn (All-nil (IsOwn next.known));
      })

  -- or nothing is sealed
  quiet_ties : (m : Option MessageView) (more : List Tx) (next : State) → next.known.me ≡ known.me → WasDone fits known m
      → TiedTo s next.known (with_stored blocks (block_of m)) (arrived ++ more)
      (prior ++ record { message = shown_message m; is_done = true; sealed = [] } ∷ [])
      → Ties m more (quiet next Done)
  quiet_ties m more next own was ties =
      record { tied = ties; kept = refl; me = own; idle = λ none. absurd (cc); done = λ done. was; own = All-nil (IsOwn next.known) }

  abbrev Here : Option MessageView → Known → Type 0
  Here m next = TiedTo s next (with_stored blocks (block_of m)) (arrived ++ [])
      (prior ++ record { message = shown_message m; is_done = true; sealed = [] } ∷ [])

  tick_ties : (floor : ℕ) → Ties None [] (on_tick gives state floor)
  unfolding on_tick
  tick_ties floor =
      let now : Known = record known { view = max known.view floor + 1 } in
      if_so (Ties None []) (nat_le known.views (max known.view floor)) _ _ (idle_ties None ViewLimit refl [])
      (sealed_ties None [] (knowing state now) (call_spelling NEW_VIEW known.me (max known.view floor + 1) known.high)
      (leader_of known.setting (max known.view floor + 1) ∷ []) refl refl (record { named = refl; drawn = λ is. absurd (omega (arith, is)) }) tt
      (next_still s known blocks arrived prior tied laws.moves now [] (record { message = Message.Other; is_done = true; sealed = [] }) refl
      (λ done. tt) refl (λ v d. refl) refl refl refl refl refl refl (sym (append-nil known.prefix))))

  arrived_ties : (list : List Tx) → Ties None list (turn_of fits gives state (Arrived list))
  arrived_ties list =
      let now : Known = record known { prefix = known.prefix ++ list } in
      quiet_ties None list (knowing state now) refl tt
      (next_still s known blocks arrived prior tied laws.moves now list (record { message = Message.Other; is_done = true; sealed = [] }) refl
      (λ done. tt) refl (λ v d. refl) refl refl refl refl refl refl refl)

  new_view_ties : (from : ℕ) (call : Call) → Passes (new_view_rows fits known from call)
      → Ties (Some (messages.NewView call)) [] (new_view_done gives state from call)
  unfolding new_view_done
  new_view_ties from call p =
      let t : IsTaken fits s known prior call.cert call.view =
      takes_cert laws fits s known blocks arrived prior tied call.cert call.view p.1.1.1.1.1.0 p.1.1.1.1.1.1.0 in
      let after : Known = joined from call known in
      let next : Known = asked_for call.view after in
      let x : Shown = record { message = Message.NewView call.cert; is_done = true; sealed = [] } in
      if_so (Ties (Some (messages.NewView call)) []) (nat_eq (callers_of after.gathered call.view) (quorum_of after.setting)) _ _
      (sealed_ties (Some (messages.NewView call)) [] (knowing (knowing state after) next) (call_spelling ASK known.me call.view next.high)
      (everyone next) refl refl (record { named = refl; drawn = λ is. absurd (omega (arith, is)) }) t.good
      (none_more s arrived next blocks (prior ++ x ∷ []) (next_seen s known blocks arrived prior tied laws.moves next call.cert t.block x refl
      (λ done. (t.agrees, t.shown)) refl (λ v d. refl) refl t.found t.view refl refl refl refl refl refl)))
      (quiet_ties (Some (messages.NewView call)) [] (knowing state after) refl t.good
      (none_more s arrived after blocks (prior ++ x ∷ [])
      (next_seen s known blocks arrived prior tied laws.moves after call.cert t.block x refl (λ done. (t.agrees, t.shown)) refl
      (λ v d. refl) refl t.found t.view refl refl refl refl refl refl)))

  -- the node's own order, drawn over a stored block
  own_order : (next : Known) (v : ℕ) (d : Digest) → v ≤ next.views → is_stored next.store d ≡ true → IsOwn next (order_spelling (order_of_view next v d))
  own_order next v d below there = record {
    named = refl;
    drawn = λ is. record { order = order_of_view next v d; spelled = refl; own = refl; below = below; stored = there; drawn = refl };
  }

  ask_ties : (from : ℕ) (call : Call) → Passes (ask_rows fits known from call) → Ties (Some (messages.Ask call)) [] (ask_done gives state from call)
  unfolding ask_done
  ask_ties from call p =
      let t : IsTaken fits s known prior call.cert call.view =
      takes_cert laws fits s known blocks arrived prior tied call.cert call.view p.1.1.1.1.1.0 p.1.1.1.1.1.1.0 in
      let next : Known = ordering call.view (seen call.cert known) in
      let x : Shown = record { message = Message.Ask call.cert; is_done = true; sealed = [] } in
      sealed_ties (Some (messages.Ask call)) [] (knowing state next) (order_spelling (order_of_view next call.view call.cert.block)) (from ∷ []) refl refl
      (own_order next call.view call.cert.block (viewed known call.view p.1.0).1 (not-false (is_stored known.store call.cert.block) p.1.1.1.1.1.1.0)) t.good
      (none_more s arrived next blocks (prior ++ x ∷ []) (next_seen s known blocks arrived prior tied laws.moves next call.cert t.block x refl
      (λ done. (t.agrees, t.shown)) refl (λ v d. refl) refl t.found t.view refl refl refl refl refl refl))

  -- what is stored of an order has no part in the journal
  order_ties : (sealed : SealedOrder) → Ties (Some (messages.Order sealed)) [] (order_done gives state sealed)
  unfolding order_done proposal
  order_ties sealed = elim (cases_Bool (are_enough known (with_order sealed known.orders))) [
    | inl full ↦ rw full (
        let next : Known = record known { proposed = known.asked; orders = [] } in
        let block : Block = record { view = known.asked; cert = known.ask_cert; orders = with_order sealed known.orders } in
        sealed_ties (Some (messages.Order sealed)) [] (knowing state next) (propose_spelling known.me block) (everyone next) refl refl
        (record { named = refl; drawn = λ is. absurd (omega (arith, is)) }) tt (other next refl refl refl refl refl refl))
    | inr few ↦ rw few (
        let next : Known = record known { orders = with_order sealed known.orders } in
        quiet_ties (Some (messages.Order sealed)) [] (knowing state next) refl tt (other next refl refl refl refl refl refl))
  ]
    where
      other : (next : Known) → next.setting ≡ known.setting → next.store ≡ known.store → next.safety ≡ known.safety
          → next.boxes ≡ known.boxes → next.high ≡ known.high → next.prefix ≡ known.prefix → Here (Some (messages.Order sealed)) next
      other next setting store safety boxes high prefix =
          next_still s known blocks arrived prior tied laws.moves next [] (record { message = Message.Other; is_done = true; sealed = [] }) refl
          (λ done. tt) refl (λ v d. refl) refl setting store safety boxes high (prefix ∙ sym (append-nil known.prefix))

  fetch_ties : (d : Digest) (from : ℕ) (b : Option Block) → Ties (Some (messages.Fetch d)) [] (fetch_of state from b)
  fetch_ties d from None = idle_ties (Some (messages.Fetch d)) Orphan refl []
  fetch_ties d from (Some b) = record {
    tied = next_still s known blocks arrived prior tied laws.moves known [] (record { message = Message.Other; is_done = true; sealed = [] }) refl
        (λ done. tt) refl (λ v d. refl) refl refl refl refl refl refl (sym (append-nil known.prefix));
    kept = refl;
    me = refl;
    idle = λ none. absurd (cc);
    done = λ done. tt;
    own = All-nil (IsOwn known);
  }

  -- a vote, and the certificate that it may complete
  vote_ties : (from : ℕ) (voted : Voted)
      → from < s.n → Passes (vote_rows fits known from voted) → Passes (voted_rows known from voted.vote voted.order)
      → Ties (Some (messages.Vote voted)) [] (vote_done gives state voted.vote voted.order)
  unfolding vote_done voting.keeping certified proposal
  vote_ties from voted from_below p q = by (formed known voted.vote.view voted.vote.block (bare voted.vote) voted.order) refl
    where
      own : voted.vote.replica ≡ from
      own = (let is : nat_eq voted.vote.replica from ≡ true = not-false (nat_eq voted.vote.replica from) p.0 in grind (arith, nat_tests))

      was : WasDone fits known (Some (messages.Vote voted))
      was = subst (λ (r : ℕ). fits r (vote_spelling voted.vote.replica voted.vote.view voted.vote.block) voted.vote.seal ≡ true) (sym own)
          (and_parts (fits from (vote_spelling voted.vote.replica voted.vote.view voted.vote.block) voted.vote.seal)
          _ (not-false (vote_is_sealed fits from voted) p.1.1.1.1.0)).0

      over : known.high.view < voted.vote.view
      over = leb-false _ _ (or_parts (nat_le voted.vote.view known.high.view) _ (or_parts (nat_lt (voted.vote.view + 1) known.view) _ p.1.1.1.0).1).0

      found : (b : Named) × (at known.store voted.vote.block ≡ Some b) × (b.view ≡ voted.vote.view)
      found = found_with s known blocks arrived prior tied voted.vote.block voted.vote.view (not-false (is_stored known.store voted.vote.block) p.1.1.1.1.1.0)
          (or_parts (is_stored_elsewhere known voted.vote.block voted.vote.view) _ p.1.1.1.1.1.1.0).0

      kept_boxes : List Kept_ballot
      kept_boxes = boxes_with (formed known voted.vote.view voted.vote.block (bare voted.vote) voted.order)
          (others voted.vote.view voted.vote.block known.boxes)
          (with_vote (bare voted.vote) voted.order (ballot_of known voted.vote.view voted.vote.block))

      ties : (next : Known) → next.setting ≡ known.setting → next.store ≡ known.store → next.prefix ≡ known.prefix → next.boxes ≡ kept_boxes
          → (formed known voted.vote.view voted.vote.block (bare voted.vote) voted.order ≡ None → (next.safety ≡ known.safety) × (next.high ≡ known.high))
          → ((f : Formed) → formed known voted.vote.view voted.vote.block (bare voted.vote) voted.order ≡ Some f
          → (next.safety ≡ seen_in known.store f.cert.view f.cert.block known.safety)
          × (next.high ≡ (if nat_lt known.high.view f.cert.view then f.cert else known.high)))
          → Here (Some (messages.Vote voted)) next
      ties next setting store prefix boxes if_none if_some =
          none_more s arrived next blocks _ (next_vote s known blocks arrived prior tied laws.moves next voted.vote.replica voted.vote.view
          voted.vote.block found.0 (bare voted.vote) voted.order refl (rw own from_below) found.1 found.2
          over (rw own q.1.0) setting store prefix boxes if_none if_some)

      by : (f : Option Formed) → formed known voted.vote.view voted.vote.block (bare voted.vote) voted.order ≡ f
          → Ties (Some (messages.Vote voted)) []
          (certified_if gives (knowing state (voting.keeping known voted.vote.view voted.vote.block (bare voted.vote) voted.order)) f)
      by None is =
          let next : Known = record known { boxes = kept_boxes } in
          quiet_ties (Some (messages.Vote voted)) [] (knowing state next) refl was
          (ties next refl refl refl refl (λ none. (refl, refl)) (λ f some. (let never : None ≡ Some f = sym is ∙ some in absurd (cc))))
      by (Some f) is =
          let kept_now : Known = record known { boxes = kept_boxes } in
          let after : Known = seen f.cert kept_now in
          let next : Known = proposing_next f.cert after in
          let only : (g : Formed) → formed known voted.vote.view voted.vote.block (bare voted.vote) voted.order ≡ Some g → f ≡ g =
          λ g some. (let one : Some f ≡ Some g = sym is ∙ some in cc) in
          let never : formed known voted.vote.view voted.vote.block (bare voted.vote) voted.order ≡ None → ⊥ =
          λ none. (let one : Some f ≡ None = sym is ∙ none in absurd (cc)) in
          if_so (Ties (Some (messages.Vote voted)) []) (nat_eq f.cert.view after.views) _ _
          (quiet_ties (Some (messages.Vote voted)) [] (knowing state after) refl was
          (ties after refl refl refl refl (λ none. absurd (never none)) (λ g some. rw (only g some) (refl, refl))))
          (sealed_ties (Some (messages.Vote voted)) [] (knowing (knowing state after) next) (propose_spelling known.me (block_of_votes f))
          (everyone next) refl refl (record { named = refl; drawn = λ no. absurd (omega (arith, no)) }) was
          (ties next refl refl refl refl (λ none. absurd (never none)) (λ g some. rw (only g some) (refl, refl))))

  give_ties : (b : Block) → Passes (give_rows fits known b) → Passes (given_rows fits known b) → Ties (Some (messages.Give b)) [] (give_done state b)
  unfolding give_done
  give_ties b p q =
      let t : IsTaking fits s known prior b =
      record {
        cert = takes_cert laws fits s known blocks arrived prior tied b.cert b.view p.1.0 p.1.1.0;
        fit = not-false (is_fit fits known b) q.0;
        alone = q.1.0;
      } in
      let next : Known = taken b known in
      let x : Shown = record { message = Message.Give (named b); is_done = true; sealed = [] } in
      quiet_ties (Some (messages.Give b)) [] (knowing state next) refl
      (record { good = t.cert.good; parent = not-false (is_stored known.store b.cert.block) p.1.1.0; fit = t.fit; alone = t.alone })
      (none_more s arrived next (with_block b blocks) (prior ++ x ∷ [])
      (taken_ties laws fits s known blocks arrived prior tied b next x t refl (λ v d. refl) refl
      (λ done. valid_block laws fits s known blocks arrived prior tied b t) (All-nil (IsLawfulVote s prior x)) (All-nil (λ w. known.safety.voted < w.view))
      (All-nil (λ w. w.view ≤ next.safety.voted)) (omega arith) (omega arith) refl refl refl refl refl refl refl))

  -- a proposal that is accepted, and the vote for it
  module _ (b : Block) (t : IsTaking fits s known prior b) (safe : is_safe known.store known.safety b ≡ true)
      (fresh : known.safety.voted < b.view) (over : known.high.view < b.view) (small : b.view < 2 ^ 32) where
    module _ (replica : ℕ) (seal : List ℕ) where
      abbrev view_of_it : MessageView
      view_of_it = messages.Propose (record { replica = replica; block = b; seal = seal })

      was_done : WasDone fits known (Some view_of_it)
      was_done = record { good = t.cert.good; parent = is_there; fit = t.fit; alone = t.alone }
        where
          is_there : is_stored known.store b.cert.block ≡ true
          is_there = found_stored known.store b.cert.block t.cert.block t.cert.found

      -- no vote is sealed
      unsealed : (next : State)
          → next.known.me ≡ known.me → TiedTo s next.known (with_block b blocks) (arrived ++ []) (prior ++ proposal_entry b [] ∷ [])
          → Ties (Some view_of_it) [] (quiet next Done)
      unsealed next own ties =
          record { tied = ties; kept = refl; me = own; idle = λ none. absurd (cc); done = λ done. was_done; own = All-nil (IsOwn next.known) }

      now_stored : is_stored (with_block b known.store) (block_digest b) ≡ true
      now_stored = or_right (digest_eq (block_digest b) first_digest) _ (ap is_some (laws.found known.store b t.alone))

      voted_ties : Ties (Some view_of_it) [] (votes_now gives (knowing state (taken b known)) b.view (block_digest b))
      unfolding votes_now
      voted_ties = by (nat_lt b.view known.views) refl
        where
          by : (u : Bool) → nat_lt b.view known.views ≡ u → Ties (Some view_of_it) [] (if u
              then vote_for gives
              (knowing state (ordering (b.view + 1) (record (taken b known) { safety = record (taken b known).safety { voted = b.view } })))
              b.view (block_digest b)
              (order_of_view (ordering (b.view + 1) (record (taken b known) { safety = record (taken b known).safety { voted = b.view } }))
              (b.view + 1) (block_digest b))
              else lone_vote gives
              (knowing state (record (taken b known) { safety = record (taken b known).safety { voted = b.view }; view = b.view }))
              b.view (block_digest b))
          by true is =
              let less : b.view < known.views = ltb-true b.view known.views is in
              let lower : b.view + 1 ≤ known.views = omega (arith, less) in
              let next : Known = ordering (b.view + 1) (record (taken b known) { safety = record (taken b known).safety { voted = b.view } }) in
              let both_ways = voting_ties laws fits s known blocks arrived prior tied b t safe fresh over next
              (omega arith) refl refl refl refl refl refl refl in
              if_so (Ties (Some view_of_it) []) (is_spent (knowing state next)) _ _ (unsealed (knowing state next) refl both_ways.0)
              (if_so (Ties (Some view_of_it) [])
              (is_spent (one_more_made (knowing state next))) _ _ (unsealed (one_more_made (knowing state next)) refl both_ways.0)
              (record {
                tied = subst (λ (ballots : List Ballot). TiedTo s next (with_block b blocks) (arrived ++ []) (prior ++ proposal_entry b ballots ∷ []))
                    (sym (ap (λ (o : Option Ballot). cons_option o []) (vote_shown known.me b.view (block_digest b) small))) both_ways.1;
                kept = refl;
                me = refl;
                idle = λ none. absurd (cc);
                done = λ done. was_done;
                own = All-cons (IsOwn next) (vote_spelling known.me b.view (block_digest b))
                    (order_spelling (order_of_view next (b.view + 1) (block_digest b)) ∷ [])
                    (record { named = refl; drawn = λ is. absurd (omega (arith, is)) })
                    (All-cons (IsOwn next) (order_spelling (order_of_view next (b.view + 1) (block_digest b))) []
                    (own_order next (b.view + 1) (block_digest b) lower now_stored) (All-nil (IsOwn next)));
              }))
          by false is =
              let next : Known = record (taken b known) { safety = record (taken b known).safety { voted = b.view }; view = b.view } in
              let both_ways = voting_ties laws fits s known blocks arrived prior tied b t safe fresh over next
              (omega arith) refl refl refl refl refl refl refl in
              if_so (Ties (Some view_of_it) []) (is_spent (knowing state next)) _ _ (unsealed (knowing state next) refl both_ways.0)
              (record {
                tied = subst (λ (ballots : List Ballot). TiedTo s next (with_block b blocks) (arrived ++ []) (prior ++ proposal_entry b ballots ∷ []))
                    (sym (ap (λ (o : Option Ballot). cons_option o []) (vote_shown known.me b.view (block_digest b) small))) both_ways.1;
                kept = refl;
                me = refl;
                idle = λ none. absurd (cc);
                done = λ done. was_done;
                own = All-cons (IsOwn next) (vote_spelling known.me b.view (block_digest b)) []
                    (record { named = refl; drawn = λ is. absurd (omega (arith, is)) }) (All-nil (IsOwn next));
              })

  propose_ties : (from : ℕ) (proposed : Proposed) → Passes (propose_rows fits known from proposed)
      → Passes (proposed_rows fits known proposed.block) → Ties (Some (messages.Propose proposed)) [] (propose_done gives state proposed.block)
  unfolding propose_done
  propose_ties from proposed p q =
      let b : Block = proposed.block in
      let fit : (0 < b.view) × (b.view ≤ known.views) = viewed known b.view p.1.0 in
      let over : known.high.view < b.view = leb-false _ _ (or_parts (nat_lt b.view known.view) _ p.1.1.1.0).1 in
      let t : IsTaking fits s known prior b =
      record {
        cert = takes_cert laws fits s known blocks arrived prior tied b.cert b.view p.1.1.1.1.1.0 p.1.1.1.1.1.1.0;
        fit = not-false (is_fit fits known b) q.0;
        alone = q.1.0;
      } in
      voted_ties b t (not-false (is_safe known.store known.safety b) q.1.1.0) (leb-false _ _ q.1.1.1.0) over
      (omega (arith, fit.1, bounds.wide)) proposed.replica proposed.seal

  message_ties : (from : ℕ) (m : MessageView) → from < s.n → Ties (Some m) [] (on_message fits gives state from m)
  message_ties from m below = by m
    where
      still_for : (m : MessageView) → Still fits gives state from (Ties (Some m) [])
      still_for m reason not_done sends = idle_ties (Some m) reason not_done sends

      by : (m : MessageView) → Ties (Some m) [] (on_message fits gives state from m)
      by (messages.NewView call) = new_view_cases fits gives state from (Ties (Some (messages.NewView call)) []) call
          (still_for (messages.NewView call)) (new_view_ties from call)
      by (messages.Ask call) = ask_cases fits gives state from (Ties (Some (messages.Ask call)) []) call (still_for (messages.Ask call)) (ask_ties from call)
      by (messages.Order sealed) = order_cases fits gives state from (Ties (Some (messages.Order sealed)) []) sealed
          (still_for (messages.Order sealed)) (λ p q. order_ties sealed)
      by (messages.Propose proposed) = propose_cases fits gives state from (Ties (Some (messages.Propose proposed)) []) proposed
          (still_for (messages.Propose proposed)) (propose_ties from proposed)
      by (messages.Vote voted) = vote_cases fits gives state from (Ties (Some (messages.Vote voted)) []) voted
          (still_for (messages.Vote voted)) (vote_ties from voted below)
      by (messages.Fetch block) = fetch_ties block from _
      by (messages.Give block) =
          give_cases fits gives state from (Ties (Some (messages.Give block)) []) block (still_for (messages.Give block)) (give_ties block)

  pub turn_ties : (e : Event) → ComesFrom s e → Ties (message_in e) (arrived_by e) (turn_of fits gives state e)
  turn_ties (Arrived list) comes = arrived_ties list
  turn_ties (Deliver from bytes) comes = by (read_of bytes)
    where
      by : (r : Result MessageView WireFault) → Ties (result_ok r) [] (delivered fits gives state from r)
      by (Ok m) = message_ties from m comes
      by (Err fault) = idle_ties None (BadWire fault) refl []
  turn_ties (Tick floor) comes = tick_ties floor
