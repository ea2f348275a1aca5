-- The output of a node depends on its sealer only at the numbers of its statements.
use Rattle.std.proofs.Common.{◌≡◌, ℕ, ◌+◌, ◌*◌, ◌≤◌, List, [], ◌∷◌, ◌++◌, length, Bool, true, false, Option, Some, None, nat_eq, nat_lt, nat_le, max, refl, sym, ap, subst, ◌∙◌, arith, if◌then◌else◌, inl, inr}
use Rattle.std.specs.Prelude.{Result, Ok, Err}
use Rattle.std.proofs.lemmas.Bool.{cases_Bool}
use Rattle.std.proofs.lemmas.List.{length-append}
use Rattle.seq_base.specs.declared.kinds.TheConstants.{NEW_VIEW, ASK}
use Rattle.seq_base.specs.declared.digest.Digest.{Digest}
use Rattle.seq_base.specs.declared.block.Block.{Block}
use Rattle.seq_base.specs.declared.block.Vote.{Vote}
use Rattle.seq_base.specs.declared.order.LocalOrder.{LocalOrder}
use Rattle.seq_base.specs.declared.order.SealedOrder.{SealedOrder}
use Rattle.seq_base.specs.Setting.{leader_of, quorum_of}
use Rattle.seq_base.specs.Spelling.{call_spelling, order_spelling, propose_spelling}
use Rattle.block_store.specs.Store.{block_digest}
use Rattle.quorum_cert.specs.Boxes.{bare}
use Rattle.wire_view.specs.Views.{Call}
use Rattle.wire_view.specs.declared.fault.WireFault.{WireFault}
use Rattle.wire_view.specs.declared.messages.MessageView.{MessageView}
use Rattle.wire_view.specs.declared.messages.MessageView.TheVariants as messages
use Rattle.wire_view.specs.Messages.{read_of}
use Rattle.node_core.specs.declared.event.Event.{Event}
use Rattle.node_core.specs.declared.event.Event.TheVariants.{Arrived, Deliver, Tick}
use Rattle.node_core.specs.declared.event.Reason.{Reason}
use Rattle.node_core.specs.declared.event.Reason.TheVariants.{Done, ViewLimit}
use Rattle.node_core.specs.declared.entry.Entry.{Entry}
use Rattle.node_core.specs.declared.state.votes.Formed.{Formed}
use Rattle.node_core.specs.State.{Known, State, callers_of, knowing}
use Rattle.node_core.specs.See.{seen, asked_for, taken, ordering}
use Rattle.node_core.specs.Reported.{Gives, Outcome, is_spent, one_more_made, quiet, sealed_to, reported, to_each, sealed_bytes, everyone}
use Rattle.node_core.specs.Rows.{Check}
use Rattle.node_core.specs.Runs.{journal_of, state_after}
use Rattle.node_core.specs.NewView.{asks, joined, new_view_done, new_view_reason, new_view_for}
use Rattle.node_core.specs.Ask.{ask_done, ask_reason, ask_for, order_of_view}
use Rattle.node_core.specs.Order.{order_done, order_reason, order_for, kept_order_reason, kept_order_for, are_enough, with_order, proposal}
use Rattle.node_core.specs.Propose.{propose_done, propose_reason, propose_for, proposed_reason, proposed_for, voted, vote_for, lone_vote, vote_bytes, vote_statement, to_next}
use Rattle.node_core.specs.Vote.{vote_done, vote_reason, voted_reason, voted_for, formed, certified, certified_if, proposing_next, next_block}
use Rattle.node_core.specs.Vote as voting
use Rattle.node_core.specs.Turn.{calls, turn_of, on_tick, on_message, delivered}
use Rattle.journal_laws.specs.Sealed.{SealAlike}
use Rattle.journal_rules.specs.Sealed.{sealed_in}
use Rattle.journal_laws.proofs.Marks.{InBounds}
use Rattle.journal_laws.proofs.SealCounts.{Counts, marks, one_turn, state_of}

-- ---- turns

module _ (gives other : Gives) where
  -- The output is the same with both sealers, if they give the same seals for what it seals, counted from a number.
  Alike : ℕ → (Gives → Outcome) → Type 0
  Alike made f = SealAlike gives other made (f gives).reported.sealed → f gives ≡ f other

  alike_if : (made : ℕ) (b : Bool) (f g : Gives → Outcome) → Alike made f → Alike made g → Alike made (λ h. if b then f h else g h)
  unfolding Alike
  alike_if made true f g p q = p
  alike_if made false f g p q = q

  alike_sealed : (s : State) (statement receivers : List ℕ) → Alike s.made (λ h. sealed_to h s statement receivers)
  unfolding Alike
  alike_sealed s statement receivers = elim (cases_Bool (is_spent s)) [
    | inl spent ↦ rw spent (λ _. refl)
    | inr left ↦ rw left (λ same. ap (λ (seal : List ℕ).
        record { reported = reported s Done (statement ∷ []) (to_each receivers (sealed_bytes statement seal)); state = one_more_made s }) same.0)
  ]

  alike_lone : (s : State) (v : ℕ) (d : Digest) → Alike s.made (λ h. lone_vote h s v d)
  unfolding Alike
  alike_lone s v d = elim (cases_Bool (is_spent s)) [
    | inl spent ↦ rw spent (λ _. refl)
    | inr left ↦ rw left (λ same. ap (λ (seal : List ℕ).
        record {
          reported = reported s Done (vote_statement s.known v d ∷ []) (to_each (to_next s.known v) (vote_bytes s.known v d seal None));
          state = one_more_made s;
        })
        same.0)
  ]

  alike_vote_for : (s : State) (v : ℕ) (d : Digest) (order : LocalOrder) → Alike s.made (λ h. vote_for h s v d order)
  unfolding Alike
  alike_vote_for s v d order = elim (cases_Bool (is_spent s)) [
    | inl spent ↦ rw spent (λ _. refl)
    | inr left ↦ rw left (elim (cases_Bool (is_spent (one_more_made s))) [
      | inl spent ↦ rw spent (λ _. refl)
      | inr more ↦ rw more (λ same. ap (λ (seal : List ℕ). both seal (gives (s.made + 1) (order_spelling order))) same.0
          ∙ ap (λ (seal : List ℕ). both (other s.made (vote_statement s.known v d)) seal) same.1.0)
    ])
  ]
    where
      both : (seal carried : List ℕ) → Outcome
      both seal carried = record {
        reported = reported (one_more_made s) Done (vote_statement s.known v d ∷ order_spelling order ∷ [])
            (to_each (to_next s.known v) (vote_bytes s.known v d seal (Some (record { order = order; seal = carried }))));
        state = one_more_made (one_more_made s);
      }

  alike_tick : (s : State) (floor : ℕ) → Alike s.made (λ h. on_tick h s floor)
  unfolding Alike on_tick
  alike_tick s floor =
      let now : Known = record s.known { view = max s.known.view floor + 1 } in
      alike_if s.made (nat_le s.known.views (max s.known.view floor)) (λ _. quiet s ViewLimit) (λ h. calls h (knowing s now)) (λ _. refl)
      (alike_sealed (knowing s now) (call_spelling NEW_VIEW s.known.me (max s.known.view floor + 1) s.known.high)
      (leader_of s.known.setting (max s.known.view floor + 1) ∷ []))

  alike_new_view : (s : State) (from : ℕ) (call : Call) → Alike s.made (λ h. new_view_done h s from call)
  unfolding Alike new_view_done
  alike_new_view s from call =
      let after : Known = joined from call s.known in
      let next : Known = asked_for call.view after in
      alike_if s.made (nat_eq (callers_of after.gathered call.view) (quorum_of after.setting)) (λ h. asks h (knowing s next))
      (λ _. quiet (knowing s after) Done)
      (alike_sealed (knowing s next) (call_spelling ASK s.known.me call.view next.high) (everyone next)) (λ _. refl)

  alike_ask : (s : State) (from : ℕ) (call : Call) → Alike s.made (λ h. ask_done h s from call)
  unfolding Alike ask_done
  alike_ask s from call =
      let next : Known = ordering call.view (seen call.cert s.known) in
      alike_sealed (knowing s next) (order_spelling (order_of_view next call.view call.cert.block)) (from ∷ [])

  alike_order : (s : State) (sealed : SealedOrder) → Alike s.made (λ h. order_done h s sealed)
  unfolding Alike order_done proposal
  alike_order s sealed = elim (cases_Bool (are_enough s.known (with_order sealed s.known.orders))) [
    | inl full ↦ rw full (
        let block : Block = record { view = s.known.asked; cert = s.known.ask_cert; orders = with_order sealed s.known.orders } in
        alike_sealed (knowing s (record s.known { proposed = s.known.asked; orders = [] })) (propose_spelling s.known.me block) (everyone s.known))
    | inr few ↦ rw few (λ _. refl)
  ]

  alike_propose : (s : State) (b : Block) → Alike s.made (λ h. propose_done h s b)
  unfolding Alike propose_done voted
  alike_propose s b =
      let after : Known = taken b s.known in
      let voting_now : Known = record after { safety = record after.safety { voted = b.view } } in
      alike_if s.made (nat_lt b.view s.known.views)
      (λ h. vote_for h (knowing s (ordering (b.view + 1) voting_now)) b.view (block_digest b)
      (order_of_view (ordering (b.view + 1) voting_now) (b.view + 1) (block_digest b)))
      (λ h. lone_vote h (knowing s (record voting_now { view = b.view })) b.view (block_digest b))
      (alike_vote_for (knowing s (ordering (b.view + 1) voting_now)) b.view (block_digest b)
      (order_of_view (ordering (b.view + 1) voting_now) (b.view + 1) (block_digest b)))
      (alike_lone (knowing s (record voting_now { view = b.view })) b.view (block_digest b))

  alike_certified : (s : State) (f : Option Formed) → Alike s.made (λ h. certified_if h s f)
  unfolding Alike certified proposal
  alike_certified s None = λ _. refl
  alike_certified s (Some f) =
      let after : Known = seen f.cert s.known in
      let next : Known = proposing_next f.cert after in
      alike_if s.made (nat_eq f.cert.view s.known.views) (λ _. quiet (knowing s after) Done)
      (λ h. sealed_to h (knowing s next) (propose_spelling s.known.me (next_block f)) (everyone next)) (λ _. refl)
      (alike_sealed (knowing s next) (propose_spelling s.known.me (next_block f)) (everyone next))

  alike_vote : (s : State) (vote : Vote) (order : Option SealedOrder) → Alike s.made (λ h. vote_done h s vote order)
  unfolding Alike vote_done
  alike_vote s vote order = alike_certified (knowing s (voting.keeping s.known vote.view vote.block (bare vote) order))
      (formed s.known vote.view vote.block (bare vote) order)

  alike_message : (fits : Check) (s : State) (from : ℕ) (m : MessageView) → Alike s.made (λ h. on_message fits h s from m)
  unfolding Alike
  alike_message fits s from (messages.NewView call) = by (new_view_reason fits s.known from call)
    where
      by : (r : Reason) → Alike s.made (λ h. new_view_for h s from call r)
      by Done = alike_new_view s from call
      by reason = λ _. refl
  alike_message fits s from (messages.Ask call) = by (ask_reason fits s.known from call)
    where
      by : (r : Reason) → Alike s.made (λ h. ask_for h s from call r)
      by Done = alike_ask s from call
      by reason = λ _. refl
  alike_message fits s from (messages.Order sealed) = by (order_reason fits s.known from sealed)
    where
      following : (r : Reason) → Alike s.made (λ h. kept_order_for h s sealed r)
      following Done = alike_order s sealed
      following reason = λ _. refl

      by : (r : Reason) → Alike s.made (λ h. order_for h s from sealed r)
      by Done = following (kept_order_reason s.known from sealed.order)
      by reason = λ _. refl
  alike_message fits s from (messages.Propose proposed) = by (propose_reason fits s.known from proposed)
    where
      following : (r : Reason) → Alike s.made (λ h. proposed_for h s proposed.block r)
      following Done = alike_propose s proposed.block
      following reason = λ _. refl

      by : (r : Reason) → Alike s.made (λ h. propose_for fits h s from proposed.block r)
      by Done = following (proposed_reason fits s.known proposed.block)
      by reason = λ _. refl
  alike_message fits s from (messages.Vote vote) = by (vote_reason fits s.known from vote)
    where
      following : (r : Reason) → Alike s.made (λ h. voted_for h s vote r)
      following Done = alike_vote s vote.vote vote.order
      following reason = λ _. refl

      by : (r : Reason) → Alike s.made (λ h. voting.vote_for h s from vote r)
      by Done = following (voted_reason s.known from vote.vote vote.order)
      by reason = λ _. refl
  alike_message fits s from (messages.Fetch block) = λ _. refl
  alike_message fits s from (messages.Give block) = λ _. refl

  alike_turn : (fits : Check) (s : State) (e : Event) → Alike s.made (λ h. turn_of fits h s e)
  unfolding Alike
  alike_turn fits s (Arrived list) = λ _. refl
  alike_turn fits s (Deliver from bytes) = by (read_of bytes)
    where
      by : (r : Result MessageView WireFault) → Alike s.made (λ h. delivered fits h s from r)
      by (Ok m) = alike_message fits s from m
      by (Err fault) = λ _. refl
  alike_turn fits s (Tick floor) = alike_tick s floor

  -- ---- runs

  pub alike_parts : (made : ℕ) (xs ys : List (List ℕ)) → SealAlike gives other made (xs ++ ys)
      → SealAlike gives other made xs × SealAlike gives other (made + length xs) ys
  alike_parts made [] ys same = (tt, subst (λ (k : ℕ). SealAlike gives other k ys) (omega arith) same)
  alike_parts made (x ∷ xs) ys same =
      let rest = alike_parts (made + 1) xs ys same.1 in
      ((same.0, rest.0), subst (λ (k : ℕ). SealAlike gives other k ys) (omega arith) rest.1)

  pub alike_run : (fits : Check) (k : Known) (made capacity : ℕ) (events : List Event) → InBounds k → made ≤ marks k → 5 * k.views ≤ capacity
      → SealAlike gives other made (sealed_in (journal_of fits gives (state_of k made capacity) events))
      → journal_of fits gives (state_of k made capacity) events ≡ journal_of fits other (state_of k made capacity) events
  unfolding Alike
  alike_run fits k made capacity [] b few room same = refl
  alike_run fits k made capacity (e ∷ es) b few room same =
      let s : State = state_of k made capacity in
      let o : Outcome = turn_of fits gives s e in
      let one : Counts k made capacity o = one_turn fits gives k made capacity e b few room in
      let halves = alike_parts made o.reported.sealed (sealed_in (journal_of fits gives o.state es)) same in
      let now : o ≡ turn_of fits other s e = alike_turn fits s e halves.0 in
      let next : State = state_of o.state.known (made + length o.reported.sealed) capacity in
      let rest : journal_of fits gives next es ≡ journal_of fits other next es =
      alike_run fits o.state.known (made + length o.reported.sealed) capacity es one.bounds one.few (omega (arith, one.views, room))
      (subst (λ (t : State). SealAlike gives other (made + length o.reported.sealed) (sealed_in (journal_of fits gives t es))) one.state halves.1) in
      ap (λ (j : List Entry). record { event = e; turned = o.reported } ∷ j)
      (ap (λ (t : State). journal_of fits gives t es) one.state ∙ rest ∙ ap (λ (t : State). journal_of fits other t es) (sym one.state))
      ∙ ap (λ (x : Outcome). record { event = e; turned = x.reported } ∷ journal_of fits other x.state es) now

-- a statement's number is its place
pub counted : (fits : Check) (gives : Gives) (k : Known) (made capacity : ℕ) (events : List Event) → InBounds k → made ≤ marks k → 5 * k.views ≤ capacity
    → (state_after fits gives (state_of k made capacity) events).made ≡ made + length (sealed_in (journal_of fits gives (state_of k made capacity) events))
counted fits gives k made capacity [] b few room = omega arith
counted fits gives k made capacity (e ∷ es) b few room =
    let o : Outcome = turn_of fits gives (state_of k made capacity) e in
    let one : Counts k made capacity o = one_turn fits gives k made capacity e b few room in
    let rest = counted fits gives o.state.known (made + length o.reported.sealed) capacity es one.bounds one.few (omega (arith, one.views, room)) in
    let following =
    subst (λ (t : State). (state_after fits gives t es).made ≡ (made + length o.reported.sealed) + length (sealed_in (journal_of fits gives t es)))
    (sym one.state) rest in
    let len : length (o.reported.sealed ++ sealed_in (journal_of fits gives o.state es))
    ≡ length o.reported.sealed + length (sealed_in (journal_of fits gives o.state es)) =
    length-append o.reported.sealed (sealed_in (journal_of fits gives o.state es)) in
    omega (arith, following, len)
