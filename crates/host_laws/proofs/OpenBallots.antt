-- No state that turns lead to has a ballot whose certificate is complete.
use Rattle.std.proofs.Common.{◌≡◌, ◌+◌, ℕ, suc, List, [], ◌∷◌, get_or, take, drop, Bool, true, false, Option, Some, None, nat_eq, nat_le, nat_lt, max, refl, if◌then◌else◌, inl, inr}
use Rattle.std.specs.Prelude.{All, Result, Ok, Err}
use Rattle.std.specs.List.{remove}
use Rattle.std.specs.Option.{option_map_or}
use Rattle.std.proofs.lemmas.Bool.{cases_Bool}
use Rattle.std.proofs.lemmas.List.Elements.{All-append, All-cons, All-drop, All-get_or, All-nil, All-take}
use Rattle.std.proofs.lemmas.List.Quantifiers.{position-Some}
use Rattle.seq_base.specs.declared.block.CertVote.{CertVote}
use Rattle.seq_base.specs.declared.block.Block.{Block}
use Rattle.seq_base.specs.declared.block.Vote.{Vote}
use Rattle.seq_base.specs.declared.digest.Digest.{Digest}
use Rattle.seq_base.specs.declared.order.SealedOrder.{SealedOrder}
use Rattle.quorum_cert.specs.Boxes.{Box, bare, is_again, keep_answer, kept_in, wants_more}
use Rattle.wire_view.specs.declared.fault.WireFault.{WireFault}
use Rattle.wire_view.specs.declared.messages.MessageView.{MessageView}
use Rattle.wire_view.specs.declared.messages.MessageView.TheVariants as messages
use Rattle.wire_view.specs.Messages.{read_of}
use Rattle.wire_view.specs.Views.{Call}
use Rattle.node_core.specs.declared.event.Event.{Event}
use Rattle.node_core.specs.declared.event.Event.TheVariants.{Arrived, Deliver, Tick}
use Rattle.node_core.specs.declared.event.Reason.TheVariants.{Done}
use Rattle.node_core.specs.declared.state.votes.Formed.{Formed}
use Rattle.node_core.specs.State.{Ballot, Known, State, callers_of, knowing}
use Rattle.node_core.specs.See.{ordering, seen}
use Rattle.node_core.specs.Reported.{Gives, Outcome, is_spent, one_more_made, quiet, reported, sealed_bytes, sealed_to, to_each}
use Rattle.node_core.specs.Rows.{Check}
use Rattle.node_core.specs.NewView.{joined, new_view_done}
use Rattle.node_core.specs.Ask.{ask_done, order_of_view}
use Rattle.node_core.specs.Order.{are_enough, order_done, with_order}
use Rattle.node_core.specs.Propose.{propose_done, voted}
use Rattle.node_core.specs.Vote.{ballot_of, certified, certified_if, empty_ballot, formed, formed_votes, is_for, keeping, others, place_of, vote_done, with_vote}
use Rattle.node_core.specs.Give.{fetch_of, give_done}
use Rattle.node_core.specs.Runs.{state_after}
use Rattle.node_core.specs.Turn.{delivered, on_message, on_tick, turn_of}
use Rattle.node_core.specs.Idle.{NoneFormed}
use Rattle.journal_laws.proofs.Cases.{ask_cases, give_cases, new_view_cases, order_cases, propose_cases, vote_cases}
use Rattle.seq_base.specs.Setting.{leader_of, quorum_of}
use Rattle.seq_base.specs.Spelling.{call_spelling, order_spelling}
use Rattle.seq_base.specs.declared.kinds.TheConstants.{NEW_VIEW}
use Rattle.block_store.specs.Store.{block_at}

-- ---- the ballots of a vote

abbrev pub IsUnformed : Ballot → Type 0
IsUnformed b = b.votes.formed ≡ false

-- a box with a vote that completes no certificate
unformed_box : (box : Box) (vote : CertVote) → box.formed ≡ false → formed_votes (keep_answer box vote) ≡ None → (kept_in box vote).formed ≡ false
unformed_box box vote was none = elim (cases_Bool (is_again box vote.replica)) [
  | inl again ↦ rw again was
  | inr new ↦ elim (cases_Bool (wants_more box vote)) [
    | inl wants ↦ rw (new, wants) was
    | inr full ↦ absurd (let e = rw (new, full) at none in cc)
  ]
]

all_removed : (boxes : List Ballot) (at : ℕ) → All IsUnformed boxes → All IsUnformed (remove boxes at)
all_removed boxes at all =
    All-append IsUnformed (take at boxes) (drop (suc at) boxes) (All-take IsUnformed at boxes all) (All-drop IsUnformed (suc at) boxes all)

module _ (v : ℕ) (d : Digest) where
  others_unformed : (boxes : List Ballot) → All IsUnformed boxes → All IsUnformed (others v d boxes)
  others_unformed boxes all = by (place_of v d boxes)
    where
      by : (place : Option ℕ) → All IsUnformed (option_map_or (λ at. remove boxes at) place boxes)
      by None = all
      by (Some at) = all_removed boxes at all

  ballot_unformed : (s : Known) → NoneFormed s → IsUnformed (ballot_of s v d)
  ballot_unformed s all = by (place_of v d s.boxes) refl
    where
      empty : Ballot
      empty = empty_ballot s.setting v d

      by : (place : Option ℕ) → place_of v d s.boxes ≡ place → IsUnformed (option_map_or (λ at. get_or s.boxes at empty) place empty)
      by None is = refl
      by (Some at) is = All-get_or IsUnformed s.boxes at empty (position-Some (is_for v d) s.boxes at empty is).0 all

  kept_unformed : (s : Known) (vote : CertVote) (order : Option SealedOrder) → NoneFormed s → NoneFormed (keeping s v d vote order)
  unfolding keeping formed
  kept_unformed s vote order all = by (formed_votes (keep_answer (ballot_of s v d).votes vote)) refl
    where
      by : (votes : Option (List CertVote)) → formed_votes (keep_answer (ballot_of s v d).votes vote) ≡ votes → NoneFormed (keeping s v d vote order)
      by None is = rw is (
          All-append IsUnformed (others v d s.boxes) (with_vote vote order (ballot_of s v d) ∷ []) (others_unformed s.boxes all)
          (All-cons IsUnformed (with_vote vote order (ballot_of s v d)) [] (unformed_box (ballot_of s v d).votes vote (ballot_unformed s all) is)
          (All-nil IsUnformed)))
      by (Some votes) is = rw is (others_unformed s.boxes all)

-- ---- turns

module _ (gives : Gives) where
  sealed_open : (t : State) (statement receivers : List ℕ) → NoneFormed t.known → NoneFormed (sealed_to gives t statement receivers).state.known
  sealed_open t statement receivers all = by (is_spent t)
    where
      by : (b : Bool) → NoneFormed (if b then quiet t Done
          else record {
            reported = reported t Done (statement ∷ [])
                (to_each receivers (sealed_bytes statement (gives t.made statement)));
            state = one_more_made t;
          }).state.known
      by true = all
      by false = all

  if_open : (b : Bool) (x y : Outcome) → NoneFormed x.state.known → NoneFormed y.state.known → NoneFormed (if b then x else y).state.known
  if_open true x y p q = p
  if_open false x y p q = q

  tick_open : (s : State) (floor : ℕ) → NoneFormed s.known → NoneFormed (on_tick gives s floor).state.known
  unfolding on_tick
  tick_open s floor all =
      let now : State = knowing s (record s.known { view = max s.known.view floor + 1 }) in
      if_open (nat_le s.known.views (max s.known.view floor)) _ _ all
      (sealed_open now (call_spelling NEW_VIEW now.known.me now.known.view now.known.high) (leader_of now.known.setting now.known.view ∷ []) all)

  new_view_open : (s : State) (from : ℕ) (call : Call) → NoneFormed s.known → NoneFormed (new_view_done gives s from call).state.known
  unfolding new_view_done
  new_view_open s from call all =
      let after : Known = joined from call s.known in
      if_open (nat_eq (callers_of after.gathered call.view) (quorum_of after.setting)) _ _ (sealed_open _ _ _ all) all

  ask_open : (s : State) (from : ℕ) (call : Call) → NoneFormed s.known → NoneFormed (ask_done gives s from call).state.known
  unfolding ask_done
  ask_open s from call all =
      let now : State = knowing s (ordering call.view (seen call.cert s.known)) in
      sealed_open now (order_spelling (order_of_view now.known call.view call.cert.block)) (from ∷ []) all

  order_open : (s : State) (sealed : SealedOrder) → NoneFormed s.known → NoneFormed (order_done gives s sealed).state.known
  unfolding order_done
  order_open s sealed all = elim (cases_Bool (are_enough s.known (with_order sealed s.known.orders))) [
    | inl full ↦ rw full (sealed_open (knowing s (record s.known { proposed = s.known.asked; orders = [] })) _ _ all)
    | inr few ↦ rw few all
  ]

  propose_open : (s : State) (block : Block) → NoneFormed s.known → NoneFormed (propose_done gives s block).state.known
  unfolding propose_done voted
  propose_open s block all =
      if_open (nat_lt block.view s.known.views) _ _
      (if_open (is_spent s) _ _ all (if_open (is_spent (one_more_made s)) _ _ all all))
      (if_open (is_spent s) _ _ all all)

  give_open : (s : State) (block : Block) → NoneFormed s.known → NoneFormed (give_done s block).state.known
  unfolding give_done
  give_open s block all = all

  vote_open : (s : State) (vote : Vote) (order : Option SealedOrder) → NoneFormed s.known → NoneFormed (vote_done gives s vote order).state.known
  unfolding vote_done certified keeping
  vote_open s vote order all = by (formed s.known vote.view vote.block (bare vote) order)
    where
      now : State
      now = knowing s (keeping s.known vote.view vote.block (bare vote) order)

      kept : NoneFormed (keeping s.known vote.view vote.block (bare vote) order)
      kept = kept_unformed vote.view vote.block s.known (bare vote) order all

      by : (f : Option Formed) → NoneFormed (certified_if gives (knowing s (keeping s.known vote.view vote.block (bare vote) order)) f).state.known
      by None = kept
      by (Some f) = if_open (nat_eq f.cert.view s.known.views) _ _ kept (sealed_open _ _ _ kept)

-- ---- runs

module _ (fits : Check) (gives : Gives) where
  message_open : (s : State) (from : ℕ) (m : MessageView) → NoneFormed s.known → NoneFormed (on_message fits gives s from m).state.known
  message_open s from (messages.NewView call) all =
      new_view_cases fits gives s from (λ o. NoneFormed o.state.known) call (λ reason other sends. all) (λ passes. new_view_open gives s from call all)
  message_open s from (messages.Ask call) all =
      ask_cases fits gives s from (λ o. NoneFormed o.state.known) call (λ reason other sends. all) (λ passes. ask_open gives s from call all)
  message_open s from (messages.Order sealed) all =
      order_cases fits gives s from (λ o. NoneFormed o.state.known) sealed (λ reason other sends. all) (λ one two. order_open gives s sealed all)
  message_open s from (messages.Propose proposed) all =
      propose_cases fits gives s from (λ o. NoneFormed o.state.known) proposed (λ reason other sends. all) (λ one two. propose_open gives s proposed.block all)
  message_open s from (messages.Vote voted) all =
      vote_cases fits gives s from (λ o. NoneFormed o.state.known) voted (λ reason other sends. all) (λ one two. vote_open gives s voted.vote voted.order all)
  message_open s from (messages.Fetch block) all = by (block_at s.known.store block)
    where
      by : (found : Option Block) → NoneFormed (fetch_of s from found).state.known
      by None = all
      by (Some b) = all
  message_open s from (messages.Give block) all =
      give_cases fits gives s from (λ o. NoneFormed o.state.known) block (λ reason other sends. all) (λ one two. give_open gives s block all)

  turn_open : (s : State) (e : Event) → NoneFormed s.known → NoneFormed (turn_of fits gives s e).state.known
  turn_open s (Arrived list) all = all
  turn_open s (Deliver from bytes) all = by (read_of bytes)
    where
      by : (read : Result MessageView WireFault) → NoneFormed (delivered fits gives s from read).state.known
      by (Ok m) = message_open s from m all
      by (Err fault) = all
  turn_open s (Tick floor) all = tick_open gives s floor all

  pub run_open : (s : State) (events : List Event) → NoneFormed s.known → NoneFormed (state_after fits gives s events).known
  run_open s [] all = all
  run_open s (e ∷ events) all = run_open (turn_of fits gives s e).state events (turn_open s e all)
