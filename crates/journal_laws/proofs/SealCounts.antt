-- A sealer that can make five seals for each view is never exhausted: a turn does the same with any greater capacity.
use Rattle.std.proofs.Common.{◌≡◌, ℕ, ◌+◌, ◌*◌, ◌^◌, ◌<◌, ◌≤◌, List, [], ◌∷◌, ◌++◌, length, Bool, true, false, Option, Some, None, nat_eq, nat_lt, nat_le, max, refl, sym, ap, subst, ◌∙◌, arith, if◌then◌else◌, inl, inr}
use Rattle.std.specs.Prelude.{Result, Ok, Err}
use Rattle.std.proofs.lemmas.Bool.Decides.{nat_tests}
use Rattle.std.proofs.lemmas.Bool.{cases_Bool}
use Rattle.seq_base.specs.declared.kinds.TheConstants.{NEW_VIEW, ASK, ORDER, PROPOSE, VOTE}
use Rattle.seq_base.specs.declared.digest.Digest.{Digest}
use Rattle.seq_base.specs.declared.block.Block.{Block}
use Rattle.seq_base.specs.declared.block.Vote.{Vote}
use Rattle.seq_base.specs.declared.order.LocalOrder.{LocalOrder}
use Rattle.seq_base.specs.declared.order.SealedOrder.{SealedOrder}
use Rattle.seq_base.specs.Setting.{Parameters, leader_of, quorum_of}
use Rattle.seq_base.specs.Spelling.{call_spelling, order_spelling, propose_spelling}
use Rattle.block_store.specs.Store.{block_digest, block_at}
use Rattle.quorum_cert.specs.Boxes.{bare}
use Rattle.wire_view.specs.Views.{Call}
use Rattle.wire_view.specs.declared.fault.WireFault.{WireFault}
use Rattle.wire_view.specs.declared.messages.MessageView.{MessageView}
use Rattle.wire_view.specs.declared.messages.MessageView.TheVariants as messages
use Rattle.wire_view.specs.Messages.{read_of}
use Rattle.node_core.specs.declared.event.Event.{Event}
use Rattle.node_core.specs.declared.event.Event.TheVariants.{Arrived, Deliver, Tick}
use Rattle.node_core.specs.declared.event.Reason.{Reason}
use Rattle.node_core.specs.declared.event.Reason.TheVariants.{Done, BadWire, ViewLimit, Orphan}
use Rattle.node_core.specs.declared.entry.Entry.{Entry}
use Rattle.node_core.specs.declared.turned.Turned.{Turned}
use Rattle.node_core.specs.declared.state.votes.Formed.{Formed}
use Rattle.node_core.specs.State.{Known, State, callers_of, fresh_known}
use Rattle.node_core.specs.See.{seen, asked_for, taken, ordering}
use Rattle.node_core.specs.Reported.{Gives, Outcome, quiet, sealed_to, everyone, fetched_from}
use Rattle.node_core.specs.Rows.{Check}
use Rattle.node_core.specs.NewView.{joined, new_view_done, new_view_reason, new_view_for}
use Rattle.node_core.specs.Ask.{ask_done, ask_reason, ask_for, order_of_view}
use Rattle.node_core.specs.Order.{order_done, order_reason, order_for, kept_order_reason, kept_order_for, are_enough, with_order, proposal}
use Rattle.node_core.specs.Propose.{propose_done, propose_reason, propose_for, proposed_reason, proposed_for, voted, vote_for, lone_vote}
use Rattle.node_core.specs.Vote.{vote_done, vote_reason, voted_reason, voted_for, formed, certified, certified_if, proposing_next, next_block}
use Rattle.node_core.specs.Vote as voting
use Rattle.node_core.specs.Give.{give_done, give_reason, give_for, given_reason, given_for, fetch_of}
use Rattle.node_core.specs.Turn.{turn_of, on_tick, on_message, delivered}
use Rattle.node_core.specs.Runs.{journal_of, state_after}
use Rattle.journal_laws.specs.Sealed.{views_of, Rise}
use Rattle.journal_laws.proofs.Marks.{InBounds, Seals}
use Rattle.journal_laws.proofs.TurnSeals.{turn_seals}

-- a node with this knowledge, whose sealer has made this many seals and can make this many
abbrev pub state_of : Known → ℕ → ℕ → State
state_of k made capacity = record { known = k; made = made; capacity = capacity }

-- how many statements of the five kinds there are
abbrev count_kinds : List (List ℕ) → ℕ
count_kinds sealed = length (views_of NEW_VIEW sealed) + length (views_of ASK sealed) + length (views_of ORDER sealed) + length
    (views_of PROPOSE sealed) + length (views_of VOTE sealed)

record SameAs (o other : Outcome) : Type 0 where
  reported : o.reported ≡ other.reported
  known : o.state.known ≡ other.state.known
  made : o.state.made ≡ other.state.made

-- A turn as a function of its sealer's capacity: with enough for all that it seals, it does the same.
record Free (made : ℕ) (f : ℕ → Outcome) : Type 0 where
  count : (f (made + 2)).state.made ≡ made + length (f (made + 2)).reported.sealed
  kinds : length (f (made + 2)).reported.sealed ≡ count_kinds (f (made + 2)).reported.sealed
  same : (capacity : ℕ) → made + length (f (made + 2)).reported.sealed ≤ capacity → SameAs (f capacity) (f (made + 2))
  keeps : (capacity : ℕ) → (f capacity).state.capacity ≡ capacity

free_if : (made : ℕ) (b : Bool) (f g : ℕ → Outcome) → Free made f → Free made g → Free made (λ c. if b then f c else g c)
free_if made true f g p q = p
free_if made false f g p q = q

unspent : (made capacity : ℕ) → made < capacity → nat_eq made capacity ≡ false
unspent made capacity less = grind (arith, nat_tests, less)

keep_if : (c : ℕ) (b : Bool) (x y : Outcome) → x.state.capacity ≡ c → y.state.capacity ≡ c → (if b then x else y).state.capacity ≡ c
keep_if c true x y p q = p
keep_if c false x y p q = q

module _ (gives : Gives) (made : ℕ) where
  free_quiet : (k : Known) (reason : Reason) → Free made (λ c. quiet (state_of k made c) reason)
  free_quiet k reason = record {
    count = omega arith;
    kinds = refl;
    same = λ c enough. record { reported = refl; known = refl; made = refl };
    keeps = λ c. refl;
  }

  free_sealed : (k : Known) (statement receivers : List ℕ) → 1 ≡ count_kinds (statement ∷ [])
      → Free made (λ c. sealed_to gives (state_of k made c) statement receivers)
  free_sealed k statement receivers one =
      let fits_two : nat_eq made (made + 2) ≡ false = unspent made (made + 2) (omega arith) in
      record {
        count = rw fits_two refl;
        kinds = rw fits_two one;
        same = λ c enough. (
            let least : made + 1 ≤ c = (rw fits_two at enough) in
            rw (fits_two, unspent made c (omega (arith, least))) (record { reported = refl; known = refl; made = refl }));
        keeps = λ c. keep_if c (nat_eq made c) _ _ refl refl;
      }

  -- nothing is done, or a block is fetched
  free_fetched : (k : Known) (from : ℕ) (d : Digest) → Free made (λ c. fetched_from from d (state_of k made c))
  free_fetched k from d =
      record { count = omega arith; kinds = refl; same = λ c enough. record { reported = refl; known = refl; made = refl }; keeps = λ c. refl }

  free_tick : (k : Known) (floor : ℕ) → Free made (λ c. on_tick gives (state_of k made c) floor)
  unfolding on_tick
  free_tick k floor =
      let now : Known = record k { view = max k.view floor + 1 } in
      free_if made (nat_le k.views (max k.view floor)) _ _ (free_quiet k ViewLimit)
      (free_sealed now (call_spelling NEW_VIEW k.me (max k.view floor + 1) k.high) (leader_of k.setting (max k.view floor + 1) ∷ []) refl)

  free_new_view : (k : Known) (from : ℕ) (call : Call) → Free made (λ c. new_view_done gives (state_of k made c) from call)
  unfolding new_view_done
  free_new_view k from call =
      let after : Known = joined from call k in
      let next : Known = asked_for call.view after in
      free_if made (nat_eq (callers_of after.gathered call.view) (quorum_of after.setting)) _ _
      (free_sealed next (call_spelling ASK k.me call.view next.high) (everyone next) refl) (free_quiet after Done)

  free_ask : (k : Known) (from : ℕ) (call : Call) → Free made (λ c. ask_done gives (state_of k made c) from call)
  unfolding ask_done
  free_ask k from call =
      let next : Known = ordering call.view (seen call.cert k) in
      free_sealed next (order_spelling (order_of_view next call.view call.cert.block)) (from ∷ []) refl

  free_order : (k : Known) (sealed : SealedOrder) → Free made (λ c. order_done gives (state_of k made c) sealed)
  unfolding order_done proposal
  free_order k sealed = elim (cases_Bool (are_enough k (with_order sealed k.orders))) [
    | inl full ↦ rw full (
        let block : Block = record { view = k.asked; cert = k.ask_cert; orders = with_order sealed k.orders } in
        free_sealed (record k { proposed = k.asked; orders = [] }) (propose_spelling k.me block) (everyone k) refl)
    | inr few ↦ rw few (free_quiet (record k { orders = with_order sealed k.orders }) Done)
  ]

  -- a vote, and the order that it carries
  free_vote_for : (k : Known) (v : ℕ) (d : Digest) (order : LocalOrder) → Free made (λ c. vote_for gives (state_of k made c) v d order)
  free_vote_for k v d order =
      let first : nat_eq made (made + 2) ≡ false = unspent made (made + 2) (omega arith) in
      let second : nat_eq (made + 1) (made + 2) ≡ false = unspent (made + 1) (made + 2) (omega arith) in
      record {
        count = rw (first, second) (omega arith);
        kinds = rw (first, second) refl;
        same = λ c enough. (
            let least : made + 2 ≤ c = (rw (first, second) at enough) in
            rw (first, second, unspent made c (omega (arith, least)), unspent (made + 1) c (omega (arith, least)))
            (record { reported = refl; known = refl; made = refl }));
        keeps = λ c. keep_if c (nat_eq made c) _ _ refl (keep_if c (nat_eq (made + 1) c) _ _ refl refl);
      }

  free_lone : (k : Known) (v : ℕ) (d : Digest) → Free made (λ c. lone_vote gives (state_of k made c) v d)
  free_lone k v d =
      let first : nat_eq made (made + 2) ≡ false = unspent made (made + 2) (omega arith) in
      record {
        count = rw first refl;
        kinds = rw first refl;
        same = λ c enough. (
            let least : made + 1 ≤ c = (rw first at enough) in
            rw (first, unspent made c (omega (arith, least))) (record { reported = refl; known = refl; made = refl }));
        keeps = λ c. keep_if c (nat_eq made c) _ _ refl refl;
      }

  free_propose : (k : Known) (b : Block) → Free made (λ c. propose_done gives (state_of k made c) b)
  unfolding propose_done voted
  free_propose k b =
      let after : Known = taken b k in
      let voting_now : Known = record after { safety = record after.safety { voted = b.view } } in
      free_if made (nat_lt b.view k.views) _ _
      (free_vote_for (ordering (b.view + 1) voting_now) b.view (block_digest b)
      (order_of_view (ordering (b.view + 1) voting_now) (b.view + 1) (block_digest b)))
      (free_lone (record voting_now { view = b.view }) b.view (block_digest b))

  free_give : (k : Known) (b : Block) → Free made (λ c. give_done (state_of k made c) b)
  unfolding give_done
  free_give k b = free_quiet (taken b k) Done

  free_certified : (k : Known) (f : Option Formed) → Free made (λ c. certified_if gives (state_of k made c) f)
  unfolding certified proposal
  free_certified k None = free_quiet k Done
  free_certified k (Some f) =
      let after : Known = seen f.cert k in
      let next : Known = proposing_next f.cert after in
      free_if made (nat_eq f.cert.view k.views) _ _ (free_quiet after Done) (free_sealed next (propose_spelling k.me (next_block f)) (everyone next) refl)

  free_vote : (k : Known) (vote : Vote) (order : Option SealedOrder) → Free made (λ c. vote_done gives (state_of k made c) vote order)
  unfolding vote_done
  free_vote k vote order = free_certified (voting.keeping k vote.view vote.block (bare vote) order) (formed k vote.view vote.block (bare vote) order)

  free_fetch : (k : Known) (from : ℕ) (b : Option Block) → Free made (λ c. fetch_of (state_of k made c) from b)
  free_fetch k from None = free_quiet k Orphan
  free_fetch k from (Some b) =
      record { count = omega arith; kinds = refl; same = λ c enough. record { reported = refl; known = refl; made = refl }; keeps = λ c. refl }

  -- ---- by reasons

  free_message : (fits : Check) (k : Known) (from : ℕ) (m : MessageView) → Free made (λ c. on_message fits gives (state_of k made c) from m)
  free_message fits k from (messages.NewView call) = by (new_view_reason fits k from call)
    where
      by : (r : Reason) → Free made (λ c. new_view_for gives (state_of k made c) from call r)
      by Done = free_new_view k from call
      by Orphan = free_fetched k from call.cert.block
      by reason = free_quiet k reason
  free_message fits k from (messages.Ask call) = by (ask_reason fits k from call)
    where
      by : (r : Reason) → Free made (λ c. ask_for gives (state_of k made c) from call r)
      by Done = free_ask k from call
      by Orphan = free_fetched k from call.cert.block
      by reason = free_quiet k reason
  free_message fits k from (messages.Order sealed) = by (order_reason fits k from sealed)
    where
      following : (r : Reason) → Free made (λ c. kept_order_for gives (state_of k made c) sealed r)
      following Done = free_order k sealed
      following reason = free_quiet k reason

      by : (r : Reason) → Free made (λ c. order_for gives (state_of k made c) from sealed r)
      by Done = following (kept_order_reason k from sealed.order)
      by reason = free_quiet k reason
  free_message fits k from (messages.Propose proposed) = by (propose_reason fits k from proposed)
    where
      following : (r : Reason) → Free made (λ c. proposed_for gives (state_of k made c) proposed.block r)
      following Done = free_propose k proposed.block
      following reason = free_quiet k reason

      by : (r : Reason) → Free made (λ c. propose_for fits gives (state_of k made c) from proposed.block r)
      by Done = following (proposed_reason fits k proposed.block)
      by Orphan = free_fetched k from proposed.block.cert.block
      by reason = free_quiet k reason
  free_message fits k from (messages.Vote vote) = by (vote_reason fits k from vote)
    where
      following : (r : Reason) → Free made (λ c. voted_for gives (state_of k made c) vote r)
      following Done = free_vote k vote.vote vote.order
      following reason = free_quiet k reason

      by : (r : Reason) → Free made (λ c. voting.vote_for gives (state_of k made c) from vote r)
      by Done = following (voted_reason k from vote.vote vote.order)
      by Orphan = free_fetched k from vote.vote.block
      by reason = free_quiet k reason
  free_message fits k from (messages.Fetch block) = free_fetch k from (block_at k.store block)
  free_message fits k from (messages.Give block) = by (give_reason fits k block)
    where
      following : (r : Reason) → Free made (λ c. given_for (state_of k made c) block r)
      following Done = free_give k block
      following reason = free_quiet k reason

      by : (r : Reason) → Free made (λ c. give_for fits (state_of k made c) from block r)
      by Done = following (given_reason fits k block)
      by Orphan = free_fetched k from block.cert.block
      by reason = free_quiet k reason

  free_turn : (fits : Check) (k : Known) (e : Event) → Free made (λ c. turn_of fits gives (state_of k made c) e)
  free_turn fits k (Arrived list) = free_quiet (record k { prefix = k.prefix ++ list }) Done
  free_turn fits k (Deliver from bytes) = by (read_of bytes)
    where
      by : (r : Result MessageView WireFault) → Free made (λ c. delivered fits gives (state_of k made c) from r)
      by (Ok m) = free_message fits k from m
      by (Err fault) = free_quiet k (BadWire fault)
  free_turn fits k (Tick floor) = free_tick k floor

-- ---- marks

abbrev pub marks : Known → ℕ
marks k = k.view + k.asked + k.ordered + k.proposed + k.safety.voted

rises_by : (low high : ℕ) (vs : List ℕ) → Rise low vs high → low + length vs ≤ high
rises_by low high [] rise = omega (arith, rise)
rises_by low high (v ∷ vs) rise = (let rest : v + length vs ≤ high = rises_by v high vs rise.1 in omega (arith, rise.0, rest))

seals_raise : (s t : Known) (sealed : List (List ℕ)) → Seals s sealed t → length sealed ≡ count_kinds sealed → marks s + length sealed ≤ marks t
seals_raise s t sealed h kinds =
    omega (
      arith,
      kinds,
      rises_by s.view t.view (views_of NEW_VIEW sealed) h.calls,
      rises_by s.asked t.asked (views_of ASK sealed) h.asks,
      rises_by s.ordered t.ordered (views_of ORDER sealed) h.orders,
      rises_by s.proposed t.proposed (views_of PROPOSE sealed) h.proposals,
      rises_by s.safety.voted t.safety.voted (views_of VOTE sealed) h.votes,
    )

pub opens : (s : Parameters) (views me : ℕ) → views < 2 ^ 32 → InBounds (fresh_known s views me)
opens s views me wide = record { ordered = omega arith; proposed = omega arith; view = omega arith; asked = omega arith; voted = omega arith; wide = wide }

-- The result of a turn whose sealer can make five seals for each view: one more seal is made for each statement.
pub record Counts (k : Known) (made capacity : ℕ) (o : Outcome) : Type 0 where
  pub state : o.state ≡ state_of o.state.known (made + length o.reported.sealed) capacity
  pub bounds : InBounds o.state.known
  pub few : made + length o.reported.sealed ≤ marks o.state.known
  pub views : o.state.known.views ≡ k.views

pub one_turn : (fits : Check) (gives : Gives) (k : Known) (made capacity : ℕ) (e : Event) → InBounds k → made ≤ marks k
    → 5 * k.views ≤ capacity → Counts k made capacity (turn_of fits gives (state_of k made capacity) e)
one_turn fits gives k made capacity e b few room =
    let free = free_turn gives made fits k e in
    let most : Outcome = turn_of fits gives (state_of k made (made + 2)) e in
    let o : Outcome = turn_of fits gives (state_of k made capacity) e in
    let seals : Seals k most.reported.sealed most.state.known = turn_seals fits gives (state_of k made (made + 2)) e b in
    let raised : marks k + length most.reported.sealed ≤ marks most.state.known = seals_raise k most.state.known most.reported.sealed seals free.kinds in
    let all : marks most.state.known ≤ 5 * k.views =
    omega (arith, seals.bounds.ordered, seals.bounds.proposed, seals.bounds.view, seals.bounds.asked, seals.bounds.voted, seals.views) in
    let same : SameAs o most = free.same capacity (omega (arith, few, raised, all, room)) in
    let count : length most.reported.sealed ≡ length o.reported.sealed = ap (λ (t : Turned). length t.sealed) (sym same.reported) in
    let now : Seals k o.reported.sealed o.state.known = turn_seals fits gives (state_of k made capacity) e b in
    let known : marks most.state.known ≡ marks o.state.known = ap marks (sym same.known) in
    record {
      state = whole_state o.state (made + length o.reported.sealed) capacity (same.made ∙ free.count ∙ ap (λ (n : ℕ). made + n) count) (free.keeps capacity);
      bounds = now.bounds;
      few = omega (arith, few, raised, count, known);
      views = now.views;
    }
  where
    whole_state : (s : State) (n c : ℕ) → s.made ≡ n → s.capacity ≡ c → s ≡ state_of s.known n c
    whole_state s n c made capacity = ap (λ (m : ℕ). state_of s.known m s.capacity) made ∙ ap (λ (x : ℕ). state_of s.known n x) capacity

-- With five seals for each view the journal is the same for any greater capacity, and no more seals are made.
module _ (fits : Check) (gives : Gives) where
  pub same_journals : (k : Known) (made capacity other : ℕ) (events : List Event) → InBounds k → made ≤ marks k → 5 * k.views ≤ capacity → 5 * k.views ≤ other
      → (journal_of fits gives (state_of k made capacity) events ≡ journal_of fits gives (state_of k made other) events)
      × ((state_after fits gives (state_of k made capacity) events).made ≤ 5 * k.views)
  same_journals k made capacity other [] b few room more = (refl, omega (arith, few, b.ordered, b.proposed, b.view, b.asked, b.voted))
  same_journals k made capacity other (e ∷ es) b few room more =
      let free = free_turn gives made fits k e in
      let o : Outcome = turn_of fits gives (state_of k made (made + 2)) e in
      let seals : Seals k o.reported.sealed o.state.known = turn_seals fits gives (state_of k made (made + 2)) e b in
      let raised : marks k + length o.reported.sealed ≤ marks o.state.known = seals_raise k o.state.known o.reported.sealed seals free.kinds in
      let all : marks o.state.known ≤ 5 * k.views =
      omega (arith, seals.bounds.ordered, seals.bounds.proposed, seals.bounds.view, seals.bounds.asked, seals.bounds.voted, seals.views) in
      let one : SameAs (turn_of fits gives (state_of k made capacity) e) o = free.same capacity (omega (arith, few, raised, all, room)) in
      let two : SameAs (turn_of fits gives (state_of k made other) e) o = free.same other (omega (arith, few, raised, all, more)) in
      let rest = same_journals o.state.known o.state.made capacity other es seals.bounds (omega (arith, free.count, few, raised))
      (omega (arith, seals.views, room)) (omega (arith, seals.views, more)) in
      let state_one : (turn_of fits gives (state_of k made capacity) e).state ≡ state_of o.state.known o.state.made capacity =
      whole (turn_of fits gives (state_of k made capacity) e).state o.state.known o.state.made capacity one.known one.made
      (free.keeps capacity) in
      let state_two : (turn_of fits gives (state_of k made other) e).state ≡ state_of o.state.known o.state.made other =
      whole (turn_of fits gives (state_of k made other) e).state o.state.known o.state.made other two.known two.made (free.keeps other) in (
        ap (λ (t : Turned). record { event = e; turned = t } ∷ journal_of fits gives (turn_of fits gives (state_of k made capacity) e).state es) one.reported
            ∙ ap (λ (s : State). record { event = e; turned = o.reported } ∷ journal_of fits gives s es) state_one
            ∙ ap (λ (j : List Entry). record { event = e; turned = o.reported } ∷ j) rest.0
            ∙ sym (ap (λ (s : State). record { event = e; turned = o.reported } ∷ journal_of fits gives s es) state_two)
            ∙ sym (ap (λ (t : Turned). record { event = e; turned = t } ∷ journal_of fits gives (turn_of fits gives (state_of k made other) e).state es)
            two.reported),
        subst (λ (s : State). (state_after fits gives s es).made ≤ 5 * k.views) (sym state_one) (omega (arith, rest.1, seals.views)),
      )
    where
      whole : (s : State) (known : Known) (made capacity : ℕ) → s.known ≡ known → s.made ≡ made → s.capacity ≡ capacity → s ≡ state_of known made capacity
      whole s known made capacity one two three =
          ap (λ (x : Known). state_of x s.made s.capacity) one ∙ ap (λ (m : ℕ). state_of known m s.capacity) two ∙ ap (λ (c : ℕ). state_of known made c) three
