-- The course of a clean run: the messages in transit in each phase, and the states of the replicas.
use Rattle.std.proofs.Common.{◌≡◌, ◌≢◌, ℕ, zero, suc, ◌+◌, ◌*◌, ◌^◌, ◌<◌, ◌≤◌, List, [], ◌∷◌, ◌++◌, length, map, true, Some, Result, Ok, refl, sym, ap, subst, ◌∙◌, arith, length-append}
use Rattle.std.proofs.lemmas.Map.Keys.{any_passes_from_place}
use Rattle.std.specs.Prelude.{All, slice_get, ◌==◌}
use Rattle.std.specs.List.{AllByRecursion as Each}
use Rattle.std.specs.Option.{option_map, option_and_then}
use Rattle.std.specs.Result.{result_ok}
use Rattle.wire_view.specs.declared.fault.WireFault.{WireFault}
use Rattle.node_core.specs.declared.event.Reason.TheVariants.{Done}
use Rattle.std.specs.Cmp.Lexicographic.{pointwise, bytes_decides}
use Rattle.std.proofs.lemmas.Option.{slice_get-map, slice_get_within}
use Rattle.seq_base.specs.declared.block.Block.{Block}
use Rattle.seq_base.specs.declared.block.Vote.{Vote}
use Rattle.seq_base.specs.declared.order.LocalOrder.{LocalOrder}
use Rattle.seq_base.specs.declared.order.SealedOrder.{SealedOrder}
use Rattle.seq_base.specs.declared.message.Message.{Message}
use Rattle.seq_base.specs.declared.message.Message.TheVariants as sent
use Rattle.seq_base.specs.declared.message.Outgoing.{Outgoing}
use Rattle.seq_base.specs.Blocks.{first_digest}
use Rattle.seq_base.specs.Lists.{AreDistinct}
use Rattle.seq_base.specs.Setting.{Parameters, leader_of, quorum_of}
use Rattle.seq_base.specs.Spelling.{vote_spelling, order_spelling, propose_spelling, message_spelling}
use Rattle.seq_base.specs.Tx.{FitsTx}
use Rattle.seq_base.specs.Writable.{IsWritable}
use Rattle.block_store.specs.Store.{block_digest}
use Rattle.journal_rules.proofs.Stores.{block_long}
use Rattle.quorum_cert.specs.Boxes.{bare}
use Rattle.wire_view.specs.Messages.{read_of, view_of}
use Rattle.wire_view.specs.Views.{Proposed, Voted}
use Rattle.wire_view.specs.declared.messages.MessageView.{MessageView}
use Rattle.wire_view.specs.declared.messages.MessageView.TheVariants as messages
use Rattle.node_core.specs.Delivered.{message_in, block_in}
use Rattle.node_core.specs.declared.event.Event.{Event}
use Rattle.node_core.specs.declared.event.Event.TheVariants.{Deliver}
use Rattle.node_core.specs.declared.turned.Turned.{Turned}
use Rattle.node_core.specs.State.{State}
use Rattle.node_core.specs.Reported.{Outcome, reported}
use Rattle.node_core.specs.Propose.{on_propose}
use Rattle.node_core.specs.Turn.{turn_of, delivered}
use Rattle.replica_seat.specs.declared.seat.Envelope.{Envelope}
use Rattle.replay_run.specs.World.{World}
use Rattle.replica_seat.specs.Showing.{journal_of}
use Rattle.run_verdict.specs.Forged.{parts_in}
use Rattle.run_verdict.specs.Parts.{Part, part, block_parts}
use Rattle.run_verdict.specs.Sealed.{was_sealed, is_sealed_in, has_sealed}
use Rattle.progress_laws.proofs.Chains.{IsChain, IsNext, digest_in, digest_at}
use Rattle.progress_laws.proofs.StateSummary.{Rest, standing, state_at, higher_is, higher}
use Rattle.progress_laws.proofs.ProposeStep.{IsDue, order_over, after_vote, votes}
use Rattle.progress_laws.proofs.Messages.{IsGoodOrder, IsGoodVote, IsMade, order_written, fit, parts_sealed}
use Rattle.progress_laws.proofs.Worlds.{envelope}
use Rattle.progress_laws.proofs.Phases.{Queue, WasSealed, AreSealed, Happened, Ends, Going, OutTurn, fan_out, up, Course}
use Rattle.progress_laws.proofs.Items.{get_last, each_more}

module _ (course : Course) where
  abbrev pub s : Parameters
  s = course.plan.setting

  abbrev pub Sealed : Part → Type 0
  Sealed = WasSealed course

  abbrev pub Has : ℕ → Event → Turned → Type 0
  Has = Happened course

  -- what a turn sealed was sealed
  pub sealed_by : (i : ℕ) (e : Event) (reported : Turned) (k : ℕ) (statement : List ℕ) → Has i e reported
      → slice_get reported.sealed k ≡ Some statement → was_sealed (map journal_of course.last.replicas) i statement ≡ true
  sealed_by i e reported k statement happened found =
      ap (is_sealed_in statement) (slice_get-map journal_of course.last.replicas i ∙ ap (option_map journal_of) happened.found)
      ∙ any_passes_from_place (has_sealed statement) happened.replica.journal happened.place (record { event = e; turned = reported }) happened.entry
      (any_passes_from_place (λ (bytes : List ℕ). pointwise ◌==◌ bytes statement) reported.sealed k statement found
      ((bytes_decides statement statement).1 refl))

  -- a block that was delivered
  pub record Came (b : Block) : Type 0 where
    pub receiver : ℕ
    pub below : receiver < s.n
    pub event : Event
    pub reported : Turned
    pub happened : Has receiver event reported
    pub brings : option_and_then block_in (message_in event) ≡ Some b

  -- ---- states of the replicas

  -- before the proposal of the next view
  pub record Ready (bs : List Block) (i : ℕ) (st : State) : Type 0 where
    pub rest : Rest
    pub made : ℕ
    pub capacity : ℕ
    pub is : st ≡ state_at (standing s course.plan.views i (course.lists i) bs (length bs + 1) rest) made capacity
    pub high : rest.high.view ≤ length bs
    pub voted : rest.voted ≤ length bs
    pub asked : rest.asked ≤ length bs + 1
    pub boxes : rest.boxes ≡ []
    pub few_made : made ≤ 3 * length bs + 4
    pub room : 20 ≤ capacity

  -- after the vote for the last block
  pub record After (bs : List Block) (i : ℕ) (st : State) : Type 0 where
    pub rest : Rest
    pub made : ℕ
    pub capacity : ℕ
    pub is : st ≡ state_at (standing s course.plan.views i (course.lists i) bs (length bs + 1) rest) made capacity
    pub high : suc rest.high.view ≡ length bs
    pub voted : rest.voted ≤ length bs
    pub asked : rest.asked ≤ length bs
    pub boxes : rest.boxes ≡ []
    pub few_made : made ≤ 3 * length bs + 3
    pub room : 20 ≤ capacity

  pub after_ready : (bs : List Block) (i : ℕ) (st : State) → After bs i st → Ready bs i st
  after_ready bs i st b = record {
    rest = b.rest;
    made = b.made;
    capacity = b.capacity;
    is = b.is;
    high = (let h : suc b.rest.high.view ≡ length bs = b.high in omega (arith, h));
    voted = b.voted;
    asked = (let a : b.rest.asked ≤ length bs = b.asked in omega (arith, a));
    boxes = b.boxes;
    few_made = (let m : b.made ≤ 3 * length bs + 3 = b.few_made in omega (arith, m));
    room = b.room;
  }

  -- ---- messages in transit

  -- a block that follows the last one, from the leader of its view to a replica
  pub record IsProposal (bs : List Block) (b : Block) (i : ℕ) (e : Envelope) : Type 0 where
    pub from : e.from ≡ leader_of s (length bs + 1)
    pub to : e.to ≡ i
    pub seal : List ℕ
    pub read : read_of e.bytes ≡ Ok (messages.Propose (record { replica = leader_of s (length bs + 1); block = b; seal = seal }))
    pub seal_fits : course.fits (leader_of s (length bs + 1)) (propose_spelling (leader_of s (length bs + 1)) b) seal ≡ true
    pub was_sealed : Sealed (part (leader_of s (length bs + 1)) (propose_spelling (leader_of s (length bs + 1)) b) seal)

  -- a replica's vote for the last block, with its order for the next view, to the leader of that
  pub record IsBallot (bs : List Block) (i : ℕ) (e : Envelope) : Type 0 where
    pub from : e.from ≡ i
    pub to : e.to ≡ leader_of s (length bs + 1)
    pub voted : Voted
    pub sealed : SealedOrder
    pub read : read_of e.bytes ≡ Ok (messages.Vote voted)
    pub own : voted.vote.replica ≡ i
    pub view : voted.vote.view ≡ length bs
    pub block : voted.vote.block ≡ digest_at bs (length bs)
    pub order : voted.order ≡ Some sealed
    pub order_own : sealed.order.replica ≡ i
    pub good_vote : IsGoodVote course.fits s course.lists Sealed bs (bare voted.vote)
    pub good_order : IsGoodOrder course.fits s course.lists Sealed bs sealed

  -- each block of a chain was delivered
  abbrev pub HaveCome : List Block → Type 0
  HaveCome bs = (k : ℕ) (a : Block) → slice_get bs k ≡ Some a → Came a

  -- ---- the premises of the run

  pub record Rests : Type 0 where
    pub reads : (m : Message) → IsWritable m → read_of (message_spelling m) ≡ Ok (view_of m)
    pub fit : (i number : ℕ) (bytes : List ℕ) → i < s.n → course.fits i bytes (course.gives i number bytes) ≡ true
    pub short : (i number : ℕ) (bytes : List ℕ) → i < s.n → length (course.gives i number bytes) ≤ 4916
    pub proper : (r : ℕ) → r < s.n → AreDistinct (course.lists r) × All FitsTx (course.lists r)
    pub some : 1 ≤ s.n
    pub small : s.n ≤ 16
    pub wanted : 1 ≤ quorum_of s
    pub few_wanted : quorum_of s ≤ s.n
    pub leader : (v : ℕ) → leader_of s v < s.n
    pub views : 4 ≤ course.plan.views
    pub above : (b : Block) → Came b → block_digest b ≢ first_digest
    pub apart : (a b : Block) → Came a → Came b → block_digest a ≡ block_digest b → a ≡ b

  module _ (rests : Rests) (bs : List Block) (chain : IsChain bs) (come : HaveCome bs) (b : Block) (made : IsMade course.fits s course.lists Sealed bs b) where
    -- the block, once it was delivered, follows the chain
    pub is_next : Came b → IsNext bs b
    is_next came = record {
      view = (let v : b.view ≡ length bs + 1 = made.view in omega (arith, v));
      cert = made.cert_view;
      parent = made.cert_block;
      above = rests.above b came;
      apart = λ k a found same.
          let one : a ≡ b = rests.apart a b (come k a found) came same in
          let view : a.view ≡ suc k = chain.views k a found in
          let inside : k < length bs = slice_get_within bs k a found in
          let later : b.view ≡ length bs + 1 = made.view in
          let views : a.view ≡ b.view = ap (λ (x : Block). x.view) one in
          omega (arith, view, inside, later, views);
    }

    pub is_due : Came b → IsDue course.fits s bs b
    is_due came = record { next = is_next came; good = made.good; fit = fit course.fits s course.lists Sealed bs b made }

    -- the state at the start of a vote phase
    pub record IsVotedFor (i : ℕ) (e : Envelope) : Type 0 where
      pub came : Came b
      pub ballot : IsBallot (bs ++ b ∷ []) i e

    module _ (low : length bs ≤ 3) where
      abbrev pub L : ℕ
      L = leader_of s (length bs + 1)

      abbrev pub bs2 : List Block
      bs2 = bs ++ b ∷ []

      pub len_is : length bs2 ≡ b.view
      len_is = length-append bs (b ∷ []) ∙ sym made.view

      pub last_is : digest_at bs2 (length bs2) ≡ block_digest b
      last_is =
          (let more : length bs2 ≡ suc (length bs) = (let l : length bs2 ≡ length bs + 1 = length-append bs (b ∷ []) in omega (arith, l)) in
          ap (digest_at bs2) more ∙ ap digest_in (get_last bs b))

      -- the message of a proposal
      abbrev pub proposed : (i : ℕ) (e : Envelope) → IsProposal bs b i e → Proposed
      proposed i e p = record { replica = L; block = b; seal = p.seal }

      pub brings : (i : ℕ) → i < s.n → (e : Envelope) (reported : Turned) → IsProposal bs b i e → Has i (Deliver e.from e.bytes) reported → Came b
      brings i below e reported p happened = record {
        receiver = i;
        below = below;
        event = Deliver e.from e.bytes;
        reported = reported;
        happened = happened;
        brings = ap (λ (r : Result MessageView WireFault). option_and_then block_in (result_ok r)) p.read;
      }

      pub proposal_parts : (i : ℕ) (e : Envelope) (p : IsProposal bs b i e) → AreSealed course (Deliver e.from e.bytes)
      proposal_parts i e p =
          subst (λ (r : Result MessageView WireFault). Each Sealed (parts_in (result_ok r))) (sym p.read)
          (each_more Sealed (block_parts b) (part L (propose_spelling L b) p.seal ∷ [])
          (parts_sealed course.fits s course.lists Sealed bs b made) (p.was_sealed, tt))

      pub turn_is : (i : ℕ) (e : Envelope) (st : State) (p : IsProposal bs b i e) (r : Ready bs i st)
          → turn_of course.fits (course.gives i) st (Deliver e.from e.bytes) ≡ on_propose course.fits (course.gives i)
          (state_at (standing s course.plan.views i (course.lists i) bs b.view r.rest) r.made r.capacity) L (proposed i e p)
      turn_is i e st p r =
          ap (λ (x : Result MessageView WireFault). delivered course.fits (course.gives i) st e.from x) p.read
          ∙ ap (λ (x : State). on_propose course.fits (course.gives i) x e.from (proposed i e p))
          (r.is ∙ ap (λ (v : ℕ). state_at (standing s course.plan.views i (course.lists i) bs v r.rest) r.made r.capacity) (sym made.view))
          ∙ ap (λ (x : ℕ). on_propose course.fits (course.gives i)
          (state_at (standing s course.plan.views i (course.lists i) bs b.view r.rest) r.made r.capacity) x (proposed i e p)) p.from

      module _ (i : ℕ) (below : i < s.n) (e : Envelope) (st : State) (p : IsProposal bs b i e) (r : Ready bs i st) (came : Came b)
          (inside : length bs + 1 < course.plan.views) where
        abbrev order : LocalOrder
        order = order_over s i (b.view + 1) (course.lists i) bs2 (block_digest b)

        abbrev vote : Vote
        vote = record { replica = i; view = b.view; block = block_digest b; seal = course.gives i r.made (vote_spelling i b.view (block_digest b)) }

        abbrev sealed : SealedOrder
        sealed = record { order = order; seal = course.gives i (r.made + 1) (order_spelling order) }

        abbrev send : Outgoing
        send = record { to = leader_of s (b.view + 1); bytes = message_spelling (sent.Vote vote (Some sealed)) }

        abbrev voted_so : Outcome
        voted_so = record {
          reported =
              reported (state_at (standing s course.plan.views i (course.lists i) bs2 (b.view + 1) (after_vote b r.rest)) r.made r.capacity)
              Done (vote_spelling i b.view (block_digest b) ∷ order_spelling order ∷ []) (send ∷ []);
          state = state_at (standing s course.plan.views i (course.lists i) bs2 (b.view + 1) (after_vote b r.rest)) (r.made + 1 + 1) r.capacity;
        }

        outcome_is : turn_of course.fits (course.gives i) st (Deliver e.from e.bytes) ≡ voted_so
        outcome_is =
            turn_is i e st p r
            ∙ votes course.fits (course.gives i) s course.plan.views i (course.lists i) bs chain b (is_due came)
            (proposed i e p) L r.rest r.made r.capacity refl refl (ap (leader_of s) (sym made.view)) p.seal_fits
            (let v : b.view ≡ length bs + 1 = made.view in omega (arith, v, inside))
            (let v : b.view ≡ length bs + 1 = made.view in let h : r.rest.high.view ≤ length bs = r.high in omega (arith, v, h))
            (let v : b.view ≡ length bs + 1 = made.view in let h : r.rest.voted ≤ length bs = r.voted in omega (arith, v, h))
            (let m : r.made ≤ 3 * length bs + 4 = r.few_made in let c : 20 ≤ r.capacity = r.room in omega (arith, m, c, low))

        stands : After bs2 i voted_so.state
        stands = record {
          rest = after_vote b r.rest;
          made = r.made + 1 + 1;
          capacity = r.capacity;
          is = ap (λ (v : ℕ). state_at (standing s course.plan.views i (course.lists i) bs2 (v + 1) (after_vote b r.rest)) (r.made + 1 + 1) r.capacity)
              (sym len_is);
          high = (
              let c : b.cert.view ≡ length bs = made.cert_view in
              let h : r.rest.high.view ≤ length bs = r.high in
              let is : (higher r.rest.high b.cert).view ≡ b.cert.view = higher_is r.rest.high b.cert (omega (arith, c, h)) in
              let v : b.view ≡ length bs + 1 = made.view in
              omega (arith, c, is, v, len_is)
              );
          voted = omega (arith, len_is);
          asked = (let v : b.view ≡ length bs + 1 = made.view in let a : r.rest.asked ≤ length bs + 1 = r.asked in omega (arith, v, a, len_is));
          boxes = r.boxes;
          few_made = (let v : b.view ≡ length bs + 1 = made.view in let m : r.made ≤ 3 * length bs + 4 = r.few_made in omega (arith, v, m, len_is));
          room = r.room;
        }

        module _ (happened : Has i (Deliver e.from e.bytes) voted_so.reported) where
          good_vote : IsGoodVote course.fits s course.lists Sealed bs2 (bare vote)
          good_vote = record {
            below = below;
            seal_fits = rw (last_is, len_is) (rests.fit i r.made (vote_spelling i b.view (block_digest b)) below);
            short = rests.short i r.made (vote_spelling i b.view (block_digest b)) below;
            was_sealed = rw (last_is, len_is)
                (sealed_by i (Deliver e.from e.bytes) voted_so.reported 0 (vote_spelling i b.view (block_digest b)) happened refl);
          }

          good_order : IsGoodOrder course.fits s course.lists Sealed bs2 sealed
          good_order = record {
            below = below;
            drawn = rw (last_is, len_is);
            seal_fits = rests.fit i (r.made + 1) (order_spelling order) below;
            short = rests.short i (r.made + 1) (order_spelling order) below;
            was_sealed = sealed_by i (Deliver e.from e.bytes) voted_so.reported 1 (order_spelling order) happened refl;
          }

          small_view : length bs2 + 1 < 2 ^ 32
          small_view = (let v : b.view ≡ length bs + 1 = made.view in omega (arith, v, low, len_is))

          written : IsWritable (sent.Vote vote (Some sealed))
          written = (
            record {
              named = (let few : s.n ≤ 16 = rests.small in omega (arith, below, few));
              sealed = rests.short i r.made (vote_spelling i b.view (block_digest b)) below;
            },
            (let v : b.view ≡ length bs + 1 = made.view in omega (arith, v, low)),
            block_long b,
            order_written course.fits s course.lists Sealed bs2 rests.small rests.proper small_view sealed good_order,
          )

          ballot : IsBallot bs2 i (envelope i send)
          ballot = record {
            from = refl;
            to = ap (λ (v : ℕ). leader_of s (v + 1)) (sym len_is);
            voted = record { vote = vote; order = Some sealed };
            sealed = sealed;
            read = rests.reads (sent.Vote vote (Some sealed)) written;
            own = refl;
            view = sym len_is;
            block = sym last_is;
            order = refl;
            order_own = refl;
            good_vote = good_vote;
            good_order = good_order;
          }

          pub out_turn : OutTurn course (Ready bs) (After bs2) (IsProposal bs b) IsVotedFor i e voted_so
          out_turn = record {
            parts = proposal_parts i e p;
            state = stands;
            send = send;
            sends = refl;
            within = rests.leader (b.view + 1);
            sent = record { came = came; ballot = ballot };
          }

      propose_turn : (inside : length bs + 1 < course.plan.views) (i : ℕ) (e : Envelope) (st : State) (o : Outcome) → i < s.n
          → IsProposal bs b i e → Ready bs i st → o ≡ turn_of course.fits (course.gives i) st (Deliver e.from e.bytes)
          → Has i (Deliver e.from e.bytes) o.reported → OutTurn course (Ready bs) (After bs2) (IsProposal bs b) IsVotedFor i e o
      propose_turn inside i e st o below p r is happened =
          let came : Came b = brings i below e o.reported p happened in
          subst (λ (x : Outcome). Has i (Deliver e.from e.bytes) x.reported → OutTurn course (Ready bs) (After bs2) (IsProposal bs b) IsVotedFor i e x)
          (sym (is ∙ outcome_is i below e st p r came inside)) (out_turn i below e st p r came inside) happened

      first_of_queue : (M : ℕ → Envelope → Type 0) (m : ℕ) (es : List Envelope) → 1 ≤ m → Queue M 0 m es → (e : Envelope) × M 0 e
      first_of_queue M zero es some q = absurd (omega (arith, some))
      first_of_queue M (suc m) [] some q = absurd q
      first_of_queue M (suc m) (e ∷ es) some q = (e, q.0)

      queue_weaker : (M N : ℕ → Envelope → Type 0) (i m : ℕ) (es : List Envelope) → ((k : ℕ) (e : Envelope) → M k e → N k e) → Queue M i m es → Queue N i m es
      queue_weaker M N i zero [] weaker q = tt
      queue_weaker M N i zero (e ∷ es) weaker q = absurd q
      queue_weaker M N i (suc m) [] weaker q = absurd q
      queue_weaker M N i (suc m) (e ∷ es) weaker q = (weaker i e q.0, queue_weaker M N (suc i) m es weaker q.1)

      -- The block is proposed to all replicas, and they vote.
      pub propose_phase : length bs + 1 < course.plan.views → (steps last : ℕ) → last ≤ 10 * s.n
          → ((v : World) → Came b → Going course (After bs2) v → Queue (IsBallot bs2) 0 s.n v.queue → v.turns ≡ last → Ends course steps v)
          → (w : World) → Going course (Ready bs) w → Queue (IsProposal bs b) 0 s.n w.queue → w.turns + s.n ≡ last
          → Ends course (up s.n steps) w
      propose_phase inside steps last few next =
          fan_out course (Ready bs) (After bs2) (IsProposal bs b) IsVotedFor (λ i e p. p.to) (propose_turn inside) steps last few
          (λ v g queue turns. next v (first_of_queue IsVotedFor s.n v.queue rests.some queue).1.came g
          (queue_weaker IsVotedFor (IsBallot bs2) 0 s.n v.queue (λ k e x. x.ballot) queue) turns)
