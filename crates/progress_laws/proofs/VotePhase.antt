-- All vote for the last block, and the leader of the next view proposes the next block.
use Rattle.std.proofs.Common.{◌≡◌, ℕ, zero, suc, ◌+◌, ◌*◌, ◌<◌, ◌≤◌, List, [], ◌∷◌, ◌++◌, length, map, true, Result, refl, sym, ap, subst, ◌∙◌, inl, inr, ◌⊎◌, arith, length-append}
use Rattle.std.specs.List.{AllByRecursion as Each, range_with_len}
use Rattle.std.specs.Result.{result_ok}
use Rattle.std.specs.Option.{option_map_or}
use Rattle.seq_base.specs.declared.block.Block.{Block}
use Rattle.seq_base.specs.declared.block.CertVote.{CertVote}
use Rattle.seq_base.specs.declared.order.LocalOrder.{LocalOrder}
use Rattle.seq_base.specs.declared.order.SealedOrder.{SealedOrder}
use Rattle.seq_base.specs.declared.message.Message.TheVariants as sent
use Rattle.seq_base.specs.Setting.{Parameters, leader_of, quorum_of}
use Rattle.seq_base.specs.Spelling.{vote_spelling, order_spelling, propose_spelling, message_spelling}
use Rattle.seq_base.specs.Writable.{IsWritable}
use Rattle.chain_state.specs.Standings.{fits as fits_chain}
use Rattle.quorum_cert.specs.Boxes.{bare}
use Rattle.wire_view.specs.declared.fault.WireFault.{WireFault}
use Rattle.wire_view.specs.declared.messages.MessageView.{MessageView}
use Rattle.chain_store.specs.Chains.{chain_state_of}
use Rattle.node_core.specs.declared.event.Event.{Event}
use Rattle.node_core.specs.declared.event.Event.TheVariants.{Deliver}
use Rattle.node_core.specs.declared.event.Reason.TheVariants.{Done, OldView}
use Rattle.node_core.specs.State.{State}
use Rattle.node_core.specs.Reported.{Outcome, reported, quiet, to_each}
use Rattle.node_core.specs.Turn.{turn_of, delivered}
use Rattle.node_core.specs.Vote.{on_vote}
use Rattle.replica_seat.specs.declared.seat.Envelope.{Envelope}
use Rattle.replay_run.specs.World.{World}
use Rattle.run_verdict.specs.Forged.{parts_in}
use Rattle.run_verdict.specs.Parts.{Part, part}
use Rattle.progress_laws.proofs.Chains.{IsChain, digest_at}
use Rattle.progress_laws.proofs.StateSummary.{Rest, standing, state_at, higher_is}
use Rattle.progress_laws.proofs.ReplicaLists.{RunFrom, run_more}
use Rattle.progress_laws.proofs.VoteSteps.{voter, orderer, AreKept, IsVote, ballot, after_form, comes_late, is_kept, is_last}
use Rattle.progress_laws.proofs.Messages.{IsGoodOrder, IsGoodVote, IsMade, block_written, drawn_fits, cert_good, cert_written, cert_sealed}
use Rattle.progress_laws.proofs.Worlds.{AreWithin, envelope}
use Rattle.progress_laws.proofs.Phases.{Queue, AreSealed, Ends, Going, InTurn, HasHad, fan_in, up, compared, Course}
use Rattle.progress_laws.proofs.Underway.{Sealed, Has, sealed_by, Ready, After, after_ready, IsProposal, IsBallot, Rests}
use Rattle.std.proofs.lemmas.Bool.{and_from, cases_eq}
use Rattle.progress_laws.proofs.Items.{each_more}

-- the same bytes to each of these
pub each_gets : (M : ℕ → Envelope → Type 0) (L : ℕ) (bytes : List ℕ) (i m : ℕ)
    → ((j : ℕ) → j < i + m → M j (record { from = L; to = j; bytes = bytes }))
    → Queue M i m (map (envelope L) (to_each (range_with_len i m) bytes))
each_gets M L bytes i zero f = tt
each_gets M L bytes i (suc m) f =
    (f i (omega arith), (let same : i + 1 ≡ suc i = omega arith in rw same (each_gets M L bytes (suc i) m (λ j inside. f j (omega (arith, inside))))))

pub each_within : (n : ℕ) (bytes : List ℕ) (i m : ℕ) → i + m ≤ n → AreWithin n (to_each (range_with_len i m) bytes)
each_within n bytes i zero inside = tt
each_within n bytes i (suc m) inside =
    (omega (arith, inside), (let same : i + 1 ≡ suc i = omega arith in rw same (each_within n bytes (suc i) m (omega (arith, inside)))))

module _ (course : Course) where
  abbrev s : Parameters
  s = course.plan.setting

  abbrev Seal : Part → Type 0
  Seal = Sealed course

  abbrev Happens : ℕ → Event → Outcome → Type 0
  Happens i e o = Has course i e o.reported

  -- the block of the next view is in transit to each
  pub record IsProposed (bs : List Block) (es : List Envelope) : Type 0 where
    pub block : Block
    pub made : IsMade course.fits s course.lists Seal bs block
    pub queue : Queue (IsProposal course bs block) 0 s.n es

  -- If a block is made and its proposal sealed, it is in transit to each.
  pub proposes_all : (rests : Rests course) (bs : List Block) (b : Block) (number : ℕ) → length bs ≤ 3 → IsMade course.fits s course.lists Seal bs b
      → Seal (part (leader_of s (length bs + 1)) (propose_spelling (leader_of s (length bs + 1)) b)
      (course.gives (leader_of s (length bs + 1)) number (propose_spelling (leader_of s (length bs + 1)) b)))
      → IsProposed bs (map (envelope (leader_of s (length bs + 1))) (to_each (range_with_len 0 s.n)
      (message_spelling (sent.Propose (leader_of s (length bs + 1)) b
      (course.gives (leader_of s (length bs + 1)) number (propose_spelling (leader_of s (length bs + 1)) b))))))
  proposes_all rests bs b number low made sealed =
      let L : ℕ = leader_of s (length bs + 1) in
      let seal : List ℕ = course.gives L number (propose_spelling L b) in
      let below : L < s.n = rests.leader (length bs + 1) in
      let written : IsWritable (sent.Propose L b seal) = (
        record { named = (let few : s.n ≤ 16 = rests.small in omega (arith, below, few)); sealed = rests.short L number (propose_spelling L b) below },
        block_written course.fits s course.lists Seal bs rests.small rests.proper (omega (arith, low)) b made,
      ) in
      record {
        block = b;
        made = made;
        queue = each_gets (IsProposal course bs b) L (message_spelling (sent.Propose L b seal)) 0 s.n (λ j inside. record {
          from = refl;
          to = refl;
          seal = seal;
          read = rests.reads (sent.Propose L b seal) written;
          seal_fits = rests.fit L number (propose_spelling L b) below;
          was_sealed = sealed;
        });
      }

  module _ (rests : Rests course) (bs : List Block) (chain : IsChain bs) (some : 1 ≤ length bs) (low : length bs ≤ 3) where
    abbrev L : ℕ
    L = leader_of s (length bs + 1)

    abbrev q : ℕ
    q = quorum_of s

    abbrev at : Rest → ℕ → ℕ → State
    at rest made capacity = state_at (standing s course.plan.views L (course.lists L) bs (length bs + 1) rest) made capacity

    -- the leader has stored this many votes, with their orders
    pub record Keeps (k : ℕ) (st : State) : Type 0 where
      pub rest : Rest
      pub made : ℕ
      pub capacity : ℕ
      pub is : st ≡ at rest made capacity
      pub high : suc rest.high.view ≤ length bs
      pub voted : rest.voted ≤ length bs
      pub asked : rest.asked ≤ length bs
      pub votes : List CertVote
      pub orders : List SealedOrder
      pub kept : AreKept course.fits (course.gives L) s course.plan.views L (course.lists L) bs chain rest.boxes votes orders
      pub run_votes : RunFrom voter 0 votes
      pub run_orders : RunFrom orderer 0 orders
      pub many : length votes ≡ k
      pub same : length orders ≡ length votes
      pub good_votes : Each (IsGoodVote course.fits s course.lists Seal bs) votes
      pub good_orders : Each (IsGoodOrder course.fits s course.lists Seal bs) orders
      pub few_made : made ≤ 3 * length bs + 3
      pub room : 20 ≤ capacity

    -- it has proposed
    pub record HasProposed (st : State) : Type 0 where
      pub rest : Rest
      pub made : ℕ
      pub capacity : ℕ
      pub is : st ≡ at rest made capacity
      pub high : rest.high.view ≡ length bs
      pub voted : rest.voted ≤ length bs
      pub asked : rest.asked ≤ length bs + 1
      pub boxes : rest.boxes ≡ []
      pub few_made : made ≤ 3 * length bs + 4
      pub room : 20 ≤ capacity

    abbrev Counts : ℕ → State → Type 0
    Counts k st = (k < q → Keeps k st) × (q ≤ k → HasProposed st)

    abbrev Ballots : ℕ → Envelope → Type 0
    Ballots = IsBallot course bs

    abbrev Turns : ℕ → Envelope → Outcome → Type 0
    Turns = InTurn course L (rests.leader (length bs + 1)) q rests.wanted rests.few_wanted (After course bs) Counts Ballots (IsProposed bs)

    module _ (k : ℕ) (inside : k < s.n) (e : Envelope) (st : State) (b : Ballots k e) where
      own_seal : course.fits k (vote_spelling b.voted.vote.replica b.voted.vote.view b.voted.vote.block) b.voted.vote.seal ≡ true
      own_seal = rw (b.view, b.block)
          (ap (λ (x : ℕ). course.fits x (vote_spelling b.voted.vote.replica (length bs) (digest_at bs (length bs))) b.voted.vote.seal) (sym b.own)
          ∙ b.good_vote.seal_fits)

      carried_seal : option_map_or (λ sealed. course.fits k (order_spelling sealed.order) sealed.seal) b.voted.order true ≡ true
      carried_seal = rw b.order (ap (λ (x : ℕ). course.fits x (order_spelling b.sealed.order) b.sealed.seal) (sym b.order_own) ∙ b.good_order.seal_fits)

      is_vote : IsVote course.fits (course.gives L) s course.plan.views L (course.lists L) bs chain k b.voted b.sealed
      is_vote = record {
        own = b.own;
        view = b.view;
        block = b.block;
        order = b.order;
        order_own = b.order_own;
        order_view = ap (λ (o : LocalOrder). o.view) b.good_order.drawn;
        order_parent = ap (λ (o : LocalOrder). o.parent) b.good_order.drawn;
        order_fits = ap (fits_chain (chain_state_of (record { setting = s; blocks = bs }) (digest_at bs (length bs)))) b.good_order.drawn
            ∙ drawn_fits b.sealed.order.replica (length bs + 1) (digest_at bs (length bs)) (course.lists b.sealed.order.replica)
            (chain_state_of (record { setting = s; blocks = bs }) (digest_at bs (length bs)));
        seal_fits = and_from (course.fits k (vote_spelling b.voted.vote.replica b.voted.vote.view b.voted.vote.block) b.voted.vote.seal)
            (option_map_or (λ sealed. course.fits k (order_spelling sealed.order) sealed.seal) b.voted.order true) own_seal carried_seal;
      }

      parts : AreSealed course (Deliver e.from e.bytes)
      parts =
          subst (λ (r : Result MessageView WireFault). Each Seal (parts_in (result_ok r))) (sym b.read)
          (rw (b.view, b.block) b.good_vote.was_sealed, rw b.order (b.good_order.was_sealed, tt))

      turn_is : (x : State) → st ≡ x → turn_of course.fits (course.gives L) st (Deliver e.from e.bytes) ≡ on_vote course.fits (course.gives L) x k b.voted
      turn_is x is =
          ap (λ (r : Result MessageView WireFault). delivered course.fits (course.gives L) st e.from r) b.read
          ∙ ap (λ (y : State). on_vote course.fits (course.gives L) y e.from b.voted) is
          ∙ ap (λ (y : ℕ). on_vote course.fits (course.gives L) x y b.voted) b.from

      inside_views : length bs < course.plan.views
      inside_views = (let v : 4 ≤ course.plan.views = rests.views in omega (arith, v, low))

      -- a late one
      late : HasProposed st → q ≤ k → (o : Outcome) → o ≡ turn_of course.fits (course.gives L) st (Deliver e.from e.bytes) → Turns k e o
      late h following o is =
          let same : o ≡ quiet (at h.rest h.made h.capacity) OldView = is ∙ turn_is (at h.rest h.made h.capacity) h.is
          ∙ comes_late course.fits (course.gives L) s course.plan.views L
          (course.lists L) bs chain k b.voted b.sealed is_vote some inside_views refl h.rest h.made h.capacity h.high in
          subst (Turns k e) (sym same) (record {
            parts = parts;
            state = (
              (λ less. absurd (omega (arith, less, following))),
              (λ above. record {
                rest = h.rest;
                made = h.made;
                capacity = h.capacity;
                is = refl;
                high = h.high;
                voted = h.voted;
                asked = h.asked;
                boxes = h.boxes;
                few_made = h.few_made;
                room = h.room;
              }),
            );
            within = tt;
            at_last = λ now. absurd (omega (arith, now, following));
            else = λ other. refl;
          })

      module _ (h : Keeps k st) where
        good_votes2 : Each (IsGoodVote course.fits s course.lists Seal bs) (h.votes ++ bare b.voted.vote ∷ [])
        good_votes2 = each_more (IsGoodVote course.fits s course.lists Seal bs) h.votes (bare b.voted.vote ∷ []) h.good_votes (b.good_vote, tt)

        good_orders2 : Each (IsGoodOrder course.fits s course.lists Seal bs) (h.orders ++ b.sealed ∷ [])
        good_orders2 = each_more (IsGoodOrder course.fits s course.lists Seal bs) h.orders (b.sealed ∷ []) h.good_orders (b.good_order, tt)

        run_votes2 : RunFrom voter 0 (h.votes ++ bare b.voted.vote ∷ [])
        run_votes2 = run_more voter 0 h.votes (bare b.voted.vote) h.run_votes
            (let own : b.voted.vote.replica ≡ k = b.own in let m : length h.votes ≡ k = h.many in omega (arith, own, m))

        run_orders2 : RunFrom orderer 0 (h.orders ++ b.sealed ∷ [])
        run_orders2 = run_more orderer 0 h.orders b.sealed h.run_orders (let own : b.sealed.order.replica ≡ k = b.order_own in
            let m : length h.votes ≡ k = h.many in let o : length h.orders ≡ length h.votes = h.same in omega (arith, own, m, o))

        many2 : length (h.votes ++ bare b.voted.vote ∷ []) ≡ suc k
        many2 =
            (let l : length (h.votes ++ bare b.voted.vote ∷ []) ≡ length h.votes + 1 = length-append h.votes (bare b.voted.vote ∷ []) in
            let m : length h.votes ≡ k = h.many in omega (arith, l, m))

        same2 : length (h.orders ++ b.sealed ∷ []) ≡ length (h.votes ++ bare b.voted.vote ∷ [])
        same2 =
            (let l : length (h.orders ++ b.sealed ∷ []) ≡ length h.orders + 1 = length-append h.orders (b.sealed ∷ []) in
            let m : length h.votes ≡ k = h.many in let o : length h.orders ≡ length h.votes = h.same in omega (arith, l, m, o, many2))

        high_below : h.rest.high.view < length bs
        high_below = h.high

        -- a vote that does not complete the quorum
        kept : suc k < q → (o : Outcome) → o ≡ turn_of course.fits (course.gives L) st (Deliver e.from e.bytes) → Turns k e o
        kept few o is =
            let rest2 : Rest =
            record h.rest {
              boxes = ballot course.fits (course.gives L) s course.plan.views L (course.lists L) bs chain
                  (h.votes ++ bare b.voted.vote ∷ []) (h.orders ++ b.sealed ∷ []) ∷ [];
            } in
            let same : o ≡ quiet (at rest2 h.made h.capacity) Done = is ∙ turn_is (at h.rest h.made h.capacity) h.is
            ∙ is_kept course.fits (course.gives L) s course.plan.views L (course.lists L) bs chain k b.voted b.sealed is_vote some inside_views
            refl h.rest h.votes h.orders h.kept h.run_votes h.run_orders h.same (sym h.many) h.made h.capacity high_below h.asked
            (let m : length h.votes ≡ k = h.many in omega (arith, m, few)) in
            subst (Turns k e) (sym same) (record {
              parts = parts;
              state = (
                (λ less. record {
                  rest = rest2;
                  made = h.made;
                  capacity = h.capacity;
                  is = refl;
                  high = h.high;
                  voted = h.voted;
                  asked = h.asked;
                  votes = h.votes ++ bare b.voted.vote ∷ [];
                  orders = h.orders ++ b.sealed ∷ [];
                  kept = inr refl;
                  run_votes = run_votes2;
                  run_orders = run_orders2;
                  many = many2;
                  same = same2;
                  good_votes = good_votes2;
                  good_orders = good_orders2;
                  few_made = h.few_made;
                  room = h.room;
                }),
                (λ above. absurd (omega (arith, above, few))),
              );
              within = tt;
              at_last = λ now. absurd (omega (arith, now, few));
              else = λ other. refl;
            })

        abbrev block : Block
        block =
            record {
              view = length bs + 1;
              cert = record { view = length bs; block = digest_at bs (length bs); votes = h.votes ++ bare b.voted.vote ∷ [] };
              orders = h.orders ++ b.sealed ∷ [];
            }

        is_made : suc k ≡ q → IsMade course.fits s course.lists Seal bs block
        is_made now = record {
          view = refl;
          cert_view = refl;
          cert_block = refl;
          good = cert_good course.fits s course.lists Seal bs (h.votes ++ bare b.voted.vote ∷ []) some
              (omega (arith, now, many2)) rests.few_wanted run_votes2 good_votes2;
          cert_written = cert_written course.fits s course.lists Seal bs (h.votes ++ bare b.voted.vote ∷ []) rests.small
              (omega (arith, low)) (let w : q ≤ s.n = rests.few_wanted in omega (arith, now, many2, w)) run_votes2 good_votes2;
          cert_sealed = cert_sealed course.fits s course.lists Seal bs (h.votes ++ bare b.voted.vote ∷ []) good_votes2;
          count = omega (arith, now, many2, same2);
          ascending = run_orders2;
          orders = good_orders2;
        }

        -- the vote that completes the quorum
        last : suc k ≡ q → (o : Outcome) → o ≡ turn_of course.fits (course.gives L) st (Deliver e.from e.bytes)
            → Happens L (Deliver e.from e.bytes) o → Turns k e o
        last now o is happened =
            let same : o ≡ record {
              reported = reported
                  (at (after_form course.fits (course.gives L) s course.plan.views L (course.lists L) bs chain k b.voted b.sealed is_vote
                  some inside_views refl h.rest h.votes h.orders h.kept h.run_votes h.run_orders h.same (sym h.many)) h.made h.capacity)
                  Done (propose_spelling L block ∷ [])
                  (to_each (range_with_len 0 s.n) (message_spelling (sent.Propose L block (course.gives L h.made (propose_spelling L block)))));
              state = at (after_form course.fits (course.gives L) s course.plan.views L (course.lists L) bs chain k b.voted b.sealed
                  is_vote some inside_views refl h.rest h.votes h.orders h.kept h.run_votes h.run_orders h.same (sym h.many))
                  (h.made + 1) h.capacity;
            } = is ∙ turn_is (at h.rest h.made h.capacity) h.is
            ∙ is_last course.fits (course.gives L) s course.plan.views L (course.lists L) bs chain k b.voted b.sealed is_vote some inside_views
            refl h.rest h.votes h.orders h.kept h.run_votes h.run_orders h.same (sym h.many) h.made h.capacity high_below h.asked
            (let m : length h.votes ≡ k = h.many in omega (arith, m, now))
            (let f : h.made ≤ 3 * length bs + 3 = h.few_made in let c : 20 ≤ h.capacity = h.room in omega (arith, f, c, low)) in
            subst (λ (x : Outcome). Happens L (Deliver e.from e.bytes) x → Turns k e x) (sym same)
            (λ happens. record {
              parts = parts;
              state = (
                (λ less. absurd (omega (arith, less, now))),
                (λ above. record {
                  rest = after_form course.fits (course.gives L) s course.plan.views L (course.lists L) bs chain k b.voted b.sealed is_vote
                      some inside_views refl h.rest h.votes h.orders h.kept h.run_votes h.run_orders h.same (sym h.many);
                  made = h.made + 1;
                  capacity = h.capacity;
                  is = refl;
                  high = higher_is h.rest.high block.cert (let x : suc h.rest.high.view ≤ length bs = h.high in omega (arith, x));
                  voted = h.voted;
                  asked = omega arith;
                  boxes = refl;
                  few_made = (let f : h.made ≤ 3 * length bs + 3 = h.few_made in omega (arith, f));
                  room = h.room;
                }),
              );
              within = each_within s.n _ 0 s.n (omega arith);
              at_last = λ x. proposes_all rests bs block h.made low (is_made now)
                  (sealed_by course L (Deliver e.from e.bytes) _ 0 (propose_spelling L block) happens refl);
              else = λ other. absurd (other now);
            }) happened

    ballot_turn : (k : ℕ) (e : Envelope) (st : State) (o : Outcome) → k < s.n → Ballots k e → Counts k st
        → o ≡ turn_of course.fits (course.gives L) st (Deliver e.from e.bytes) → Happens L (Deliver e.from e.bytes) o → Turns k e o
    ballot_turn k e st o inside b c is happened = by (compared k q)
      where
        by : (suc k < q) ⊎ ((suc k ≡ q) ⊎ (q ≤ k)) → Turns k e o
        by (inl few) = kept k inside e st b (c.0 (omega (arith, few))) few o is
        by (inr (inl now)) = last k inside e st b (c.0 (omega (arith, now))) now o is happened
        by (inr (inr following)) = late k inside e st b (c.1 following) following o is

    abbrev Goes : (ℕ → State → Type 0) → World → Type 0
    Goes P w = Going course P w

    abbrev Had : ℕ → ℕ → State → Type 0
    Had = HasHad course L (rests.leader (length bs + 1)) q rests.wanted rests.few_wanted (After course bs) Counts Ballots (IsProposed bs)

    begins : (st : State) → After course bs L st → Counts 0 st
    begins st b = (
      (λ less. record {
        rest = b.rest;
        made = b.made;
        capacity = b.capacity;
        is = b.is;
        high = (let h : suc b.rest.high.view ≡ length bs = b.high in omega (arith, h));
        voted = b.voted;
        asked = b.asked;
        votes = [];
        orders = [];
        kept = inl (b.boxes, refl, refl);
        run_votes = tt;
        run_orders = tt;
        many = refl;
        same = refl;
        good_votes = tt;
        good_orders = tt;
        few_made = b.few_made;
        room = b.room;
      }),
      (λ above. absurd (let w : 1 ≤ q = rests.wanted in omega (arith, above, w))),
    )

    proposed_ready : (st : State) → HasProposed st → Ready course bs L st
    proposed_ready st h = record {
      rest = h.rest;
      made = h.made;
      capacity = h.capacity;
      is = h.is;
      high = (let x : h.rest.high.view ≡ length bs = h.high in omega (arith, x));
      voted = h.voted;
      asked = h.asked;
      boxes = h.boxes;
      few_made = h.few_made;
      room = h.room;
    }

    had_ready : (j : ℕ) (st : State) → Had s.n j st → Ready course bs j st
    had_ready j st had = elim (cases_eq j L) [
      | inl same ↦ subst (λ (x : ℕ). Ready course bs x st) (sym same) (proposed_ready st ((had.0 same).1 rests.few_wanted))
      | inr other ↦ after_ready course bs j st (had.1 other)
    ]

    -- All votes are delivered to the leader of the next view, which proposes.
    pub vote_phase : (steps last : ℕ) → last ≤ 10 * s.n
        → ((v : World) → Goes (Ready course bs) v → IsProposed bs v.queue → v.turns ≡ last → Ends course steps v)
        → (w : World) → Goes (After course bs) w → Queue Ballots 0 s.n w.queue → w.turns + s.n ≡ last
        → Ends course (up s.n steps) w
    vote_phase steps last few next w g queue turns =
        fan_in course L (rests.leader (length bs + 1)) q rests.wanted rests.few_wanted (After course bs) Counts Ballots (IsProposed bs)
        (λ i e b. b.to) ballot_turn steps last few
        (λ v gv out turns_v. next v
        (record {
          count = gv.count;
          each = λ j r found. (let both = gv.each j r found in (both.0, had_ready j r.state both.1));
          ticks = gv.ticks;
          due = gv.due;
        })
        out turns_v)
        w (record {
          count = g.count;
          each = λ j r found. (let both = g.each j r found in
              (both.0, ((λ same. begins r.state (subst (λ (x : ℕ). After course bs x r.state) same both.1)), (λ other. both.1))));
          ticks = g.ticks;
          due = g.due;
        }) queue turns
