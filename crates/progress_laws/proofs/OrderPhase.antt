-- All orders of view 1 are delivered to its leader, which proposes the first block.
use Rattle.std.proofs.Common.{◌≡◌, ℕ, suc, ◌+◌, ◌*◌, ◌<◌, ◌≤◌, [], ◌∷◌, ◌++◌, length, true, Result, refl, sym, ap, subst, ◌∙◌, inl, inr, ◌⊎◌, arith, length-append}
use Rattle.std.specs.List.{AllByRecursion as Each, range_with_len}
use Rattle.std.specs.Result.{result_ok}
use Rattle.seq_base.specs.declared.block.Block.{Block}
use Rattle.seq_base.specs.declared.block.Cert.{Cert}
use Rattle.seq_base.specs.declared.order.LocalOrder.{LocalOrder}
use Rattle.seq_base.specs.declared.message.Message.TheVariants as sent
use Rattle.seq_base.specs.Blocks.{first_digest, first_cert}
use Rattle.seq_base.specs.Setting.{Parameters, leader_of, quorum_of}
use Rattle.seq_base.specs.Spelling.{order_spelling, propose_spelling, message_spelling}
use Rattle.chain_state.specs.Standings.{fits as fits_chain}
use Rattle.wire_view.specs.declared.fault.WireFault.{WireFault}
use Rattle.wire_view.specs.declared.messages.MessageView.{MessageView}
use Rattle.chain_store.specs.Chains.{chain_state_of}
use Rattle.node_core.specs.declared.event.Event.TheVariants.{Deliver}
use Rattle.node_core.specs.declared.event.Reason.TheVariants.{Done, OldView}
use Rattle.node_core.specs.State.{State}
use Rattle.node_core.specs.Reported.{Outcome, reported, quiet, to_each}
use Rattle.node_core.specs.Turn.{turn_of, delivered}
use Rattle.node_core.specs.Order.{on_order}
use Rattle.replica_seat.specs.declared.seat.Envelope.{Envelope}
use Rattle.replay_run.specs.World.{World}
use Rattle.run_verdict.specs.Forged.{parts_in}
use Rattle.progress_laws.proofs.StateSummary.{Rest, standing, state_at}
use Rattle.progress_laws.proofs.ReplicaLists.{RunFrom, run_more}
use Rattle.progress_laws.proofs.VoteSteps.{orderer}
use Rattle.progress_laws.proofs.OrderSteps.{IsOrder, order_late, order_kept, order_last}
use Rattle.progress_laws.proofs.Messages.{IsGoodOrder, IsMade, drawn_fits}
use Rattle.progress_laws.proofs.Phases.{Queue, AreSealed, Ends, Going, InTurn, fan_in, up, compared, Course}
use Rattle.progress_laws.proofs.Underway.{Sealed, Has, sealed_by, Ready, Rests}
use Rattle.progress_laws.proofs.VotePhase.{each_within, IsProposed, proposes_all}
use Rattle.std.proofs.lemmas.Bool.{cases_eq}
use Rattle.progress_laws.proofs.Items.{each_more}
use Rattle.progress_laws.proofs.FirstView.{from_one, first_written, Opens, Asked, Orders}

module _ (course : Course) (rests : Rests course) where
  abbrev s : Parameters
  s = course.plan.setting

  abbrev L : ℕ
  L = leader_of s 1

  abbrev q : ℕ
  q = quorum_of s

  abbrev at : ℕ → Rest → ℕ → ℕ → State
  at i rest made capacity = state_at (standing s course.plan.views i (course.lists i) [] 1 rest) made capacity

  one_view : 1 ≤ course.plan.views
  one_view = (let v : 4 ≤ course.plan.views = rests.views in omega (arith, v))

  pub record OrdersKept (k : ℕ) (st : State) : Type 0 where
    pub opens : Opens course 1 1 0 3 L st
    pub asked : opens.rest.asked ≡ 1
    pub ask_cert : opens.rest.ask_cert ≡ first_cert
    pub run : RunFrom orderer 0 opens.rest.orders
    pub many : length opens.rest.orders ≡ k
    pub good : Each (IsGoodOrder course.fits s course.lists (Sealed course) []) opens.rest.orders

  pub record HasOrdered (st : State) : Type 0 where
    pub opens : Opens course 1 1 1 4 L st
    pub asked : opens.rest.asked ≡ 1
    pub ask_cert : opens.rest.ask_cert ≡ first_cert

  abbrev OrderCount : ℕ → State → Type 0
  OrderCount k st = (k < q → OrdersKept k st) × (q ≤ k → HasOrdered st)

  abbrev OrderTurns : ℕ → Envelope → Outcome → Type 0
  OrderTurns = InTurn course L (rests.leader 1) q rests.wanted rests.few_wanted (Asked course 1 0 3) OrderCount (Orders course) (IsProposed course [])

  module _ (k : ℕ) (e : Envelope) (st : State) (c : Orders course k e) where
    order_parts : AreSealed course (Deliver e.from e.bytes)
    order_parts = subst (λ (r : Result MessageView WireFault). Each (Sealed course) (parts_in (result_ok r))) (sym c.read) (c.good.was_sealed, tt)

    order_turn_is : (x : State) → st ≡ x → turn_of course.fits (course.gives L) st (Deliver e.from e.bytes) ≡ on_order course.fits (course.gives L) x k c.sealed
    order_turn_is x is =
        ap (λ (r : Result MessageView WireFault). delivered course.fits (course.gives L) st e.from r) c.read
        ∙ ap (λ (y : State). on_order course.fits (course.gives L) y e.from c.sealed) is
        ∙ ap (λ (y : ℕ). on_order course.fits (course.gives L) x y c.sealed) c.from

    is_order : (r : Rest) → r.ask_cert ≡ first_cert
        → IsOrder course.fits (course.gives L) s course.plan.views L (course.lists L) [] 1 from_one one_view refl k r.ask_cert.block c.sealed
    is_order r ask_cert =
        subst (λ (x : Cert). IsOrder course.fits (course.gives L) s course.plan.views L (course.lists L) [] 1 from_one one_view refl k x.block c.sealed)
        (sym ask_cert) (record {
          own = c.own;
          view = ap (λ (o : LocalOrder). o.view) c.good.drawn;
          over = ap (λ (o : LocalOrder). o.parent) c.good.drawn;
          lists_fit = ap (fits_chain (chain_state_of (record { setting = s; blocks = [] }) first_digest)) c.good.drawn
              ∙ drawn_fits c.sealed.order.replica 1 first_digest (course.lists c.sealed.order.replica)
              (chain_state_of (record { setting = s; blocks = [] }) first_digest);
          seal_fits = subst (λ (x : ℕ). course.fits x (order_spelling c.sealed.order) c.sealed.seal ≡ true) c.own c.good.seal_fits;
        })

    order_is_late : HasOrdered st → q ≤ k → (o : Outcome) → o ≡ turn_of course.fits (course.gives L) st (Deliver e.from e.bytes) → OrderTurns k e o
    order_is_late h following o is =
        let same : o ≡ quiet (at L h.opens.rest h.opens.made h.opens.capacity) OldView =
        is ∙ order_turn_is (at L h.opens.rest h.opens.made h.opens.capacity) h.opens.is
        ∙ order_late course.fits (course.gives L) s course.plan.views L (course.lists L) [] 1 from_one one_view refl k h.opens.rest c.sealed
        (is_order h.opens.rest h.ask_cert) h.asked h.opens.made h.opens.capacity h.opens.proposed_is in
        subst (OrderTurns k e) (sym same) (record {
          parts = order_parts;
          state = ((λ less. absurd (omega (arith, less, following))), (λ above. subst HasOrdered h.opens.is h));
          within = tt;
          at_last = λ now. absurd (omega (arith, now, following));
          else = λ other. refl;
        })

    module _ (h : OrdersKept k st) where
      abbrev kept_rest : Rest
      kept_rest = record h.opens.rest { orders = h.opens.rest.orders ++ c.sealed ∷ [] }

      not_proposed : h.opens.rest.proposed ≡ 1 → ⊥
      not_proposed is = (let none : h.opens.rest.proposed ≡ 0 = h.opens.proposed_is in omega (arith, is, none))

      run2 : RunFrom orderer 0 (h.opens.rest.orders ++ c.sealed ∷ [])
      run2 = run_more orderer 0 h.opens.rest.orders c.sealed h.run
          (let own : c.sealed.order.replica ≡ k = c.own in let m : length h.opens.rest.orders ≡ k = h.many in omega (arith, own, m))

      many2 : length (h.opens.rest.orders ++ c.sealed ∷ []) ≡ suc k
      many2 =
          (let l : length (h.opens.rest.orders ++ c.sealed ∷ []) ≡ length h.opens.rest.orders + 1 =
          length-append h.opens.rest.orders (c.sealed ∷ []) in let m : length h.opens.rest.orders ≡ k = h.many in omega (arith, l, m))

      good2 : Each (IsGoodOrder course.fits s course.lists (Sealed course) []) (h.opens.rest.orders ++ c.sealed ∷ [])
      good2 = each_more (IsGoodOrder course.fits s course.lists (Sealed course) []) h.opens.rest.orders (c.sealed ∷ []) h.good (c.good, tt)

      order_is_kept : suc k < q → (o : Outcome) → o ≡ turn_of course.fits (course.gives L) st (Deliver e.from e.bytes) → OrderTurns k e o
      order_is_kept few o is =
          let same : o ≡ quiet (at L kept_rest h.opens.made h.opens.capacity) Done =
          is ∙ order_turn_is (at L h.opens.rest h.opens.made h.opens.capacity) h.opens.is
          ∙ order_kept course.fits (course.gives L) s course.plan.views L (course.lists L) [] 1 from_one one_view refl k h.opens.rest c.sealed
          (is_order h.opens.rest h.ask_cert) h.asked h.opens.made h.opens.capacity not_proposed h.run h.many
          (let m : length h.opens.rest.orders ≡ k = h.many in omega (arith, m, few)) in
          subst (OrderTurns k e) (sym same) (record {
            parts = order_parts;
            state = (
              (λ less. record {
                opens = record {
                  rest = kept_rest;
                  made = h.opens.made;
                  capacity = h.opens.capacity;
                  is = refl;
                  high = h.opens.high;
                  ordered_is = h.opens.ordered_is;
                  voted = h.opens.voted;
                  asked_low = h.opens.asked_low;
                  proposed_is = h.opens.proposed_is;
                  boxes = h.opens.boxes;
                  few_made = h.opens.few_made;
                  room = h.opens.room;
                };
                asked = h.asked;
                ask_cert = h.ask_cert;
                run = run2;
                many = many2;
                good = good2;
              }),
              (λ above. absurd (omega (arith, above, few))),
            );
            within = tt;
            at_last = λ now. absurd (omega (arith, now, few));
            else = λ other. refl;
          })

      abbrev first_block : Cert → Block
      first_block x = record { view = 1; cert = x; orders = h.opens.rest.orders ++ c.sealed ∷ [] }

      abbrev block_rest : Rest
      block_rest = record h.opens.rest { proposed = 1; orders = [] }

      abbrev proposing : Cert → Outcome
      proposing x = record {
        reported = reported (at L block_rest h.opens.made h.opens.capacity) Done (propose_spelling L (first_block x) ∷ [])
            (to_each (range_with_len 0 s.n)
            (message_spelling (sent.Propose L (first_block x) (course.gives L h.opens.made (propose_spelling L (first_block x))))));
        state = at L block_rest (h.opens.made + 1) h.opens.capacity;
      }

      first_made : suc k ≡ q → IsMade course.fits s course.lists (Sealed course) [] (first_block first_cert)
      first_made now = record {
        view = refl;
        cert_view = refl;
        cert_block = refl;
        good = refl;
        cert_written = first_written;
        cert_sealed = tt;
        count = omega (arith, now, many2);
        ascending = run2;
        orders = good2;
      }

      order_is_last : suc k ≡ q → (o : Outcome) → o ≡ turn_of course.fits (course.gives L) st (Deliver e.from e.bytes)
          → Has course L (Deliver e.from e.bytes) o.reported → OrderTurns k e o
      order_is_last now o is happened =
          let same : o ≡ proposing first_cert = is ∙ order_turn_is (at L h.opens.rest h.opens.made h.opens.capacity) h.opens.is
          ∙ order_last course.fits (course.gives L) s course.plan.views L (course.lists L) [] 1 from_one one_view refl k h.opens.rest c.sealed
          (is_order h.opens.rest h.ask_cert) h.asked h.opens.made h.opens.capacity not_proposed h.run h.many
          (let m : length h.opens.rest.orders ≡ k = h.many in omega (arith, m, now))
          (let m : h.opens.made ≤ 3 = h.opens.few_made in let x : 20 ≤ h.opens.capacity = h.opens.room in omega (arith, m, x))
          ∙ ap proposing h.ask_cert in
          subst (λ (x : Outcome). Has course L (Deliver e.from e.bytes) x.reported → OrderTurns k e x) (sym same)
          (λ happens. record {
            parts = order_parts;
            state = (
              (λ less. absurd (omega (arith, less, now))),
              (λ above. record {
                opens = record {
                  rest = block_rest;
                  made = h.opens.made + 1;
                  capacity = h.opens.capacity;
                  is = refl;
                  high = h.opens.high;
                  ordered_is = h.opens.ordered_is;
                  voted = h.opens.voted;
                  asked_low = h.opens.asked_low;
                  proposed_is = refl;
                  boxes = h.opens.boxes;
                  few_made = (let m : h.opens.made ≤ 3 = h.opens.few_made in omega (arith, m));
                  room = h.opens.room;
                };
                asked = h.asked;
                ask_cert = h.ask_cert;
              }),
            );
            within = each_within s.n _ 0 s.n (omega arith);
            at_last = λ x. proposes_all course rests [] (first_block first_cert) h.opens.made (omega arith) (first_made now)
                (sealed_by course L (Deliver e.from e.bytes) (proposing first_cert).reported 0 (propose_spelling L (first_block first_cert)) happens refl);
            else = λ other. absurd (other now);
          }) happened

  order_turn : (k : ℕ) (e : Envelope) (st : State) (o : Outcome)
      → k < s.n → Orders course k e → OrderCount k st → o ≡ turn_of course.fits (course.gives L) st (Deliver e.from e.bytes)
      → Has course L (Deliver e.from e.bytes) o.reported → OrderTurns k e o
  order_turn k e st o inside b c is happened = by (compared k q)
    where
      by : (suc k < q) ⊎ ((suc k ≡ q) ⊎ (q ≤ k)) → OrderTurns k e o
      by (inl few) = order_is_kept k e st b (c.0 (omega (arith, few))) few o is
      by (inr (inl now)) = order_is_last k e st b (c.0 (omega (arith, now))) now o is happened
      by (inr (inr following)) = order_is_late k e st b (c.1 following) following o is

  opens_ready : (ordered proposed most : ℕ) (j : ℕ) (st : State) → most ≤ 4 → Opens course ordered 1 proposed most j st → Ready course [] j st
  opens_ready ordered proposed most j st few o = record {
    rest = o.rest;
    made = o.made;
    capacity = o.capacity;
    is = o.is;
    high = (let is : o.rest.high.view ≡ 0 = ap (λ (x : Cert). x.view) o.high in omega (arith, is));
    voted = (let is : o.rest.voted ≡ 0 = o.voted in omega (arith, is));
    asked = o.asked_low;
    boxes = o.boxes;
    few_made = (let m : o.made ≤ most = o.few_made in omega (arith, m, few));
    room = o.room;
  }

  -- All orders are delivered to the leader, which proposes the first block.
  pub order_phase : (steps last : ℕ) → last ≤ 10 * s.n
      → ((v : World) → Going course (Ready course []) v → IsProposed course [] v.queue → v.turns ≡ last → Ends course steps v)
      → (w : World) → Going course (Asked course 1 0 3) w → Queue (Orders course) 0 s.n w.queue → w.turns + s.n ≡ last → Ends course (up s.n steps) w
  order_phase steps last few next w g queue turns =
      fan_in course L (rests.leader 1) q rests.wanted rests.few_wanted (Asked course 1 0 3) OrderCount (Orders course) (IsProposed course [])
      (λ i e b. b.to) order_turn steps last few
      (λ v gv out turns_v. next v (record {
        count = gv.count;
        each = λ j r found. (let both = gv.each j r found in (
          both.0,
          elim (cases_eq j L) [
            | inl same ↦ subst (λ (x : ℕ). Ready course [] x r.state) (sym same)
                (opens_ready 1 1 4 L r.state (omega arith) ((both.1.0 same).1 rests.few_wanted).opens)
            | inr other ↦ opens_ready 1 0 3 j r.state (omega arith) (both.1.1 other).opens
          ],
        ));
        ticks = gv.ticks;
        due = gv.due;
      }) out turns_v)
      w (record {
        count = g.count;
        each = λ j r found. (let both = g.each j r found in (
          both.0,
          (
            (λ same. (let a : Asked course 1 0 3 L r.state = subst (λ (x : ℕ). Asked course 1 0 3 x r.state) same both.1 in let lead = a.lead refl in (
              (λ less.
                  record {
                    opens = a.opens;
                    asked = lead.0;
                    ask_cert = lead.1;
                    run = subst (RunFrom orderer 0) (sym lead.2) tt;
                    many = ap length lead.2;
                    good = subst (Each (IsGoodOrder course.fits s course.lists (Sealed course) [])) (sym lead.2) tt;
                  }),
              (λ above. absurd (let x : 1 ≤ q = rests.wanted in omega (arith, above, x))),
            ))),
            (λ other. both.1),
          ),
        ));
        ticks = g.ticks;
        due = g.due;
      }) queue turns
