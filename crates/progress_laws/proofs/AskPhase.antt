-- All replicas are asked in view 1, and each draws its order.
use Rattle.std.proofs.Common.{◌≡◌, ℕ, ◌+◌, ◌*◌, ◌<◌, ◌≤◌, [], ◌∷◌, Result, refl, sym, ap, subst, ◌∙◌, arith}
use Rattle.std.specs.List.{AllByRecursion as Each}
use Rattle.std.specs.Result.{result_ok}
use Rattle.seq_base.specs.declared.kinds.TheConstants.{ASK}
use Rattle.seq_base.specs.declared.block.Cert.{Cert}
use Rattle.seq_base.specs.declared.order.LocalOrder.{LocalOrder}
use Rattle.seq_base.specs.declared.order.SealedOrder.{SealedOrder}
use Rattle.seq_base.specs.declared.message.Message.TheVariants as sent
use Rattle.seq_base.specs.declared.message.Outgoing.{Outgoing}
use Rattle.seq_base.specs.Blocks.{first_digest, first_cert}
use Rattle.seq_base.specs.Setting.{Parameters, leader_of}
use Rattle.seq_base.specs.Spelling.{order_spelling, message_spelling}
use Rattle.wire_view.specs.Views.{Call}
use Rattle.wire_view.specs.declared.fault.WireFault.{WireFault}
use Rattle.wire_view.specs.declared.messages.MessageView.{MessageView}
use Rattle.node_core.specs.declared.event.Event.TheVariants.{Deliver}
use Rattle.node_core.specs.declared.event.Reason.TheVariants.{Done}
use Rattle.node_core.specs.State.{State}
use Rattle.node_core.specs.Reported.{Outcome, reported}
use Rattle.node_core.specs.Turn.{turn_of, delivered}
use Rattle.node_core.specs.Ask.{on_ask}
use Rattle.replica_seat.specs.declared.seat.Envelope.{Envelope}
use Rattle.replay_run.specs.World.{World}
use Rattle.run_verdict.specs.Forged.{parts_in}
use Rattle.progress_laws.proofs.StateSummary.{Rest, standing, state_at, saw}
use Rattle.progress_laws.proofs.ProposeStep.{order_over}
use Rattle.progress_laws.proofs.CallSteps.{draws}
use Rattle.progress_laws.proofs.Messages.{IsGoodOrder, order_written}
use Rattle.progress_laws.proofs.Phases.{Queue, AreSealed, Ends, Going, OutTurn, fan_out, up, Course}
use Rattle.progress_laws.proofs.Underway.{Sealed, Has, sealed_by, Rests}
use Rattle.progress_laws.proofs.FirstView.{no_chain, from_one, higher_first, Asked, Asks, Orders, is_call}

module _ (course : Course) (rests : Rests course) where
  abbrev s : Parameters
  s = course.plan.setting

  abbrev L : ℕ
  L = leader_of s 1

  abbrev at : ℕ → Rest → ℕ → ℕ → State
  at i rest made capacity = state_at (standing s course.plan.views i (course.lists i) [] 1 rest) made capacity

  one_view : 1 ≤ course.plan.views
  one_view = (let v : 4 ≤ course.plan.views = rests.views in omega (arith, v))

  module _ (i : ℕ) (below : i < s.n) (e : Envelope) (st : State) (a : Asks course i e) (h : Asked course 0 0 2 i st) where
    abbrev asked_call : Call
    asked_call = record { kind = ASK; replica = L; view = 1; cert = first_cert; seal = a.seal }

    abbrev own_order : LocalOrder
    own_order = order_over s i 1 (course.lists i) [] first_digest

    abbrev own_sealed : SealedOrder
    own_sealed = record { order = own_order; seal = course.gives i h.opens.made (order_spelling own_order) }

    abbrev order_send : Outgoing
    order_send = record { to = L; bytes = message_spelling (sent.Order own_sealed) }

    abbrev drawn_rest : Rest
    drawn_rest = record (saw first_cert h.opens.rest) { ordered = 1 }

    abbrev drawing : Outcome
    drawing = record {
      reported = reported (at i drawn_rest h.opens.made h.opens.capacity) Done (order_spelling own_order ∷ []) (order_send ∷ []);
      state = at i drawn_rest (h.opens.made + 1) h.opens.capacity;
    }

    draws_so : turn_of course.fits (course.gives i) st (Deliver e.from e.bytes) ≡ drawing
    draws_so =
        ap (λ (r : Result MessageView WireFault). delivered course.fits (course.gives i) st e.from r) a.read
        ∙ ap (λ (y : State). on_ask course.fits (course.gives i) y e.from asked_call) h.opens.is
        ∙ ap (λ (y : ℕ). on_ask course.fits (course.gives i) (at i h.opens.rest h.opens.made h.opens.capacity) y asked_call) a.from
        ∙ draws course.fits (course.gives i) s course.plan.views i (course.lists i) [] no_chain 1 from_one one_view L asked_call
        (is_call course i 2 L a.seal a.seal_fits) refl h.opens.rest h.opens.made h.opens.capacity
        (let is : h.opens.rest.high.view ≡ 0 = ap (λ (x : Cert). x.view) h.opens.high in omega (arith, is))
        (let is : h.opens.rest.ordered ≡ 0 = h.opens.ordered_is in omega (arith, is))
        (let m : h.opens.made ≤ 2 = h.opens.few_made in let c : 20 ≤ h.opens.capacity = h.opens.room in omega (arith, m, c))

    ask_parts : AreSealed course (Deliver e.from e.bytes)
    ask_parts = subst (λ (r : Result MessageView WireFault). Each (Sealed course) (parts_in (result_ok r))) (sym a.read) (a.was_sealed, tt)

    module _ (happened : Has course i (Deliver e.from e.bytes) drawing.reported) where
      own_good : IsGoodOrder course.fits s course.lists (Sealed course) [] own_sealed
      own_good = record {
        below = below;
        drawn = refl;
        seal_fits = rests.fit i h.opens.made (order_spelling own_order) below;
        short = rests.short i h.opens.made (order_spelling own_order) below;
        was_sealed = sealed_by course i (Deliver e.from e.bytes) drawing.reported 0 (order_spelling own_order) happened refl;
      }

      draw_turn : OutTurn course (Asked course 0 0 2) (Asked course 1 0 3) (Asks course) (Orders course) i e drawing
      draw_turn = record {
        parts = ask_parts;
        state = record {
          opens = record {
            rest = drawn_rest;
            made = h.opens.made + 1;
            capacity = h.opens.capacity;
            is = refl;
            high = higher_first h.opens.rest.high h.opens.high;
            ordered_is = refl;
            voted = h.opens.voted;
            asked_low = h.opens.asked_low;
            proposed_is = h.opens.proposed_is;
            boxes = h.opens.boxes;
            few_made = (let m : h.opens.made ≤ 2 = h.opens.few_made in omega (arith, m));
            room = h.opens.room;
          };
          lead = h.lead;
        };
        send = order_send;
        sends = refl;
        within = rests.leader 1;
        sent = record {
          from = refl;
          to = refl;
          sealed = own_sealed;
          read = rests.reads (sent.Order own_sealed)
              (order_written course.fits s course.lists (Sealed course) [] rests.small rests.proper (omega arith) own_sealed own_good);
          own = refl;
          good = own_good;
        };
      }

  ask_turn : (i : ℕ) (e : Envelope) (st : State) (o : Outcome) → i < s.n → Asks course i e → Asked course 0 0 2 i st
      → o ≡ turn_of course.fits (course.gives i) st (Deliver e.from e.bytes) → Has course i (Deliver e.from e.bytes) o.reported
      → OutTurn course (Asked course 0 0 2) (Asked course 1 0 3) (Asks course) (Orders course) i e o
  ask_turn i e st o below a h is happened =
      subst (λ (x : Outcome). Has course i (Deliver e.from e.bytes) x.reported
      → OutTurn course (Asked course 0 0 2) (Asked course 1 0 3) (Asks course) (Orders course) i e x)
      (sym (is ∙ draws_so i below e st a h)) (draw_turn i below e st a h) happened

  -- All are asked and send their orders.
  pub ask_phase : (steps last : ℕ) → last ≤ 10 * s.n
      → ((v : World) → Going course (Asked course 1 0 3) v → Queue (Orders course) 0 s.n v.queue → v.turns ≡ last → Ends course steps v)
      → (w : World) → Going course (Asked course 0 0 2) w → Queue (Asks course) 0 s.n w.queue → w.turns + s.n ≡ last → Ends course (up s.n steps) w
  ask_phase steps last few next =
      fan_out course (Asked course 0 0 2) (Asked course 1 0 3) (Asks course) (Orders course) (λ i e a. a.to_is) ask_turn steps last few next
