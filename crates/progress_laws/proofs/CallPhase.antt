-- All calls for view 1 are delivered to its leader, which asks for orders.
use Rattle.std.proofs.Common.{◌≡◌, ℕ, suc, ◌+◌, ◌*◌, ◌<◌, ◌≤◌, List, [], ◌∷◌, ◌++◌, length, Result, refl, sym, ap, subst, ◌∙◌, inl, inr, ◌⊎◌, arith, length-append}
use Rattle.std.specs.List.{AllByRecursion as Each, range_with_len}
use Rattle.std.specs.Result.{result_ok}
use Rattle.seq_base.specs.declared.kinds.TheConstants.{NEW_VIEW, ASK}
use Rattle.seq_base.specs.declared.block.Cert.{Cert}
use Rattle.seq_base.specs.declared.message.Message.TheVariants as sent
use Rattle.seq_base.specs.Blocks.{first_cert}
use Rattle.seq_base.specs.Setting.{Parameters, leader_of, quorum_of}
use Rattle.seq_base.specs.Spelling.{call_spelling, message_spelling}
use Rattle.seq_base.specs.Writable.{IsWritable}
use Rattle.wire_view.specs.Views.{Call}
use Rattle.wire_view.specs.declared.fault.WireFault.{WireFault}
use Rattle.wire_view.specs.declared.messages.MessageView.{MessageView}
use Rattle.node_core.specs.declared.event.Event.TheVariants.{Deliver}
use Rattle.node_core.specs.declared.event.Reason.TheVariants.{Done, OldView}
use Rattle.node_core.specs.State.{State}
use Rattle.node_core.specs.Reported.{Outcome, reported, quiet, to_each}
use Rattle.node_core.specs.Turn.{turn_of, delivered}
use Rattle.node_core.specs.NewView.{on_new_view}
use Rattle.replica_seat.specs.declared.seat.Envelope.{Envelope}
use Rattle.replay_run.specs.World.{World}
use Rattle.run_verdict.specs.Forged.{parts_in}
use Rattle.progress_laws.proofs.StateSummary.{Rest, standing, state_at, saw}
use Rattle.progress_laws.proofs.CallSteps.{AreCalls, calls_more, IsCall, call_late, call_kept, call_last}
use Rattle.progress_laws.proofs.Phases.{Queue, AreSealed, Ends, Going, InTurn, fan_in, up, compared, Course}
use Rattle.progress_laws.proofs.Underway.{Sealed, Has, sealed_by, Rests}
use Rattle.progress_laws.proofs.VotePhase.{each_gets, each_within}
use Rattle.std.proofs.lemmas.Bool.{cases_eq}
use Rattle.progress_laws.proofs.FirstView.{no_chain, from_one, higher_first, first_written, Opens, Asked, Called, Calls, Asks, is_call}

module _ (course : Course) (rests : Rests course) where
  abbrev s : Parameters
  s = course.plan.setting

  abbrev L : ℕ
  L = leader_of s 1

  abbrev q : ℕ
  q = quorum_of s

  abbrev at : ℕ → Rest → ℕ → ℕ → State
  at i rest made capacity = state_at (standing s course.plan.views i (course.lists i) [] 1 rest) made capacity

  one_view : 1 ≤ course.plan.views
  one_view = (let v : 4 ≤ course.plan.views = rests.views in omega (arith, v))

  pub record CallsKept (k : ℕ) (st : State) : Type 0 where
    pub opens : Opens course 0 0 0 1 L st
    pub calls : AreCalls 1 0 opens.rest.gathered
    pub many : length opens.rest.gathered ≡ k

  abbrev CallCount : ℕ → State → Type 0
  CallCount k st = (k < q → CallsKept k st) × (q ≤ k → Asked course 0 0 2 L st)

  abbrev CallTurns : ℕ → Envelope → Outcome → Type 0
  CallTurns = InTurn course L (rests.leader 1) q rests.wanted rests.few_wanted (Called course) CallCount (Calls course) (Queue (Asks course) 0 s.n)

  module _ (k : ℕ) (e : Envelope) (st : State) (c : Calls course k e) where
    abbrev call : Call
    call = record { kind = NEW_VIEW; replica = k; view = 1; cert = first_cert; seal = c.seal }

    call_parts : AreSealed course (Deliver e.from e.bytes)
    call_parts = subst (λ (r : Result MessageView WireFault). Each (Sealed course) (parts_in (result_ok r))) (sym c.read) (c.was_sealed, tt)

    call_turn_is : (x : State) → st ≡ x → turn_of course.fits (course.gives L) st (Deliver e.from e.bytes) ≡ on_new_view course.fits (course.gives L) x k call
    call_turn_is x is =
        ap (λ (r : Result MessageView WireFault). delivered course.fits (course.gives L) st e.from r) c.read
        ∙ ap (λ (y : State). on_new_view course.fits (course.gives L) y e.from call) is
        ∙ ap (λ (y : ℕ). on_new_view course.fits (course.gives L) x y call) c.from

    abbrev this : IsCall course.fits (course.gives L) s course.plan.views L (course.lists L) [] no_chain 1 k 1 call
    this = is_call course L 1 k c.seal c.seal_fits

    call_is_late : Asked course 0 0 2 L st → q ≤ k → (o : Outcome) → o ≡ turn_of course.fits (course.gives L) st (Deliver e.from e.bytes) → CallTurns k e o
    call_is_late h following o is =
        let r : Rest = h.opens.rest in
        let same : o ≡ quiet (at L r h.opens.made h.opens.capacity) OldView = is ∙ call_turn_is (at L r h.opens.made h.opens.capacity) h.opens.is
        ∙ call_late course.fits (course.gives L) s course.plan.views L
        (course.lists L) [] no_chain 1 from_one one_view k call this refl r h.opens.made h.opens.capacity (h.lead refl).0 in
        subst (CallTurns k e) (sym same) (record {
          parts = call_parts;
          state = ((λ less. absurd (omega (arith, less, following))), (λ above. subst (Asked course 0 0 2 L) h.opens.is h));
          within = tt;
          at_last = λ now. absurd (omega (arith, now, following));
          else = λ other. refl;
        })

    module _ (h : CallsKept k st) where
      abbrev rest : Rest
      rest = h.opens.rest

      abbrev rest2 : Rest
      rest2 = record (saw first_cert rest) { gathered = rest.gathered ++ record { view = 1; replica = k } ∷ [] }

      high_low : rest.high.view ≤ 0
      high_low = (let is : rest.high.view ≡ 0 = ap (λ (x : Cert). x.view) h.opens.high in omega (arith, is))

      not_asked : rest.asked < 1
      not_asked = (let a : rest.asked ≤ 0 = h.opens.asked_low in omega (arith, a))

      abbrev opens2 : Opens course 0 0 0 1 L (at L rest2 h.opens.made h.opens.capacity)
      opens2 = record {
        rest = rest2;
        made = h.opens.made;
        capacity = h.opens.capacity;
        is = refl;
        high = higher_first rest.high h.opens.high;
        ordered_is = h.opens.ordered_is;
        voted = h.opens.voted;
        asked_low = h.opens.asked_low;
        proposed_is = h.opens.proposed_is;
        boxes = h.opens.boxes;
        few_made = h.opens.few_made;
        room = h.opens.room;
      }

      call_is_kept : suc k < q → (o : Outcome) → o ≡ turn_of course.fits (course.gives L) st (Deliver e.from e.bytes) → CallTurns k e o
      call_is_kept few o is =
          let same : o ≡ quiet (at L rest2 h.opens.made h.opens.capacity) Done = is ∙ call_turn_is (at L rest h.opens.made h.opens.capacity) h.opens.is
          ∙ call_kept course.fits (course.gives L) s course.plan.views L (course.lists L) [] no_chain 1 from_one one_view k call this refl
          rest h.opens.made h.opens.capacity high_low not_asked h.calls h.many
          (let m : length rest.gathered ≡ k = h.many in omega (arith, m, few)) in
          subst (CallTurns k e) (sym same) (record {
            parts = call_parts;
            state = (
              (λ less. record {
                opens = opens2;
                calls = calls_more 1 0 rest.gathered k h.calls (let m : length rest.gathered ≡ k = h.many in omega (arith, m));
                many =
                    (let l : length (rest.gathered ++ record { view = 1; replica = k } ∷ []) ≡ length rest.gathered + 1 =
                    length-append rest.gathered (record { view = 1; replica = k } ∷ []) in
                    let m : length rest.gathered ≡ k = h.many in omega (arith, m, l));
              }),
              (λ above. absurd (omega (arith, above, few))),
            );
            within = tt;
            at_last = λ now. absurd (omega (arith, now, few));
            else = λ other. refl;
          })

      abbrev rest3 : Cert → Rest
      rest3 c = record rest2 { asked = 1; ask_cert = c; orders = [] }

      abbrev ask_seal : Cert → List ℕ
      ask_seal c = course.gives L h.opens.made (call_spelling ASK L 1 c)

      abbrev asking : Cert → Outcome
      asking c = record {
        reported = reported (at L (rest3 c) h.opens.made h.opens.capacity) Done (call_spelling ASK L 1 c ∷ [])
            (to_each (range_with_len 0 s.n) (message_spelling (sent.Ask L 1 c (ask_seal c))));
        state = at L (rest3 c) (h.opens.made + 1) h.opens.capacity;
      }

      ask_written : IsWritable (sent.Ask L 1 first_cert (ask_seal first_cert))
      ask_written = (
        record {
          named = (let below : L < s.n = rests.leader 1 in let few : s.n ≤ 16 = rests.small in omega (arith, below, few));
          sealed = rests.short L h.opens.made (call_spelling ASK L 1 first_cert) (rests.leader 1);
        },
        omega arith,
        first_written,
      )

      call_is_last : suc k ≡ q → (o : Outcome) → o ≡ turn_of course.fits (course.gives L) st (Deliver e.from e.bytes)
          → Has course L (Deliver e.from e.bytes) o.reported → CallTurns k e o
      call_is_last now o is happened =
          let same : o ≡ asking first_cert = is ∙ call_turn_is (at L rest h.opens.made h.opens.capacity) h.opens.is
          ∙ call_last course.fits (course.gives L) s course.plan.views L (course.lists L) [] no_chain 1 from_one one_view k call this refl
          rest h.opens.made h.opens.capacity high_low not_asked h.calls h.many
          (let m : length rest.gathered ≡ k = h.many in omega (arith, m, now))
          (let m : h.opens.made ≤ 1 = h.opens.few_made in let c : 20 ≤ h.opens.capacity = h.opens.room in omega (arith, m, c))
          ∙ ap asking (higher_first rest.high h.opens.high) in
          subst (λ (x : Outcome). Has course L (Deliver e.from e.bytes) x.reported → CallTurns k e x) (sym same)
          (λ happens. record {
            parts = call_parts;
            state = (
              (λ less. absurd (omega (arith, less, now))),
              (λ above. record {
                opens = record {
                  rest = rest3 first_cert;
                  made = h.opens.made + 1;
                  capacity = h.opens.capacity;
                  is = refl;
                  high = higher_first rest.high h.opens.high;
                  ordered_is = h.opens.ordered_is;
                  voted = h.opens.voted;
                  asked_low = omega arith;
                  proposed_is = h.opens.proposed_is;
                  boxes = h.opens.boxes;
                  few_made = (let m : h.opens.made ≤ 1 = h.opens.few_made in omega (arith, m));
                  room = h.opens.room;
                };
                lead = λ same. (refl, refl, refl);
              }),
            );
            within = each_within s.n _ 0 s.n (omega arith);
            at_last = λ x. each_gets (Asks course) L (message_spelling (sent.Ask L 1 first_cert (ask_seal first_cert))) 0 s.n (λ j inside. record {
              from = refl;
              to_is = refl;
              seal = ask_seal first_cert;
              read = rests.reads (sent.Ask L 1 first_cert (ask_seal first_cert)) ask_written;
              seal_fits = rests.fit L h.opens.made (call_spelling ASK L 1 first_cert) (rests.leader 1);
              was_sealed = sealed_by course L (Deliver e.from e.bytes) (asking first_cert).reported 0 (call_spelling ASK L 1 first_cert) happens refl;
            });
            else = λ other. absurd (other now);
          }) happened

  call_turn : (k : ℕ) (e : Envelope) (st : State) (o : Outcome)
      → k < s.n → Calls course k e → CallCount k st → o ≡ turn_of course.fits (course.gives L) st (Deliver e.from e.bytes)
      → Has course L (Deliver e.from e.bytes) o.reported → CallTurns k e o
  call_turn k e st o inside b c is happened = by (compared k q)
    where
      by : (suc k < q) ⊎ ((suc k ≡ q) ⊎ (q ≤ k)) → CallTurns k e o
      by (inl few) = call_is_kept k e st b (c.0 (omega (arith, few))) few o is
      by (inr (inl now)) = call_is_last k e st b (c.0 (omega (arith, now))) now o is happened
      by (inr (inr following)) = call_is_late k e st b (c.1 following) following o is

  called_asked : (j : ℕ) (st : State) → (j ≡ L → ⊥) → Called course j st → Asked course 0 0 2 j st
  called_asked j st other c = record {
    opens = record {
      rest = c.opens.rest;
      made = c.opens.made;
      capacity = c.opens.capacity;
      is = c.opens.is;
      high = c.opens.high;
      ordered_is = c.opens.ordered_is;
      voted = c.opens.voted;
      asked_low = (let a : c.opens.rest.asked ≤ 0 = c.opens.asked_low in omega (arith, a));
      proposed_is = c.opens.proposed_is;
      boxes = c.opens.boxes;
      few_made = (let m : c.opens.made ≤ 1 = c.opens.few_made in omega (arith, m));
      room = c.opens.room;
    };
    lead = λ same. absurd (other same);
  }

  -- All calls are delivered to the leader, which asks.
  pub call_phase : (steps last : ℕ) → last ≤ 10 * s.n
      → ((v : World) → Going course (Asked course 0 0 2) v → Queue (Asks course) 0 s.n v.queue → v.turns ≡ last → Ends course steps v)
      → (w : World) → Going course (Called course) w → Queue (Calls course) 0 s.n w.queue → w.turns + s.n ≡ last → Ends course (up s.n steps) w
  call_phase steps last few next w g queue turns =
      fan_in course L (rests.leader 1) q rests.wanted rests.few_wanted (Called course) CallCount (Calls course) (Queue (Asks course) 0 s.n)
      (λ i e b. b.to_is) call_turn steps last few
      (λ v gv out turns_v. next v (record {
        count = gv.count;
        each = λ j r found. (let both = gv.each j r found in (
          both.0,
          elim (cases_eq j L) [
            | inl same ↦ subst (λ (x : ℕ). Asked course 0 0 2 x r.state) (sym same) ((both.1.0 same).1 rests.few_wanted)
            | inr other ↦ called_asked j r.state other (both.1.1 other)
          ],
        ));
        ticks = gv.ticks;
        due = gv.due;
      }) out turns_v)
      w (record {
        count = g.count;
        each = λ j r found. (let both = g.each j r found in (
          both.0,
          (
            (λ same. (let c : Called course L r.state = subst (λ (x : ℕ). Called course x r.state) same both.1 in (
              (λ less. record { opens = c.opens; calls = subst (AreCalls 1 0) (sym c.none) tt; many = ap length c.none }),
              (λ above. absurd (let x : 1 ≤ q = rests.wanted in omega (arith, above, x))),
            ))),
            (λ other. both.1),
          ),
        ));
        ticks = g.ticks;
        due = g.due;
      }) queue turns
