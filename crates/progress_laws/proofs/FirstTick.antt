-- The first step of a clean run: nothing is done, and each replica has a tick and calls for view 1.
use Rattle.std.proofs.Common.{◌≡◌, ℕ, zero, suc, ◌+◌, ◌<◌, ◌≤◌, List, [], ◌∷◌, ◌++◌, length, map, Bool, true, false, Option, Some, None, refl, sym, ap, subst, ◌∙◌, arith}
use Rattle.std.specs.Prelude.{All, max, slice_get, ◌||◌, if◌then◌else◌}
use Rattle.std.specs.List.{list_all, range_with_len}
use Rattle.std.specs.Option.{option_map_or}
use Rattle.std.proofs.lemmas.Option.{slice_get_within}
use Rattle.seq_base.specs.declared.kinds.TheConstants.{NEW_VIEW}
use Rattle.seq_base.specs.declared.tx.Tx.{Tx}
use Rattle.seq_base.specs.declared.message.Message.TheVariants as sent
use Rattle.seq_base.specs.declared.message.Outgoing.{Outgoing}
use Rattle.seq_base.specs.Blocks.{first_cert}
use Rattle.seq_base.specs.Setting.{Parameters, leader_of}
use Rattle.seq_base.specs.Spelling.{call_spelling, message_spelling}
use Rattle.seq_base.specs.Writable.{IsWritable}
use Rattle.count_set.specs.Sets.{is_among}
use Rattle.run_record.specs.Done.{hold_all}
use Rattle.node_core.specs.declared.event.Event.TheVariants.{Tick}
use Rattle.node_core.specs.declared.event.Reason.TheVariants.{Done}
use Rattle.node_core.specs.declared.entry.Entry.{Entry}
use Rattle.chain_store.specs.Chains.{chain_state_of}
use Rattle.node_core.specs.State.{State}
use Rattle.node_core.specs.Reported.{Gives, Outcome, reported}
use Rattle.node_core.specs.Turn.{turn_of}
use Rattle.replica_seat.specs.declared.seat.Envelope.{Envelope}
use Rattle.replica_seat.specs.Feed.{timed_for, txs_of}
use Rattle.replica_seat.specs.Seats.{Replica, holds_due}
use Rattle.replay_run.specs.World.{World}
use Rattle.replica_seat.specs.Acting.{Way, way, sent_all}
use Rattle.replay_run.specs.Acting.{event_at}
use Rattle.replay_run.specs.Step.{everyone, give_arrivals, has_all_due, holds_due_at, replica_view, floor_of, floor_over, ticked_over, tick_all, advanced, step, going_on}
use Rattle.progress_laws.proofs.StateSummary.{standing, state_at, le_no}
use Rattle.progress_laws.proofs.CallSteps.{ticks}
use Rattle.progress_laws.proofs.Worlds.{envelope, following, event_is, Grew, grew_on, grew_ticks}
use Rattle.progress_laws.proofs.Phases.{Queue, queue_more, Happened, Going, Course}
use Rattle.progress_laws.proofs.Underway.{sealed_by, Rests}
use Rattle.progress_laws.proofs.FirstView.{no_chain, first_written, Called, Calls}
use Rattle.round_rules.proofs.Places.{found_at, get_set}
use Rattle.progress_laws.proofs.Items.{get_mid}
use Rattle.progress_laws.proofs.InitialSteps.{rest0, Fresh, Grounds, Evented, event_on, HasHad, all_given}

module _ (course : Course) where
  abbrev s : Parameters
  s = course.plan.setting

  some_wanted : (i : ℕ) → 1 ≤ length course.due → holds_due course.due (standing s course.plan.views i (course.lists i) [] 0 rest0) ≡ false
  unfolding holds_due chain_state_of
  some_wanted i wanted = by course.due wanted
    where
      by : (due : List Tx) → 1 ≤ length due → hold_all [] due ≡ false
      by [] none = absurd (omega (arith, none))
      by (t ∷ ts) some = refl

  wants_at : (v : World) → Grounds course (HasHad course s.n) 0 v → 1 ≤ length course.due → 1 ≤ s.n → holds_due_at v 0 ≡ false
  wants_at v g wanted some_n = by (slice_get v.replicas 0) refl
    where
      by : (o : Option Replica) → slice_get v.replicas 0 ≡ o → option_map_or (λ r. holds_due v.due r.state.known) o true ≡ false
      by None is = absurd (let (x, found) = found_at v.replicas 0 (omega (arith, some_n, g.count)) in let never : None ≡ Some x = sym is ∙ found in cc)
      by (Some r) is =
          let fresh : Fresh course (course.lists 0) 0 r.state = ((g.each 0 r is).1.0 (omega (arith, some_n))).1 in
          ap (λ (due : List Tx). holds_due due r.state.known) g.due ∙ ap (λ (st : State). holds_due course.due st.known) fresh.is ∙ some_wanted 0 wanted

  not_done : (v : World) → Grounds course (HasHad course s.n) 0 v → 1 ≤ length course.due → 1 ≤ s.n → has_all_due course.plan v ≡ false
  unfolding has_all_due
  not_done v g wanted some_n = by s.n some_n
    where
      first : (is_among course.plan.faulty 0 || holds_due_at v 0) ≡ false
      first = rw course.faulty (wants_at v g wanted some_n)

      by : (n : ℕ) → 1 ≤ n → list_all (λ at. is_among course.plan.faulty at || holds_due_at v at) (range_with_len 0 n) ≡ false
      by zero none = absurd (omega (arith, none))
      by (suc m) some = rw first

  -- ---- ticks

  -- the world after the ticks
  abbrev pub after_ticks : World → World
  after_ticks w = tick_all course.fits course.plan
      (record (give_arrivals course.fits course.plan w) { ticks = (give_arrivals course.fits course.plan w).ticks + 1 })

  no_view : (v : World) → Grounds course (HasHad course s.n) 0 v → (at : ℕ) → replica_view v at ≡ 0
  no_view v g at = by (slice_get v.replicas at) refl
    where
      by : (o : Option Replica) → slice_get v.replicas at ≡ o → option_map_or (λ r. r.state.known.view) o 0 ≡ 0
      by None is = refl
      by (Some r) is = (
          let inside : at < length v.replicas = slice_get_within v.replicas at r is in
          let fresh : Fresh course (course.lists at) at r.state = ((g.each at r is).1.0 (omega (arith, inside, g.count))).1 in
          ap (λ (st : State). st.known.view) fresh.is
          )

  floor_from : (w : World) → ((at : ℕ) → replica_view w at ≡ 0) → (xs : List ℕ) → floor_over course.plan w 0 xs ≡ 0
  floor_from w none [] = refl
  floor_from w none (x ∷ xs) = ap (λ (y : ℕ). floor_over course.plan w y xs) (by (is_among course.plan.faulty x)) ∙ floor_from w none xs
    where
      by : (t : Bool) → (if t then 0 else max (replica_view w x) 0) ≡ 0
      by true = refl
      by false = rw (none x)

  module _ (rests : Rests course) where
    abbrev HasCalled : ℕ → State → Type 0
    HasCalled = Called course

    abbrev OnWay : ℕ → Envelope → Type 0
    OnWay = Calls course

    abbrev HasTicked : ℕ → ℕ → Replica → Type 0
    HasTicked k i r = (r.feed.left ≡ []) × (i < k → HasCalled i r.state) × (k ≤ i → Fresh course (course.lists i) i r.state)

    module _ (w : World) (k : ℕ) (inside : k < s.n) (g : Grounds course (HasTicked k) 1 w) (queue : Queue OnWay 0 k w.queue)
        (grew : Grew (event_at course.fits course.plan w k (Tick 0)) course.last) where
      abbrev Ticked : World → Type 0
      Ticked v = Grounds course (HasTicked (suc k)) 1 v × Queue OnWay 0 (suc k) v.queue

      module _ (r : Replica) (found : slice_get w.replicas k ≡ Some r) where
        fresh : Fresh course (course.lists k) k r.state
        fresh = (g.each k r found).1.2 (omega arith)

        abbrev seal : List ℕ
        seal = course.gives k 0 (call_spelling NEW_VIEW k 1 first_cert)

        abbrev send : Outgoing
        send = record { to = leader_of s 1; bytes = message_spelling (sent.NewView k 1 first_cert seal) }

        abbrev called : ℕ → Outcome
        called capacity = record {
          reported = reported (state_at (standing s course.plan.views k (course.lists k) [] 1 rest0) 0 capacity) Done
              (call_spelling NEW_VIEW k 1 first_cert ∷ []) (send ∷ []);
          state = state_at (standing s course.plan.views k (course.lists k) [] 1 rest0) 1 capacity;
        }

        tick_is : turn_of course.fits r.gives r.state (Tick 0) ≡ called fresh.capacity
        tick_is =
            ap (λ (gs : Gives). turn_of course.fits gs r.state (Tick 0)) (g.each k r found).0.gives_is
            ∙ ap (λ (st : State). turn_of course.fits (course.gives k) st (Tick 0)) fresh.is
            ∙ ticks course.fits (course.gives k) s course.plan.views k (course.lists k) [] no_chain 0 0 rest0 0 fresh.capacity (omega arith)
            (let v : 4 ≤ course.plan.views = rests.views in omega (arith, v)) (let c : 20 ≤ fresh.capacity = fresh.room in omega (arith, c))

        evented : Evented course (HasTicked (suc k)) k r (Tick 0) (called fresh.capacity)
        evented = record {
          parts = tt;
          within = (rests.leader 1, tt);
          state = λ links. (
            (g.each k r found).1.0,
            (λ below. record {
              opens = record {
                rest = rest0;
                made = 1;
                capacity = fresh.capacity;
                is = refl;
                high = refl;
                ordered_is = refl;
                voted = refl;
                asked_low = omega arith;
                proposed_is = refl;
                boxes = refl;
                few_made = omega arith;
                room = fresh.room;
              };
              none = refl;
            }),
            (λ above. absurd (omega (arith, above))),
          );
        }

        after_tick : Grounds course (HasTicked (suc k)) 1 (event_at course.fits course.plan w k (Tick 0))
            × ((event_at course.fits course.plan w k (Tick 0)).queue
            ≡ w.queue ++ map (envelope k) (turn_of course.fits r.gives r.state (Tick 0)).reported.sends)
        after_tick = event_on course (HasTicked k) (HasTicked (suc k)) 1 w k (Tick 0) r g found
            (subst (Evented course (HasTicked (suc k)) k r (Tick 0)) (sym tick_is) evented)
            (λ j x other p. (p.0, (λ below. p.1 (omega (arith, below, (λ (same : k ≡ j). other same)))), (λ above. p.2 (omega (arith, above)))))

        happened : Happened course k (Tick 0) (called fresh.capacity).reported
        happened =
            let o : Outcome = turn_of course.fits r.gives r.state (Tick 0) in
            let passed : Way = sent_all k (way r.links w.queue) o.reported.sends in
            let new : Replica = following r (Tick 0) o passed.links in
            let there : slice_get (event_at course.fits course.plan w k (Tick 0)).replicas k ≡ Some new =
            ap (λ (x : World). slice_get x.replicas k) (event_is course.fits course.plan course.faulty w k (Tick 0) r found)
            ∙ get_set w.replicas k new r found in
            let (x, more, at_F, journal) = grew.each k new there in
            record {
              replica = x;
              found = at_F;
              place = length r.journal;
              entry = ap (λ (es : List Entry). slice_get es (length r.journal)) journal
                  ∙ get_mid r.journal (record { event = Tick 0; turned = o.reported }) more
                  ∙ ap (λ (y : Outcome). Some (record { event = Tick 0; turned = y.reported })) tick_is;
            }

        written : IsWritable (sent.NewView k 1 first_cert seal)
        written = (
          record {
            named = (let few : s.n ≤ 16 = rests.small in omega (arith, inside, few));
            sealed = rests.short k 0 (call_spelling NEW_VIEW k 1 first_cert) inside;
          },
          omega arith,
          first_written,
        )

        on_way : OnWay k (envelope k send)
        on_way = record {
          from = refl;
          to_is = refl;
          seal = seal;
          read = rests.reads (sent.NewView k 1 first_cert seal) written;
          seal_fits = rests.fit k 0 (call_spelling NEW_VIEW k 1 first_cert) inside;
          was_sealed = sealed_by course k (Tick 0) (called fresh.capacity).reported 0 (call_spelling NEW_VIEW k 1 first_cert) happened refl;
        }

        ticked_at : Ticked (event_at course.fits course.plan w k (Tick 0))
        ticked_at =
            let queue_is : (event_at course.fits course.plan w k (Tick 0)).queue ≡ w.queue ++ envelope k send ∷ [] =
            after_tick.1 ∙ ap (λ (y : Outcome). w.queue ++ map (envelope k) y.reported.sends) tick_is in (
              after_tick.0,
              subst (Queue OnWay 0 (suc k)) (sym queue_is)
                  (queue_more OnWay 0 k w.queue (envelope k send) queue (let same : 0 + k ≡ k = omega arith in rw same on_way)),
            )

      ticked_one : Ticked (event_at course.fits course.plan w k (Tick 0))
      ticked_one = (let (r, found) = found_at w.replicas k (omega (arith, inside, g.count)) in ticked_at r found)

    ticked_from : (m k : ℕ) → k + m ≡ s.n → (w : World) → Grounds course (HasTicked k) 1 w → Queue OnWay 0 k w.queue
        → Grew (ticked_over course.fits course.plan 0 w (range_with_len k m)) course.last
        → Grounds course (HasTicked s.n) 1 (ticked_over course.fits course.plan 0 w (range_with_len k m))
        × Queue OnWay 0 s.n (ticked_over course.fits course.plan 0 w (range_with_len k m)).queue
    ticked_from zero k all w g queue grew =
        (let is_n : k ≡ s.n = omega (arith, all) in
        (subst (λ (x : ℕ). Grounds course (HasTicked x) 1 w) is_n g, subst (λ (x : ℕ). Queue OnWay 0 x w.queue) is_n queue))
    ticked_from (suc m) k all w g queue grew =
        let one = ticked_one w k (omega (arith, all)) g queue (grew_on (event_at course.fits course.plan w k (Tick 0)) _ course.last
        (grew_ticks course.fits course.plan course.faulty 0 (event_at course.fits course.plan w k (Tick 0)) (range_with_len (k + 1) m)) grew) in
        let same : k + 1 ≡ suc k = omega arith in
        let rest : Grew (ticked_over course.fits course.plan 0 (event_at course.fits course.plan w k (Tick 0)) (range_with_len (suc k) m))
        course.last = rw same at grew in
        rw same (ticked_from m (suc k) (omega (arith, all)) (event_at course.fits course.plan w k (Tick 0)) one.0 one.1 rest)

    had_ticked : (v : World) → Grounds course (HasHad course s.n) 0 v → Grounds course (HasTicked 0) 1 (record v { ticks = v.ticks + 1 })
    had_ticked v g = record {
      count = g.count;
      each = λ i r found. (
          let inside : i < length v.replicas = slice_get_within v.replicas i r found in
          let both = g.each i r found in
          let had = both.1.0 (omega (arith, inside, g.count)) in
          (both.0, (had.0, (λ below. absurd (omega (arith, below))), (λ above. had.1)))
          );
      turns = g.turns;
      ticks_are = ap (λ (x : ℕ). x + 1) g.ticks_are;
      due = g.due;
    }

    -- ---- the first step

    module _ (at_once : (r : ℕ) → r < s.n → All (λ t. t.turn ≡ 0) (timed_for course.plan r))
        (listed : (r : ℕ) → course.lists r ≡ txs_of (timed_for course.plan r)) (some : (r : ℕ) → r < s.n → 1 ≤ length (course.lists r)) where
      pub first_step : 1 ≤ course.plan.ticks → 1 ≤ length course.due → (w : World) → Grounds course (HasHad course 0) 0 w → w.queue ≡ []
          → step course.fits course.plan w ≡ going_on (after_ticks w)
      unfolding step advanced
      first_step ticks_some wanted w g empty =
          let v : World = give_arrivals course.fits course.plan w in
          let given : Grounds course (HasHad course s.n) 0 v × (v.queue ≡ []) = all_given course at_once listed some w g empty in
          rw (
            not_done v given.0 wanted rests.some,
            le_no course.plan.turns v.turns (let t : v.turns ≡ 0 = given.0.turns in let x : 1 ≤ s.n = rests.some in omega (arith, t, x, course.enough)),
            given.1,
            le_no course.plan.ticks v.ticks (let t : v.ticks ≡ 0 = given.0.ticks_are in omega (arith, t, ticks_some)),
          )

      pub all_called : 1 ≤ length course.due → (w : World) → Grounds course (HasHad course 0) 0 w → w.queue ≡ [] → Grew (after_ticks w) course.last
          → Going course HasCalled (after_ticks w) × Queue OnWay 0 s.n (after_ticks w).queue × ((after_ticks w).turns ≡ 0)
      unfolding tick_all floor_of
      all_called wanted w g empty grew =
          let v : World = give_arrivals course.fits course.plan w in
          let given : Grounds course (HasHad course s.n) 0 v × (v.queue ≡ []) = all_given course at_once listed some w g empty in
          let v1 : World = record v { ticks = v.ticks + 1 } in
          let floor : floor_over course.plan v1 0 (everyone course.plan) ≡ 0 = floor_from v1 (λ at. no_view v given.0 at) (everyone course.plan) in
          let grew0 : Grew (ticked_over course.fits course.plan 0 v1 (everyone course.plan)) course.last =
          subst (λ (x : ℕ). Grew (ticked_over course.fits course.plan x v1 (everyone course.plan)) course.last) floor grew in
          let all = ticked_from s.n 0 (omega arith) v1 (had_ticked v given.0) (subst (Queue OnWay 0 0) (sym given.1) tt) grew0 in
          subst (λ (x : ℕ). Going course HasCalled (ticked_over course.fits course.plan x v1 (everyone course.plan))
          × Queue OnWay 0 s.n (ticked_over course.fits course.plan x v1 (everyone course.plan)).queue
          × ((ticked_over course.fits course.plan x v1 (everyone course.plan)).turns ≡ 0)) (sym floor) (
            record {
              count = all.0.count;
              each = λ i r found. (
                  let inside : i < length (ticked_over course.fits course.plan 0 v1 (everyone course.plan)).replicas =
                  slice_get_within (ticked_over course.fits course.plan 0 v1 (everyone course.plan)).replicas i r found in
                  let both = all.0.each i r found in (
                    record { gives_is = both.0.gives_is; left = both.1.0; txs = both.0.txs; links = both.0.links; sealed = both.0.sealed },
                    both.1.1 (omega (arith, inside, all.0.count)),
                  )
                  );
              ticks = all.0.ticks_are;
              due = all.0.due;
            },
            all.1,
            all.0.turns,
          )
