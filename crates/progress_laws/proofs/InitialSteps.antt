-- All arrivals at the start of a clean run are given.
use Rattle.std.proofs.Common.{◌≡◌, ℕ, zero, suc, ◌+◌, ◌<◌, ◌≤◌, List, [], ◌∷◌, ◌++◌, length, map, Option, Some, None, refl, sym, ap, subst, ◌∙◌, inl, inr, arith}
use Rattle.std.specs.Prelude.{All, slice_get, slice_set}
use Rattle.std.specs.List.{fold, range_with_len}
use Rattle.std.specs.Option.{option_map_or}
use Rattle.std.proofs.Math.Seq.{take-length, drop-length}
use Rattle.std.proofs.lemmas.List.Elements.{All-head, All-tail}
use Rattle.seq_base.specs.declared.tx.Tx.{Tx}
use Rattle.seq_base.specs.Blocks.{first_cert}
use Rattle.seq_base.specs.Setting.{Parameters}
use Rattle.fault_script.specs.Passing.{Link}
use Rattle.node_core.specs.declared.event.Event.{Event}
use Rattle.node_core.specs.declared.event.Event.TheVariants.{Arrived}
use Rattle.node_core.specs.declared.entry.Entry.{Entry}
use Rattle.node_core.specs.State.{State}
use Rattle.node_core.specs.Reported.{Outcome}
use Rattle.node_core.specs.Turn.{turn_of}
use Rattle.replica_seat.specs.declared.seat.Envelope.{Envelope}
use Rattle.replica_seat.specs.declared.arrivals.TimedTx.{TimedTx}
use Rattle.replica_seat.specs.Feed.{Fed, feed_of, timed_for, txs_of, count_by_now, arrived, after_giving}
use Rattle.replica_seat.specs.Seats.{Replica}
use Rattle.replay_run.specs.World.{World}
use Rattle.replica_seat.specs.Acting.{Way, way, sent_all}
use Rattle.replay_run.specs.Acting.{event_at}
use Rattle.replay_run.specs.Step.{taken_at, taken_for, arrived_at, reported_arrived, given_at, give_arrivals}
use Rattle.progress_laws.proofs.StateSummary.{Rest, standing, state_at}
use Rattle.progress_laws.proofs.CallSteps.{ticks}
use Rattle.progress_laws.proofs.Worlds.{AreClear, AreWithin, envelope, Passed, pass_all, following, world_after, event_is}
use Rattle.progress_laws.proofs.Phases.{AreSealed, AllSealed, Course}
use Rattle.round_rules.proofs.Places.{found_at, set_cases, length_set, get_set}
use Rattle.progress_laws.proofs.Items.{each_more}

all_now : (list : List TimedTx) → All (λ t. t.turn ≡ 0) list → count_by_now 0 list ≡ length list
all_now [] all = refl
all_now (t ∷ ts) all =
    (let now : t.turn ≡ 0 = All-head (λ (x : TimedTx). x.turn ≡ 0) t ts all in
    rw now (let rest : count_by_now 0 ts ≡ length ts = all_now ts (All-tail (λ (x : TimedTx). x.turn ≡ 0) t ts all) in omega (arith, rest)))

-- the state of a new node, apart from its list
abbrev pub rest0 : Rest
rest0 = record { ordered = 0; asked = 0; ask_cert = first_cert; orders = []; proposed = 0; high = first_cert; voted = 0; gathered = []; boxes = [] }

module _ (course : Course) where
  abbrev s : Parameters
  s = course.plan.setting

  -- a node that knows a list and has done nothing
  pub record Fresh (list : List Tx) (i : ℕ) (st : State) : Type 0 where
    pub capacity : ℕ
    pub is : st ≡ state_at (standing s course.plan.views i list [] 0 rest0) 0 capacity
    pub room : 20 ≤ capacity

  pub record Base (i : ℕ) (r : Replica) : Type 0 where
    pub gives_is : r.gives ≡ course.gives i
    pub txs : r.feed.txs ≡ course.lists i
    pub links : AreClear s.n r.links
    pub sealed : AllSealed course r.journal

  -- a world in which each replica satisfies a predicate
  pub record Grounds (P : ℕ → Replica → Type 0) (ticks : ℕ) (w : World) : Type 0 where
    pub count : length w.replicas ≡ s.n
    pub each : (i : ℕ) (r : Replica) → slice_get w.replicas i ≡ Some r → Base i r × P i r
    pub turns : w.turns ≡ 0
    pub ticks_are : w.ticks ≡ ticks
    pub due : w.due ≡ course.due

  -- the effect of an event on the replica at a place
  pub record Evented (Q : ℕ → Replica → Type 0) (at : ℕ) (r : Replica) (e : Event) (o : Outcome) : Type 0 where
    pub parts : AreSealed course e
    pub within : AreWithin s.n o.reported.sends
    pub state : (links : List Link) → Q at (following r e o links)

  pub event_on : (P Q : ℕ → Replica → Type 0) (ticks : ℕ) (w : World) (at : ℕ) (e : Event) (r : Replica) → Grounds P ticks w → slice_get w.replicas at ≡ Some r
      → Evented Q at r e (turn_of course.fits r.gives r.state e) → ((j : ℕ) (x : Replica) → (at ≡ j → ⊥) → P j x → Q j x)
      → Grounds Q ticks (event_at course.fits course.plan w at e)
      × ((event_at course.fits course.plan w at e).queue ≡ w.queue ++ map (envelope at) (turn_of course.fits r.gives r.state e).reported.sends)
  unfolding sent_all
  event_on P Q ticks w at e r g found ev stays =
      let o : Outcome = turn_of course.fits r.gives r.state e in
      let passed : Way = sent_all at (way r.links w.queue) o.reported.sends in
      let v : World = world_after w at r e o passed in
      let base : Base at r = (g.each at r found).0 in
      let pass : Passed s.n at w.queue o.reported.sends passed = pass_all s.n at r.links w.queue o.reported.sends base.links ev.within in
      let new : Replica = following r e o passed.links in
      let grounds : Grounds Q ticks v = record {
        count = length_set w.replicas at new ∙ g.count;
        each = λ j y at_j. elim (set_cases w.replicas at j new y at_j) [
          | inl p ↦ subst (λ (z : Replica). Base j z × Q j z) p.1 (subst (λ (k : ℕ). Base k new × Q k new) p.0 (
            record {
              gives_is = base.gives_is;
              txs = base.txs;
              links = pass.links;
              sealed = each_more (λ (x : Entry). AreSealed course x.event) r.journal
                  (record { event = e; turned = o.reported } ∷ []) base.sealed (ev.parts, tt);
            },
            ev.state passed.links,
          ))
          | inr p ↦ (let old = g.each j y p.1 in (old.0, stays j y p.0 old.1))
        ];
        turns = g.turns;
        ticks_are = g.ticks_are;
        due = g.due;
      } in (
        subst (Grounds Q ticks) (sym (event_is course.fits course.plan course.faulty w at e r found)) grounds,
        ap (λ (x : World). x.queue) (event_is course.fits course.plan course.faulty w at e r found) ∙ pass.queue_is,
      )

  -- ---- all arrives

  -- the replicas below a number have received their arrivals
  abbrev pub HasHad : ℕ → ℕ → Replica → Type 0
  HasHad k i r = (i < k → (r.feed.left ≡ []) × Fresh (course.lists i) i r.state) × (k ≤ i → (r.feed ≡ feed_of course.plan i) × Fresh [] i r.state)

  module _ (at_once : (r : ℕ) → r < s.n → All (λ t. t.turn ≡ 0) (timed_for course.plan r))
      (listed : (r : ℕ) → course.lists r ≡ txs_of (timed_for course.plan r)) (some : (r : ℕ) → r < s.n → 1 ≤ length (course.lists r)) where
    all_arrives : (k : ℕ) → k < s.n → arrived 0 (feed_of course.plan k) ≡ course.lists k
    unfolding feed_of
    all_arrives k inside = rw (all_now (timed_for course.plan k) (at_once k inside)) (ap txs_of (take-length (timed_for course.plan k)) ∙ sym (listed k))

    none_left : (k : ℕ) → k < s.n → (after_giving 0 (feed_of course.plan k)).left ≡ []
    unfolding feed_of
    none_left k inside = rw (all_now (timed_for course.plan k) (at_once k inside)) (drop-length (timed_for course.plan k))

    module _ (w : World) (k : ℕ) (inside : k < s.n) (g : Grounds (HasHad k) 0 w) (empty : w.queue ≡ []) where
      -- the replica whose turn it is: its arrivals are taken, and not given yet
      abbrev Taken : ℕ → Replica → Type 0
      Taken j x = (k ≡ j → (x.feed.left ≡ []) × Fresh [] k x.state) × ((k ≡ j → ⊥) → HasHad k j x)

      abbrev Given : World → Type 0
      Given v = Grounds (HasHad (suc k)) 0 v × (v.queue ≡ [])

      module _ (r : Replica) (found : slice_get w.replicas k ≡ Some r) where
        abbrev r1 : Replica
        r1 = record r { feed = after_giving w.turns r.feed }

        abbrev w1 : World
        w1 = record w { replicas = slice_set w.replicas k r1 }

        had : (r.feed ≡ feed_of course.plan k) × Fresh [] k r.state
        had = (g.each k r found).1.1 (omega arith)

        is_now : arrived w.turns r.feed ≡ course.lists k
        is_now = ap (λ (x : ℕ). arrived x r.feed) g.turns ∙ ap (arrived 0) had.0 ∙ all_arrives k inside

        is_left : (after_giving w.turns r.feed).left ≡ []
        is_left = ap (λ (x : ℕ). (after_giving x r.feed).left) g.turns ∙ ap (λ (x : Fed). (after_giving 0 x).left) had.0 ∙ none_left k inside

        taken : Grounds Taken 0 w1
        taken = record {
          count = length_set w.replicas k r1 ∙ g.count;
          each = λ j y at_j. elim (set_cases w.replicas k j r1 y at_j) [
            | inl p ↦ subst (λ (z : Replica). Base j z × Taken j z) p.1 (subst (λ (x : ℕ). Base x r1 × Taken x r1) p.0 (
              (let b : Base k r = (g.each k r found).0 in record { gives_is = b.gives_is; txs = b.txs; links = b.links; sealed = b.sealed }),
              ((λ here. (is_left, had.1)), (λ other. absurd (other refl))),
            ))
            | inr p ↦ (let old = g.each j y p.1 in (old.0, ((λ here. absurd (p.0 here)), (λ other. old.1))))
          ];
          turns = g.turns;
          ticks_are = g.ticks_are;
          due = g.due;
        }

        at_k : slice_get w1.replicas k ≡ Some r1
        at_k = get_set w.replicas k r1 r found

        report : (list : List Tx) → course.lists k ≡ list → Given (reported_arrived course.fits course.plan w1 k list)
        report [] is = absurd (let x : 1 ≤ length (course.lists k) = some k inside in
            let none : length (course.lists k) ≡ 0 = ap length is in omega (arith, x, none))
        report (t ∷ ts) is =
            let known : Fresh [] k r.state = had.1 in
            let both = event_on Taken (HasHad (suc k)) 0 w1 k (Arrived (t ∷ ts)) r1 taken at_k
            (record {
              parts = tt;
              within = tt;
              state = λ links. (
                (λ below. (
                  is_left,
                  record {
                    capacity = known.capacity;
                    is = ap (λ (st : State). state_at (record st.known { prefix = st.known.prefix ++ (t ∷ ts) }) st.made st.capacity) known.is
                        ∙ ap (λ (list : List Tx). state_at (standing s course.plan.views k list [] 0 rest0) 0 known.capacity) (sym is);
                    room = known.room;
                  },
                )),
                (λ above. absurd (omega (arith, above))),
              );
            })
            (λ j x other p. (let old = p.1 other in (
              (λ below. old.0 (omega (arith, below, (λ (same : k ≡ j). other same)))),
              (λ above. old.1 (omega (arith, above))),
            ))) in
            (both.0, both.1 ∙ ap (λ (es : List Envelope). es ++ []) empty)

        report_all : Given (reported_arrived course.fits course.plan w1 k (arrived w.turns r.feed))
        report_all = subst (λ (list : List Tx). Given (reported_arrived course.fits course.plan w1 k list)) (sym is_now) (report (course.lists k) refl)

      given_one : Given (given_at course.fits course.plan w k)
      unfolding taken_at arrived_at
      given_one = by (slice_get w.replicas k) refl
        where
          by : (o : Option Replica) → slice_get w.replicas k ≡ o
              → Given (reported_arrived course.fits course.plan (taken_for w k o) k (option_map_or (λ r. arrived w.turns r.feed) o []))
          by None is = absurd (let (x, found) = found_at w.replicas k (omega (arith, inside, g.count)) in let never : None ≡ Some x = sym is ∙ found in cc)
          by (Some r) is = report_all r is

    given_from : (m k : ℕ) → k + m ≡ s.n → (w : World)
        → Grounds (HasHad k) 0 w → w.queue ≡ [] → Grounds (HasHad s.n) 0 (fold (given_at course.fits course.plan) w (range_with_len k m))
        × ((fold (given_at course.fits course.plan) w (range_with_len k m)).queue ≡ [])
    given_from zero k all w g empty = (let is_n : k ≡ s.n = omega (arith, all) in (subst (λ (x : ℕ). Grounds (HasHad x) 0 w) is_n g, empty))
    given_from (suc m) k all w g empty =
        let one : Grounds (HasHad (suc k)) 0 (given_at course.fits course.plan w k) × ((given_at course.fits course.plan w k).queue ≡ []) =
        given_one w k (omega (arith, all)) g empty in
        let same : k + 1 ≡ suc k = omega arith in
        rw same (given_from m (suc k) (omega (arith, all)) (given_at course.fits course.plan w k) one.0 one.1)

    -- All replicas know their lists, and have done nothing.
    pub all_given : (w : World) → Grounds (HasHad 0) 0 w → w.queue ≡ []
        → Grounds (HasHad s.n) 0 (give_arrivals course.fits course.plan w) × ((give_arrivals course.fits course.plan w).queue ≡ [])
    unfolding give_arrivals
    all_given w g empty = given_from s.n 0 (omega arith) w g empty
