-- From a clean plan to what the record of its run shows.
use Rattle.std.proofs.Common.{◌≡◌, ℕ, zero, suc, ◌+◌, ◌-◌, ◌*◌, ◌<◌, ◌≤◌, List, [], length, map, true, Some, None, Result, Ok, Err, refl, sym, ap, subst, ◌∙◌, arith}
use Rattle.std.specs.Prelude.{All, slice_get, if◌then◌else◌}
use Rattle.std.specs.List.{AllByRecursion as Each, range_with_len}
use Rattle.std.specs.Option.{option_map, option_map_or, option_and_then}
use Rattle.std.specs.Result.{result_ok}
use Rattle.std.proofs.Math.Nat.{mod-lt}
use Rattle.std.proofs.lemmas.List.{length-map}
use Rattle.std.proofs.lemmas.Option.{slice_get-map}
use Rattle.seq_base.specs.declared.block.Block.{Block}
use Rattle.seq_base.specs.declared.message.Message.{Message}
use Rattle.seq_base.specs.Setting.{Parameters, IsValid, solid_of}
use Rattle.seq_base.specs.Spelling.{message_spelling}
use Rattle.seq_base.specs.Writable.{IsWritable}
use Rattle.plan_text.specs.declared.plan.Plan.{Plan}
use Rattle.fault_script.specs.Passing.{opening}
use Rattle.fault_script.specs.Sealing.{Signer}
use Rattle.wire_view.specs.Messages.{read_of, view_of}
use Rattle.wire_view.specs.declared.fault.WireFault.{WireFault}
use Rattle.wire_view.specs.declared.messages.MessageView.{MessageView}
use Rattle.node_core.specs.Delivered.{message_in, block_in}
use Rattle.run_record.specs.Done.{due_of}
use Rattle.node_core.specs.declared.event.Event.{Event}
use Rattle.node_core.specs.declared.event.Event.TheVariants.{Arrived, Deliver, Tick}
use Rattle.run_record.specs.declared.record.Journal.{Journal}
use Rattle.run_record.specs.declared.record.RunRecord.{RunRecord}
use Rattle.node_core.specs.Reported.{Gives}
use Rattle.node_core.specs.Rows.{Check}
use Rattle.replica_seat.specs.Feed.{feed_of, timed_for}
use Rattle.replica_seat.specs.Seats.{Replica}
use Rattle.replay_run.specs.World.{World}
use Rattle.replay_run.specs.Step.{Stepped}
use Rattle.replica_seat.specs.Opening.{fresh_replica}
use Rattle.replay_run.specs.Play.{start_of, run_for, steps_of, record_of}
use Rattle.replica_seat.specs.Showing.{journal_of}
use Rattle.run_verdict.specs.Collided.{first_collision_of}
use Rattle.run_verdict.specs.Forged.{first_forged_of}
use Rattle.run_verdict.specs.Shown.{IsReceived, IsCollided, AreDistinguished}
use Rattle.run_verdict.specs.Verdicts.{is_record_done, verdict_of}
use Rattle.run_record.specs.declared.verdict.Verdict.TheVariants.{Done}
use Rattle.replica_seat.specs.Arrivals.{IsArrivalList}
use Rattle.lawful_runs.proofs.Dues.{record_is_done}
use Rattle.progress_laws.specs.Clean.{list_of, IsCleanPlan, HasProgressed}
use Rattle.progress_laws.proofs.Kits.{IsSealerOf, AreSealers}
use Rattle.progress_laws.proofs.Unforged.{AreSealedIn, unforged}
use Rattle.progress_laws.proofs.FirstArrivals.{arrives_at_once}
use Rattle.progress_laws.proofs.StateSummary.{standing, state_at}
use Rattle.progress_laws.proofs.Worlds.{IsClear, AreClear, Grew, grew_run}
use Rattle.progress_laws.proofs.Phases.{Fine, Ends, up, Course}
use Rattle.progress_laws.proofs.Underway.{Came, Rests}
use Rattle.progress_laws.proofs.TenPhases.{IsWhole, run_from_calls}
use Rattle.progress_laws.proofs.InitialSteps.{Base, Grounds, HasHad, rest0}
use Rattle.progress_laws.proofs.FirstTick.{after_ticks, first_step, all_called}
use Rattle.round_rules.proofs.Places.{found_at}
use Rattle.std.proofs.lemmas.List.FromFn.{length-range_with_len}
use Rattle.progress_laws.proofs.Items.{got_map, same_lists, each_from_get, each_map}

-- the laws of lower crates that this rests on
pub record Laws : Type 0 where
  pub reads : (m : Message) → IsWritable m → read_of (message_spelling m) ≡ Ok (view_of m)
  pub apart : (run : RunRecord) → (IsCollided run → ⊥) → AreDistinguished run
  pub none_collides : (run : RunRecord) → (IsCollided run → ⊥) → first_collision_of run ≡ None
  pub few_faulty : (s : Parameters) → IsValid s → s.f < solid_of s

-- ---- steps

up_is : (m steps : ℕ) → up m steps ≡ steps + m
up_is zero steps = omega arith
up_is (suc m) steps = (let rest : up m steps ≡ steps + m = up_is m steps in omega (arith, rest))

-- a clean plan that keeps the rules, its sealers, and which seals fit
pub record Setup : Type 0 where
  pub fits : Check
  pub plan : Plan
  pub valid : IsValid plan.setting
  pub proper : (r : ℕ) → r < plan.setting.n → IsArrivalList (list_of plan r)
  pub clean : IsCleanPlan plan
  pub sealers : List Signer
  pub made : AreSealers fits plan.setting.n sealers

-- ---- the whole

module _ (laws : Laws) (setup : Setup) (F : World) (is_F : run_for setup.fits setup.plan (start_of setup.plan setup.sealers) (steps_of setup.plan) ≡ F)
    (apart : IsCollided (record_of setup.plan F) → ⊥) where
  abbrev s : Parameters
  s = setup.plan.setting

  abbrev pub gives : ℕ → Gives
  gives i = option_map_or (λ (x : Signer). x.gives) (slice_get setup.sealers i) (λ number bytes. [])

  abbrev pub course : Course
  course = record {
    fits = setup.fits;
    plan = setup.plan;
    faulty = setup.clean.faulty;
    enough = setup.clean.turns;
    gives = gives;
    lists = list_of setup.plan;
    due = (start_of setup.plan setup.sealers).due;
    last = F;
  }

  signer_at : (i : ℕ) → i < s.n → (x : Signer) × (slice_get setup.sealers i ≡ Some x) × IsSealerOf setup.fits i x
  signer_at i inside = (let (x, found) = found_at setup.sealers i (omega (arith, inside, setup.made.count)) in (x, found, setup.made.each i x found))

  abbrev run : RunRecord
  run = record_of setup.plan F

  distinguished : AreDistinguished run
  distinguished = laws.apart run apart

  abbrev Delivered : Block → Type 0
  Delivered = Came course

  received : (b : Block) → (c : Delivered b) → IsReceived run (record { receiver = c.receiver; entry = c.happened.place; block = b })
  unfolding record_of
  received b c = by c.event c.brings c.happened.entry
    where
      by : (e : Event) → option_and_then block_in (message_in e) ≡ Some b
          → slice_get c.happened.replica.journal c.happened.place ≡ Some (record { event = e; turned = c.reported })
          → IsReceived run (record { receiver = c.receiver; entry = c.happened.place; block = b })
      by (Arrived list) brings entry = absurd (cc)
      by (Tick floor) brings entry = absurd (cc)
      by (Deliver from bytes) brings entry = read (read_of bytes) refl brings
        where
          read : (r : Result MessageView WireFault) → read_of bytes ≡ r → option_and_then block_in (result_ok r) ≡ Some b
              → IsReceived run (record { receiver = c.receiver; entry = c.happened.place; block = b })
          read (Err fault) is none = absurd (cc)
          read (Ok m) is block = record {
            entry = record { event = Deliver from bytes; turned = c.reported };
            message = m;
            has = record {
              journal = journal_of c.happened.replica;
              honest = record { below = c.below; correct = rw setup.clean.faulty };
              journal_is = slice_get-map journal_of F.replicas c.receiver ∙ ap (option_map journal_of) c.happened.found;
              entry_is = entry;
            };
            delivers = record { from = from; bytes = bytes; event = refl; read = is };
            brings = block;
          }

  few : s.f < solid_of s
  few = laws.few_faulty s setup.valid

  pub rests : Rests course
  rests = record {
    reads = laws.reads;
    fit = λ i number bytes inside. (let (x, found, is) = signer_at i inside in rw found (is.fit number bytes));
    short = λ i number bytes inside. (let (x, found, is) = signer_at i inside in rw found (is.short number bytes));
    proper = λ r inside. (let l : IsArrivalList (list_of setup.plan r) = setup.proper r inside in (l.distinct, l.each));
    some = setup.valid.replicas.some;
    small = setup.valid.replicas.few;
    wanted = (let x : s.f < solid_of s = few in omega (arith, x));
    few_wanted = omega arith;
    leader = λ v. mod-lt v (setup.valid.replicas.some);
    views = setup.clean.views;
    above = λ b c same. distinguished.1 (record { receiver = c.receiver; entry = c.happened.place; block = b }) (received b c) same;
    apart = λ a b c d same. distinguished.0 (record { receiver = c.receiver; entry = c.happened.place; block = a })
        (record { receiver = d.receiver; entry = d.happened.place; block = b }) (received a c) (received b d) same;
  }

  -- ---- the start

  clear_opening : (from to : ℕ) → IsClear (opening setup.plan.links from to)
  unfolding opening
  clear_opening from to = record { script = rw setup.clean.links; held = refl }

  clear_links : (from : ℕ) → AreClear s.n (map (opening setup.plan.links from) (range_with_len 0 s.n))
  clear_links from = record {
    count = length-map (range_with_len 0 s.n) (opening setup.plan.links from) ∙ length-range_with_len 0 s.n;
    each = λ k link found. (let (to, place, is) = got_map (opening setup.plan.links from) (range_with_len 0 s.n) k link found in
        subst IsClear is (clear_opening from to));
  }

  fresh_one : (i : ℕ) (x : Signer) → slice_get setup.sealers i ≡ Some x → IsSealerOf setup.fits i x
      → Base course i (fresh_replica setup.plan x) × HasHad course 0 i (fresh_replica setup.plan x)
  unfolding feed_of
  fresh_one i x found is = (
    record {
      gives_is = rw found;
      txs = ap (list_of setup.plan) is.own;
      links = clear_links x.replica;
      sealed = tt;
    },
    (
      (λ below. absurd (omega (arith, below))),
      (λ above. (
        ap (feed_of setup.plan) is.own,
        record {
          capacity = x.capacity;
          is = ap (λ (y : ℕ). state_at (standing s setup.plan.views y [] [] 0 rest0) x.made x.capacity) is.own
              ∙ ap (λ (y : ℕ). state_at (standing s setup.plan.views i [] [] 0 rest0) y x.capacity) is.fresh;
          room = is.room;
        },
      )),
    ),
  )

  starts : Grounds course (HasHad course 0) 0 (start_of setup.plan setup.sealers)
  unfolding start_of
  starts = record {
    count = length-map setup.sealers (fresh_replica setup.plan) ∙ setup.made.count;
    each = λ i r found. (let (x, at_x, is) = got_map (fresh_replica setup.plan) setup.sealers i r found in
        subst (λ (y : Replica). Base course i y × HasHad course 0 i y) is (fresh_one i x at_x (setup.made.each i x at_x)));
    turns = refl;
    ticks_are = refl;
    due = refl;
  }

  nothing_sent : (start_of setup.plan setup.sealers).queue ≡ []
  unfolding start_of
  nothing_sent = refl

  at_once : (r : ℕ) → r < s.n → All (λ t. t.turn ≡ 0) (timed_for setup.plan r)
  at_once r inside = arrives_at_once setup.plan r setup.clean.at_once

  -- ---- the run

  abbrev start : World
  start = start_of setup.plan setup.sealers

  abbrev called : World
  called = after_ticks course start

  abbrev left : ℕ
  left = setup.plan.turns + setup.plan.ticks - (10 * s.n + 1)

  -- ten phases, of a step for each replica
  abbrev ten : ℕ → ℕ
  ten x =
      let p : ℕ → ℕ = up s.n in
      p (p (p (p (p (p (p (p (p (p x)))))))))

  ten_is : (x : ℕ) → ten x ≡ x + 10 * s.n
  ten_is x =
      let p : ℕ → ℕ = up s.n in
      omega (
        arith,
        up_is s.n x,
        up_is s.n (p x),
        up_is s.n (p (p x)),
        up_is s.n (p (p (p x))),
        up_is s.n (p (p (p (p x)))),
        up_is s.n (p (p (p (p (p x))))),
        up_is s.n (p (p (p (p (p (p x)))))),
        up_is s.n (p (p (p (p (p (p (p x))))))),
        up_is s.n (p (p (p (p (p (p (p (p x)))))))),
        up_is s.n (p (p (p (p (p (p (p (p (p x))))))))),
      )

  steps_are : steps_of setup.plan ≡ suc (ten (suc left))
  steps_are =
      (let t : ten (suc left) ≡ suc left + 10 * s.n = ten_is (suc left) in let a : 16 * s.n ≤ setup.plan.turns = setup.clean.turns in
      let b : 1 ≤ setup.plan.ticks = setup.clean.ticks in omega (arith, t, a, b))

  some_due : 1 ≤ length course.due → Ends course (ten (suc left)) called → Fine course
  some_due wanted ends = ends (
      ap (λ (x : Stepped). if x.goes_on then run_for setup.fits setup.plan x.world (ten (suc left)) else x.world)
      (sym (first_step course rests at_once (λ r. refl) setup.clean.some setup.clean.ticks wanted start starts nothing_sent))
      ∙ ap (run_for setup.fits setup.plan start) (sym steps_are) ∙ is_F
      )

  -- If the first block is complete with all due transactions, the run progresses.
  pub fine : IsWhole course rests → 1 ≤ length course.due → Fine course
  fine whole wanted = some_due wanted (λ is.
      let grew : Grew called F = subst (Grew called) is (grew_run setup.fits setup.plan setup.clean.faulty called (ten (suc left))) in
      let all = all_called course rests at_once (λ r. refl) setup.clean.some wanted start starts nothing_sent grew in
      run_from_calls course rests whole left called all.0 all.1 all.2 is)

  -- ---- what the record shows

  module _ (fine : Fine course) where
    journals_sealed : Each (λ (j : Journal). AreSealedIn run.journals j.entries) run.journals
    unfolding record_of
    journals_sealed = each_map journal_of (λ (j : Journal). AreSealedIn (map journal_of F.replicas) j.entries) F.replicas
        (each_from_get (λ (r : Replica). AreSealedIn (map journal_of F.replicas) r.journal) F.replicas (λ k r found. (fine.sealed k r found).0))

    arrivals_are : map (λ (r : Replica). r.feed.txs) F.replicas ≡ map (λ (x : Signer). (feed_of setup.plan x.replica).txs) setup.sealers
    unfolding feed_of
    arrivals_are = same_lists (map (λ (r : Replica). r.feed.txs) F.replicas) (map (λ (x : Signer). (feed_of setup.plan x.replica).txs) setup.sealers)
        (length-map F.replicas (λ (r : Replica). r.feed.txs) ∙ fine.count ∙ sym setup.made.count
        ∙ sym (length-map setup.sealers (λ (x : Signer). (feed_of setup.plan x.replica).txs)))
        (λ k a b at_a at_b.
        let (r, at_r, is_a) = got_map (λ (r : Replica). r.feed.txs) F.replicas k a at_a in
        let (x, at_x, is_b) = got_map (λ (x : Signer). (feed_of setup.plan x.replica).txs) setup.sealers k b at_b in
        sym is_a ∙ (fine.sealed k r at_r).1 ∙ ap (list_of setup.plan) (sym (setup.made.each k x at_x).own) ∙ is_b)

    due_is : F.due ≡ due_of setup.plan.setting.n setup.plan.faulty (map (λ (r : Replica). r.feed.txs) F.replicas)
    unfolding start_of
    due_is = fine.due ∙ sym (ap (due_of s.n setup.plan.faulty) arrivals_are)

    record_done : is_record_done run ≡ true
    record_done = record_is_done setup.plan F fine.count due_is fine.done

    none_forged : first_forged_of setup.fits run ≡ None
    none_forged = unforged setup.fits run journals_sealed

    is_verdict : verdict_of setup.fits run ≡ Done
    unfolding verdict_of
    is_verdict = rw (none_forged, laws.none_collides run apart, record_done)

    pub has_progressed : HasProgressed setup.fits run
    unfolding record_of
    has_progressed = record { verdict = is_verdict; ticks = fine.ticks; turns = fine.turns }
