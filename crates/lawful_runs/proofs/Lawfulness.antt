-- From the replicas of a run to its record.
use Rattle.std.proofs.Common.{◌≡◌, ℕ, zero, suc, ◌+◌, ◌<◌, ◌≤◌, List, [], ◌∷◌, length, Bool, true, false, cond, Option, Some, refl, sym, ap, subst, ◌∙◌, arith}
use Rattle.std.specs.Prelude.{All, slice_get, ◌||◌, ◌==◌}
use Rattle.std.specs.Option.{option_map, option_map_or}
use Rattle.std.proofs.lemmas.Bool.Decides.{nat_tests}
use Rattle.std.proofs.lemmas.List.Elements.{All-nil, All-cons, All-head, All-tail}
use Rattle.std.proofs.lemmas.Option.{slice_get-map}
use Rattle.seq_base.specs.declared.tx.Tx.{Tx}
use Rattle.seq_base.specs.Lists.{AreDistinct}
use Rattle.seq_base.specs.Setting.{Parameters}
use Rattle.seq_base.specs.Tx.{FitsTx}
use Rattle.seq_base.proofs.Options.{at_map}
use Rattle.count_set.specs.Sets.{is_among, size_of}
use Rattle.count_set.proofs.Counts.{size_none}
use Rattle.fault_script.specs.Sealing.{Signer}
use Rattle.node_core.specs.declared.event.Event.{Event}
use Rattle.node_core.specs.declared.event.Event.TheVariants.{Arrived, Deliver, Tick}
use Rattle.node_core.specs.declared.entry.Entry.{Entry}
use Rattle.run_record.specs.declared.record.Head.{Head}
use Rattle.run_record.specs.declared.record.Journal.{Journal}
use Rattle.run_record.specs.declared.record.RunRecord.{RunRecord}
use Rattle.node_core.specs.State.{State}
use Rattle.node_core.specs.Reported.{Gives}
use Rattle.node_core.specs.Readable.{IsReadable}
use Rattle.node_core.specs.Rows.{Check}
use Rattle.node_core.specs.Turn.{turn_of}
use Rattle.plan_text.specs.declared.plan.Plan.{Plan}
use Rattle.plan_text.specs.Rules.{KeepsRules}
use Rattle.replica_seat.specs.Feed.{timed_for, txs_of}
use Rattle.replay_run.specs.Play.{run_for, start_of, steps_of, record_of, play_of}
use Rattle.replica_seat.specs.Showing.{journal_of as journal_in_record, batches_of, head_of}
use Rattle.replica_seat.specs.Seats.{AreReadable, Replica}
use Rattle.replay_run.specs.World.{World}
use Rattle.journal_rules.specs.Obeys.{Obeys, scale_of}
use Rattle.journal_rules.specs.Rules.{Scale, IsLawful, commit_view_of, finals_of}
use Rattle.journal_laws.specs.Standing.{MayCome, StandsAt}
use Rattle.node_core.specs.Runs.{CanCome, AllCome, opening_state, journal_of, state_after}
use Rattle.run_verdict.specs.Shown.{IsHonest}
use Rattle.headline_laws.specs.Premises.{IsLawfulRun}
use Rattle.journal_rules.specs.Records.{journal_in, arrivals_in, batches_in, commit_in}
use Rattle.replica_seat.specs.Arrivals.{IsArrivalList}
use Rattle.lawful_runs.specs.Honest.{IsRun, capacity_at}
use Rattle.replica_seat.specs.Senders.{IsFrom}
use Rattle.lawful_runs.specs.Lawful.{IsReadableRun, AreMadeFor}
use Rattle.round_rules.proofs.Places.{found_at}
use Rattle.lawful_runs.proofs.Worlds.{Good, ends_good}

-- ---- the count of faulty replicas

size_or : (n : ℕ) (a b : ℕ → Bool) → size_of n (λ r. a r || b r) ≤ size_of n a + size_of n b
size_or zero a b = omega arith
size_or (suc n) a b = (let rest : size_of n (λ r. a r || b r) ≤ size_of n a + size_of n b = size_or n a b in by (a n) (b n) rest)
  where
    by : (x y : Bool) → size_of n (λ r. a r || b r) ≤ size_of n a + size_of n b
        → cond (x || y) 1 0 + size_of n (λ r. a r || b r) ≤ (cond x 1 0 + size_of n a) + (cond y 1 0 + size_of n b)
    by true true rest = omega (arith, rest)
    by true false rest = omega (arith, rest)
    by false true rest = omega (arith, rest)
    by false false rest = omega (arith, rest)

size_above : (n x : ℕ) → n ≤ x → size_of n (λ r. x == r) ≡ 0
size_above zero x above = refl
size_above (suc n) x above =
    let other : (x == n) ≡ false = grind (arith, nat_tests, above) in
    let rest : size_of n (λ r. x == r) ≡ 0 = size_above n x (omega (arith, above)) in
    rw other (omega (arith, rest))

size_one : (n x : ℕ) → size_of n (λ r. x == r) ≤ 1
size_one zero x = omega arith
size_one (suc n) x = by (x == n) refl (size_one n x)
  where
    by : (t : Bool) → (x == n) ≡ t → size_of n (λ r. x == r) ≤ 1 → cond t 1 0 + size_of n (λ r. x == r) ≤ 1
    by true is rest = (let none : size_of n (λ r. x == r) ≡ 0 = size_above n x (grind (arith, nat_tests)) in omega (arith, none))
    by false is rest = omega (arith, rest)

pub size_among : (n : ℕ) (xs : List ℕ) → size_of n (is_among xs) ≤ length xs
size_among n [] = (let none : size_of n (λ r. false) ≡ 0 = size_none n in omega (arith, none))
size_among n (x ∷ xs) =
    let both : size_of n (λ r. (x == r) || is_among xs r) ≤ size_of n (λ r. x == r) + size_of n (is_among xs) = size_or n (λ r. x == r) (is_among xs) in
    let one : size_of n (λ r. x == r) ≤ 1 = size_one n x in
    let rest : size_of n (is_among xs) ≤ length xs = size_among n xs in
    omega (arith, both, one, rest)

-- ---- a replica's part of a record

-- ---- the events of a journal

-- the journal of a replica is one of the run's, or it has none
pub read_at : (run : RunRecord) (r : ℕ) → IsReadableRun run → AreReadable (journal_in run r)
read_at run r all = among run.journals r all
  where
    among : (journals : List Journal) (k : ℕ) → All (λ (j : Journal). AreReadable j.entries) journals
        → AreReadable (option_map_or (λ (j : Journal). j.entries) (slice_get journals k) [])
    among [] k all = All-nil (λ (e : Entry). IsReadable e.event)
    among (j ∷ journals) zero all = All-head (λ (x : Journal). AreReadable x.entries) j journals all
    among (j ∷ journals) (suc k) all = among journals k (All-tail (λ (x : Journal). AreReadable x.entries) j journals all)

pub events_readable : (fits : Check) (gives : Gives) (s : State) (events : List Event)
    → All (λ (e : Entry). IsReadable e.event) (journal_of fits gives s events) → All IsReadable events
events_readable fits gives s [] all = All-nil IsReadable
events_readable fits gives s (e ∷ events) all =
    let rest : List Entry = journal_of fits gives (turn_of fits gives s e).state events in
    let first : Entry = record { event = e; turned = (turn_of fits gives s e).reported } in
    All-cons IsReadable e events (All-head (λ (x : Entry). IsReadable x.event) first rest all)
    (events_readable fits gives (turn_of fits gives s e).state events (All-tail (λ (x : Entry). IsReadable x.event) first rest all))

pub all_come : (s : Parameters) (events : List Event) → All (IsFrom s.n) events → All IsReadable events → AllCome s events
all_come s [] from readable = All-nil (CanCome s)
all_come s (e ∷ events) from readable =
    All-cons (CanCome s) e events (one e (All-head (IsFrom s.n) e events from) (All-head IsReadable e events readable))
    (all_come s events (All-tail (IsFrom s.n) e events from) (All-tail IsReadable e events readable))
  where
    one : (e : Event) → IsFrom s.n e → IsReadable e → CanCome s e
    one (Arrived list) from readable = tt
    one (Deliver sender bytes) from readable = (from, readable)
    one (Tick floor) from readable = tt

-- ---- the laws on journals, as the lower crate states them

abbrev pub JournalsAreLawful : Type 0
JournalsAreLawful = (gives : Gives) (by : Scale) (views me capacity : ℕ) (events : List Event) → MayCome by views me events
    → IsLawful by (journal_of by.fits gives (opening_state by.setting views me capacity) events)

abbrev pub JournalsReport : Type 0
JournalsReport = (gives : Gives) (by : Scale) (views me capacity : ℕ) (events : List Event) → MayCome by views me events
    → StandsAt by (state_after by.fits gives (opening_state by.setting views me capacity) events)
    (journal_of by.fits gives (opening_state by.setting views me capacity) events)

module _ (journals_lawful : JournalsAreLawful) (journals_show : JournalsReport) (fits : Check) (plan : Plan) (sealers : List Signer)
    (rules : KeepsRules plan) (made : AreMadeFor plan sealers)
    (lists : (r : ℕ) → r < plan.setting.n → IsArrivalList (txs_of (timed_for plan r))) (readable : IsReadableRun (play_of fits plan sealers)) where
  abbrev world : World
  world = run_for fits plan (start_of plan sealers) (steps_of plan)

  good : Good fits plan (capacity_at sealers) world
  good = ends_good fits plan sealers (steps_of plan) made

  -- an honest replica of the run
  replica_at : (r : ℕ) → IsHonest (play_of fits plan sealers) r
      → (x : Replica) × (slice_get world.replicas r ≡ Some x) × IsRun fits plan r (capacity_at sealers r) x
  unfolding record_of
  replica_at r honest =
      let found = found_at world.replicas r (omega (arith, good.count, honest.below)) in
      (found.0, found.1, good.runs r found.0 found.1 honest.correct)

  journal_is : (r : ℕ) (x : Replica) → slice_get world.replicas r ≡ Some x → journal_in (play_of fits plan sealers) r ≡ x.journal
  unfolding record_of
  journal_is r x found = ap (λ (o : Option Journal). option_map_or (λ (j : Journal). j.entries) o [])
      (slice_get-map journal_in_record world.replicas r ∙ ap (option_map journal_in_record) found)

  arrivals_are : (r : ℕ) (x : Replica) → slice_get world.replicas r ≡ Some x → arrivals_in (play_of fits plan sealers) r ≡ x.feed.txs
  unfolding record_of
  arrivals_are r x found = at_map (λ (y : Replica). y.feed.txs) world.replicas r x [] found

  batches_are : (r : ℕ) (x : Replica) → slice_get world.replicas r ≡ Some x → batches_in (play_of fits plan sealers) r ≡ batches_of x
  unfolding record_of
  batches_are r x found = at_map batches_of world.replicas r x [] found

  commit_is : (r : ℕ) (x : Replica) → slice_get world.replicas r ≡ Some x → commit_in (play_of fits plan sealers) r ≡ (head_of x).commit
  unfolding record_of
  commit_is r x found = ap (λ (o : Option Head). option_map_or (λ (h : Head). h.commit) o 0)
      (slice_get-map head_of world.replicas r ∙ ap (option_map head_of) found)

  -- the list and the events of the replica
  module _ (r : ℕ) (honest : IsHonest (play_of fits plan sealers) r) (x : Replica) (found : slice_get world.replicas r ≡ Some x)
      (run : IsRun fits plan r (capacity_at sealers r) x) where
    list : IsArrivalList x.feed.txs
    list = subst IsArrivalList (sym run.list) (lists x.number run.below)

    come : AllCome plan.setting run.events
    come = all_come plan.setting run.events run.from
        (events_readable fits x.gives (opening_state plan.setting plan.views x.number (capacity_at sealers r)) run.events
        (subst (All (λ (e : Entry). IsReadable e.event)) (journal_is r x found ∙ run.journal) (read_at (play_of fits plan sealers) r readable)))

    abbrev by : Scale
    by = record { fits = fits; setting = plan.setting; replica = r; arrivals = x.feed.txs }

    may : MayCome by plan.views x.number run.events
    may = record {
      wide = omega (arith, rules.few_views);
      own = sym run.number;
      replica = omega (arith, run.below, rules.setting.replicas.few);
      few = omega (arith, list.few);
      come = come;
      rest = txs_of x.feed.left;
      begins = run.arrived;
    }

    stands : StandsAt by x.state x.journal
    stands =
        let start : State = opening_state plan.setting plan.views x.number (capacity_at sealers r) in
        subst (λ (s : State). StandsAt by s x.journal) (sym run.state)
        (subst (StandsAt by (state_after fits x.gives start run.events)) (sym run.journal)
        (journals_show x.gives by plan.views x.number (capacity_at sealers r) run.events may))

    lawful : IsLawful by x.journal
    lawful = subst (IsLawful by) (sym run.journal) (journals_lawful x.gives by plan.views x.number (capacity_at sealers r) run.events may)

    obeys : Obeys fits (play_of fits plan sealers) r
    unfolding record_of
    obeys = record {
      journal = subst (IsLawful (scale_of fits (play_of fits plan sealers) r)) (sym (journal_is r x found))
          (subst (λ (ts : List Tx). IsLawful (record { fits = fits; setting = plan.setting; replica = r; arrivals = ts }) x.journal)
          (sym (arrivals_are r x found)) lawful);
      head = commit_is r x found ∙ stands.view ∙ ap (commit_view_of plan.setting) (sym (journal_is r x found));
      list = batches_are r x found ∙ stands.finals ∙ ap (finals_of plan.setting) (sym (journal_is r x found));
    }

  pub is_lawful : IsLawfulRun fits (play_of fits plan sealers)
  unfolding record_of
  is_lawful = record {
    valid = rules.setting;
    few_faulty =
        (let size : size_of plan.setting.n (is_among plan.faulty) ≤ length plan.faulty = size_among plan.setting.n plan.faulty in
        omega (arith, size, rules.few_faulty));
    distinct = λ r honest. (let x = replica_at r honest in subst AreDistinct (sym (arrivals_are r x.0 x.1)) (list r honest x.0 x.1 x.2).distinct);
    fit = λ r honest. (let x = replica_at r honest in subst (All FitsTx) (sym (arrivals_are r x.0 x.1)) (list r honest x.0 x.1 x.2).each);
    reported = λ r honest. read_at (play_of fits plan sealers) r readable;
    obeys = λ r honest. (let x = replica_at r honest in obeys r honest x.0 x.1 x.2);
  }
