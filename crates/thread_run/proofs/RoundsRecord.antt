-- The record of a run in threads is that of a run in rounds.
use Rattle.std.proofs.Common.{◌≡◌, ◌⊎◌, ℕ, zero, suc, ◌+◌, ◌<◌, ◌≤◌, true, false, List, [], ◌∷◌, ◌++◌, length, get_or, map, take, nat_lt, refl, ap, sym, subst, ◌∙◌, inl, inr, arith, if◌then◌else◌}
use Rattle.std.specs.Prelude.{All, Option, None, slice_get}
use Rattle.std.specs.Option.{option_map_or}
use Rattle.std.proofs.Math.Path.{fun_ext}
use Rattle.std.proofs.lemmas.Bool.{cases_Bool}
use Rattle.std.proofs.lemmas.Bool.Decides.{nat_tests}
use Rattle.std.proofs.lemmas.List.{get_or_default, length-map}
use Rattle.std.proofs.lemmas.List.Elements.{All-cons, All-head, All-nil, All-tail}
use Rattle.std.proofs.lemmas.List.FromFn.{get_or-map-range_with_len, length-range_with_len}
use Rattle.std.proofs.lemmas.Option.{get_or_from_slice_get, slice_get_past}
use mathlib.Core.List.{IsPrefix}
use Rattle.seq_base.specs.declared.tx.Tx.{Tx}
use Rattle.locked_log.proofs.Lists.{prefix_trans}
use Rattle.count_set.specs.Sets.{is_among}
use Rattle.mailbox.specs.Boxes.{Receiver}
use Rattle.mailbox.specs.declared.envelope.Envelope.{Envelope as Letter}
use Rattle.plan_text.specs.declared.plan.Plan.{Plan}
use Rattle.plan_text.specs.Rules.{KeepsRules}
use Rattle.run_record.specs.Done.{due_of, hold_all, is_finalised}
use Rattle.node_core.specs.Rows.{Check}
use Rattle.node_core.specs.Reported.{Gives}
use Rattle.node_core.specs.declared.event.Event.{Event}
use Rattle.node_core.specs.declared.event.Event.TheVariants.{Arrived, Deliver, Tick}
use Rattle.node_core.specs.declared.entry.Entry.{Entry}
use Rattle.run_record.specs.declared.record.Journal.{Journal}
use Rattle.run_record.specs.declared.record.RunRecord.{RunRecord}
use Rattle.replica_seat.specs.Arrivals.{IsArrivalList}
use Rattle.replica_seat.specs.Feed.{timed_for, txs_of}
use Rattle.replica_seat.specs.Seats.{Meaning, holds_due, replica_of}
use Rattle.replica_seat.specs.Senders.{IsFrom}
use Rattle.replica_seat.specs.Showing.{batches_of}
use Rattle.round_rules.specs.Acts.{after_events}
use Rattle.round_rules.specs.Journals.{events_of, known_in, before_tick}
use Rattle.round_rules.specs.Moments.{LacksOne, Moment, batches_at, due_in, everyone, turns_at, KnowsNoneEarly}
use Rattle.round_rules.specs.Ran.{AreFed, AreLinked, AreShown, AreTicked, AreTurned, HadCauses, HasEnded, HasKnownSenders, IsDone, Ran, at_tick, journal_in}
use Rattle.round_rules.specs.Rounds.{HasGone}
use Rattle.round_rules.specs.Submissions.{submitted_to}
use Rattle.round_rules.proofs.Places.{all_at, found_at}
use Rattle.thread_run.specs.declared.runs.Run.{Run}
use Rattle.thread_run.specs.Concluding.{RoundLaws, WentOn}
use Rattle.thread_run.specs.Going.{AllTaken, HasGoneOn, IsManned, Shows}
use Rattle.thread_run.specs.Standing.{AllStand, journal_of, journals_at, seen_at, seen_by}
use Rattle.thread_run.specs.Steps.{HoldAll, IsOver}
use Rattle.thread_run.specs.Exchange.{IsDriverOf, ReportedWorker}
use Rattle.thread_run.specs.Workers.{Belongs, IsOf, Ready, Working, knows, letters_in}
use Rattle.thread_run.proofs.Dues.{SameTxs, all_pass_same, due_same, feed_same, merge_same}
use Rattle.thread_run.proofs.Heard.{journals_heard, stands_heard}
use Rattle.thread_run.proofs.Rooms.{merged_fit}
use Rattle.thread_run.proofs.WorkerInvariant.{known_is, replica_is, turned}
use Rattle.thread_run.proofs.TimelyRuns.{early_after, known_prefix, known_none_early, known_within}
use Rattle.client_logs.proofs.Zips.{zip_length}
use Rattle.thread_run.proofs.Zips.{zip_from, zip_there}

begins : (k : ℕ) (xs : List Tx) → IsPrefix (take k xs) xs
begins zero xs = (xs, refl)
begins (suc k) [] = ([], refl)
begins (suc k) (x ∷ xs) = (let p = begins k xs in (p.0, ap (λ (l : List Tx). x ∷ l) p.1))

-- the arrival lists of a record are those of logs
pub arrival_lists : {S : Type 0} (plan : Plan) (new : Run S) (run : RunRecord) → Shows plan new run → KeepsRules plan → (at : ℕ)
    → at < plan.setting.n → IsArrivalList (get_or run.arrivals at [])
arrival_lists plan new run shows rules at lt =
    (let list = shows.lists at lt in
    record { distinct = list.distinct; each = merged_fit plan rules at lt (get_or run.arrivals at []) (shows.arrivals at lt); few = list.within })

-- the replicas' workers stand at their places also once the clients and the driver went on alone
pub stand_on : {S : Type 0} (fits : Check) (plan : Plan) (m : Meaning S) (gives : ℕ → Gives) (capacity : ℕ) (old new : Run S)
    → IsManned plan old → WentOn old new
    → AllStand fits plan m gives capacity old.workers.items → AllStand fits plan m gives capacity new.workers.items
stand_on fits plan m gives capacity old new man on stand = stands_heard fits plan m gives capacity old.world.logs.items
    old.world.boxes.items old.workers.items new.workers.items man.ready on.workers stand

-- what one of n senders put into a mailbox is delivered from one of them
from_letters : (n : ℕ) (events : List Event) → All (IsOf n) (letters_in events) → All (IsFrom n) events
from_letters n [] all = All-nil (IsFrom n)
from_letters n (Arrived list ∷ events) all = All-cons (IsFrom n) (Arrived list) events tt (from_letters n events all)
from_letters n (Deliver from bytes ∷ events) all =
    All-cons (IsFrom n) (Deliver from bytes) events (All-head (IsOf n) (record { from = from; bytes = bytes }) (letters_in events) all)
    (from_letters n events (All-tail (IsOf n) (record { from = from; bytes = bytes }) (letters_in events) all))
from_letters n (Tick floor ∷ events) all = All-cons (IsFrom n) (Tick floor) events tt (from_letters n events all)

module _ {S : Type 0} (fits : Check) (plan : Plan) (m : Meaning S) (gives : ℕ → Gives) (capacity : ℕ) (laws : RoundLaws) (rules : KeepsRules plan)
    (old new : Run S) (over : IsOver fits plan m gives capacity old) (few : old.ticks ≤ plan.ticks) (on : WentOn old new) (manned : IsManned plan new)
    (run : RunRecord) (shows : Shows plan new run) (shown : AreShown fits plan gives capacity run (journals_at new.workers.items)) where
  abbrev before : Moment
  before = journals_at old.workers.items

  below_or : (at : ℕ) → (at < plan.setting.n) ⊎ (plan.setting.n ≤ at)
  below_or at = elim (cases_Bool (nat_lt at plan.setting.n)) [
    | inl so ↦ inl (grind (arith, nat_tests))
    | inr not_so ↦ inr (grind (arith, nat_tests))
  ]

  -- the replicas' journals are as they were
  same_new : (at : ℕ) → journals_at new.workers.items at ≡ before at
  same_new at = ap (λ (m : Moment). m at) (journals_heard old.workers.items new.workers.items on.workers)

  none_after : (at : ℕ) → plan.setting.n ≤ at → before at ≡ []
  none_after at le =
      let len = over.going.manned.workers in
      ap (λ (o : Option (Working S)). option_map_or journal_of o []) (slice_get_past old.workers.items at (omega (arith, len, le)))

  -- the record's journals are those of the workers when the replicas stopped
  same_run : journal_in run ≡ before
  same_run = fun_ext (λ at. elim (below_or at) [
    | inl lt ↦ shows.journals at lt ∙ same_new at
    | inr le ↦ (
        let len = shows.shape.journals in
        let past : slice_get run.journals at ≡ None = slice_get_past run.journals at (omega (arith, len, le)) in
        ap (λ (o : Option Journal). option_map_or (λ (j : Journal). j.entries) o []) past ∙ sym (none_after at le))
  ])

  shown_before : AreShown fits plan gives capacity run before
  shown_before = subst (λ (x : Moment). AreShown fits plan gives capacity run x) (fun_ext same_new) shown

  gone_on : (rounds ticks : ℕ) → HasGoneOn fits plan m gives capacity (rounds + 1) ticks before
      → (base : ℕ) × HasGone fits plan gives capacity (rounds + 1) ticks base before
  gone_on rounds ticks g =
      let next : rounds + 1 ≡ suc rounds = omega arith in
      let at : HasGoneOn fits plan m gives capacity (suc rounds) ticks before = subst (λ (r : ℕ). HasGoneOn fits plan m gives capacity r ticks before) next g in
      (at.0, subst (λ (r : ℕ). HasGone fits plan gives capacity r ticks at.0 before) (sym next) at.1)

  gone : (base : ℕ) × HasGone fits plan gives capacity (over.rounds + 1) run.ticks base before
  gone =
      let all : AllTaken old.drivers.items old.clients.items = on.taken shows.taken in
      let is : run.ticks ≡ old.ticks = shows.ticks ∙ on.ticks in
      let g : (base : ℕ) × HasGone fits plan gives capacity (over.rounds + 1) old.ticks base before = gone_on over.rounds old.ticks (over.going.gone all) in
      (g.0, subst (λ (t : ℕ). HasGone fits plan gives capacity (over.rounds + 1) t g.0 before) (sym is) g.1)

  turns_are : run.turns ≡ turns_at plan before
  turns_are = shows.turns ∙ on.turns ∙ over.going.turns

  turned_all : AreTurned fits plan gives capacity before
  turned_all at lt =
      let (w, is, s) = over.going.stand at lt in
      let journal : w.seat.journal ≡ before at = ap (λ (o : Option (Working S)). option_map_or journal_of o []) (sym is) in
      subst (λ (j : List Entry). j ≡ (after_events fits plan (gives at) capacity at (events_of j)).replica.journal) journal
      (turned fits plan m (gives at) capacity at w s)

  -- what a node was given is a prefix of the log
  reported_all : (at : ℕ) → at < plan.setting.n → IsPrefix (known_in (events_of (before at))) (get_or run.arrivals at [])
  reported_all at lt =
      let (w, is, s) = over.going.stand at lt in
      let (v, there, reported) = zip_there ReportedWorker old.workers.items new.workers.items at w on.workers is in
      let journal : w.seat.journal ≡ before at = ap (λ (o : Option (Working S)). option_map_or journal_of o []) (sym is) in
      let known : knows w ≡ known_in (events_of (before at)) =
      known_is fits plan m (gives at) capacity at w s ∙ ap (λ (j : List Entry). known_in (events_of j)) journal in
      let seen : seen_at new.workers.items at ≡ v.log.seen = ap (λ (o : Option (Working S)). option_map_or seen_by o []) there in
      let log : IsPrefix v.log.seen (get_or run.arrivals at []) = subst (λ (l : List Tx). IsPrefix l (get_or run.arrivals at [])) seen (shows.reported at lt) in
      subst (λ (l : List Tx). IsPrefix l (get_or run.arrivals at [])) known
      (prefix_trans (knows w) w.log.seen (get_or run.arrivals at []) (begins w.known w.log.seen)
      (prefix_trans w.log.seen v.log.seen (get_or run.arrivals at []) reported.looked.later log))

  -- ---- the end

  -- what is due at the beginning is what is due by the record's lists
  due_is : SameTxs (due_in plan) (due_of plan.setting.n plan.faulty run.arrivals)
  due_is = due_same plan.setting.n plan.faulty (map (λ at. txs_of (timed_for plan at)) (everyone plan)) run.arrivals
      (zip_from SameTxs (map (λ at. txs_of (timed_for plan at)) (everyone plan)) run.arrivals count each)
    where
      count : length (map (λ at. txs_of (timed_for plan at)) (everyone plan)) ≡ length run.arrivals
      count = length-map (everyone plan) (λ at. txs_of (timed_for plan at)) ∙ length-range_with_len 0 plan.setting.n ∙ sym shows.shape.arrivals

      each : (i : ℕ) (d e : List Tx) → i < length (map (λ at. txs_of (timed_for plan at)) (everyone plan))
          → SameTxs (get_or (map (λ at. txs_of (timed_for plan at)) (everyone plan)) i d) (get_or run.arrivals i e)
      each i d e lt =
          let arrivals = shows.shape.arrivals in
          let lists = count in
          let below : i < plan.setting.n = omega (arith, lt, lists, arrivals) in
          let first : get_or (map (λ at. txs_of (timed_for plan at)) (everyone plan)) i d ≡ txs_of (timed_for plan i) =
          get_or-map-range_with_len (λ at. txs_of (timed_for plan at)) 0 plan.setting.n i i d below (omega arith) in
          let same : get_or run.arrivals i [] ≡ get_or run.arrivals i e = get_or_default run.arrivals i [] e (omega (arith, below, arrivals)) in
          subst (λ (l : List Tx). SameTxs l (get_or run.arrivals i e)) (sym first)
          (subst (SameTxs (txs_of (timed_for plan i))) same
          (λ t. feed_same plan i t ∙ merge_same (submitted_to plan i) (get_or run.arrivals i []) (shows.arrivals i below) t))

  done : HoldAll plan old → IsDone plan run
  unfolding holds_due
  done all at lt honest =
      let (w, is, s) = over.going.stand at lt in
      let place : w.at ≡ at = over.going.manned.seats at w is in
      let not_faulty : is_among plan.faulty w.at ≡ false = ap (is_among plan.faulty) place ∙ honest in
      let asked : (if is_among plan.faulty w.at then true else holds_due old.due w.seat.node.state.known) ≡ true = all at w is in
      let held : holds_due old.due w.seat.node.state.known ≡ true = rw not_faulty at asked in
      let journal : w.seat.journal ≡ before at = ap (λ (o : Option (Working S)). option_map_or journal_of o []) (sym is) in
      let node : replica_of m w.seat ≡ (after_events fits plan (gives at) capacity at (events_of (before at))).replica =
      replica_is fits plan m (gives at) capacity at w s
      ∙ ap (λ (j : List Entry). (after_events fits plan (gives at) capacity at (events_of j)).replica) journal in
      let batches : get_or run.batches at [] ≡ batches_of (replica_of m w.seat) =
      get_or_from_slice_get run.batches at (batches_of (after_events fits plan (gives at) capacity at (events_of (before at))).replica) []
      (shown_before.batches at lt)
      ∙ ap batches_of (sym node) in
      let due : hold_all (batches_of (replica_of m w.seat)) (due_in plan) ≡ true =
      ap (λ (l : List Tx). hold_all (batches_of (replica_of m w.seat)) l) (sym over.going.manned.due) ∙ held in
      ap (λ (b : List (List Tx)). hold_all b (due_of plan.setting.n plan.faulty run.arrivals)) batches
      ∙ all_pass_same (is_finalised (batches_of (replica_of m w.seat))) (due_in plan) (due_of plan.setting.n plan.faulty run.arrivals) due_is due

  -- what lacks something that was due at the beginning lacks something that is due by the record's lists
  still_lacks : (k : ℕ) → LacksOne fits plan gives capacity (due_in plan) (at_tick k before)
      → LacksOne fits plan gives capacity (due_of plan.setting.n plan.faulty run.arrivals) (at_tick k before)
  still_lacks k l = record { replica = l.replica; below = l.below; honest = l.honest; lacks = lacks }
    where
      batches : List (List Tx)
      batches = batches_at fits plan gives capacity (at_tick k before) l.replica

      lacks : hold_all batches (due_of plan.setting.n plan.faulty run.arrivals) ≡ false
      lacks = elim (cases_Bool (hold_all batches (due_of plan.setting.n plan.faulty run.arrivals))) [
        | inl so ↦ (
            let all : hold_all batches (due_in plan) ≡ true =
            all_pass_same (is_finalised batches) (due_of plan.setting.n plan.faulty run.arrivals) (due_in plan) (λ t. sym (due_is t)) so in
            let lacking = l.lacks in
            absurd (cc (all, lacking)))
        | inr not_so ↦ not_so
      ]

  causes : HadCauses fits plan gives capacity run before
  causes = record { turns_left = gone.1.kept.turns_left; lacking = λ k lt. still_lacks k (gone.1.kept.lacking k lt) }

  ended : HasEnded plan run before
  ended = record {
    cause = elim over.cause [
      | inl all ↦ inl (done all)
      | inr spent ↦ inr (elim spent [
        | inl turns ↦ inl (let is : run.turns ≡ old.turns = shows.turns ∙ on.turns in omega (arith, turns, is))
        | inr ticks ↦ inr (shows.ticks ∙ on.ticks ∙ ticks.0, ticks.1)
      ])
    ];
    few_ticks = (let is : run.ticks ≡ old.ticks = shows.ticks ∙ on.ticks in omega (arith, few, is));
    few_turns = (let is : run.turns ≡ old.turns = shows.turns ∙ on.turns in let most = over.going.few in omega (arith, most, is));
  }

  -- no node knew an arrival early
  none_early : (k at : ℕ) → k ≤ run.ticks → at < plan.setting.n → KnowsNoneEarly plan at (turns_at plan (at_tick k before)) (before_tick k (before at))
  none_early k at le lt =
      let is : run.ticks ≡ old.ticks = shows.ticks ∙ on.ticks in
      let count = zip_length IsDriverOf new.world.logs.items new.drivers.items manned.drivers in
      let logs = manned.logs in
      let (e, there) = found_at new.drivers.items at (omega (arith, lt, count, logs)) in
      let list : List Tx = get_or run.arrivals at [] in
      let known : IsPrefix (known_in (events_of (before_tick k (before at)))) list =
      prefix_trans (known_in (events_of (before_tick k (before at)))) (known_in (events_of (before at))) list
      (known_prefix k (before at)) (reported_all at lt) in
      known_none_early plan rules k at before list e lt known ((shows.lists at lt).distinct) (shows.owned at e lt there)
      (early_after plan old.ticks old.turns before old.workers.items old.drivers.items new.drivers.items
      (known_within fits plan m gives capacity old.workers.items over.going.stand) on.after over.going.timely k at e (omega (arith, le, is)) lt there)

  fed : AreFed plan run before
  fed = record {
    reported = reported_all;
    at_cuts = λ k at le lt. laws.fed fits plan gives capacity (over.rounds + 1) run.ticks gone.0 before gone.1 k at le lt;
    before_each = gone.1.kept.before_each;
    none_early = none_early;
  }

  -- what was delivered came from replicas
  known_senders : HasKnownSenders plan before
  known_senders at lt =
      let (w, is, s) = over.going.stand at lt in
      let belongs : Belongs old.world.logs.items old.world.boxes.items w =
      (all_at (Ready old.world.logs.items old.world.boxes.items) old.workers.items at w over.going.manned.ready is).0 in
      let journal : w.seat.journal ≡ before at = ap (λ (o : Option (Working S)). option_map_or journal_of o []) (sym is) in
      let taken : w.take.taken ≡ letters_in (events_of w.seat.journal) =
      ap (λ (t : Receiver). t.taken) s.did.take ∙ ap (λ (l : List Letter). l ++ letters_in (events_of w.seat.journal)) s.new.taken in
      let of : All (IsOf (length old.world.boxes.items)) (letters_in (events_of w.seat.journal)) =
      subst (All (IsOf (length old.world.boxes.items))) taken belongs.senders in
      subst (λ (j : List Entry). All (IsFrom plan.setting.n) (events_of j)) journal
      (from_letters plan.setting.n (events_of w.seat.journal)
      (subst (λ (k : ℕ). All (IsOf k) (letters_in (events_of w.seat.journal))) over.going.manned.boxes of))

  ran_before : (j : Moment) → j ≡ before → AreTurned fits plan gives capacity j × AreLinked plan j × AreFed plan run j × HasEnded plan run j
      × AreShown fits plan gives capacity run j × HasKnownSenders plan j × HadCauses fits plan gives capacity run j
  ran_before j is = subst (λ (x : Moment). AreTurned fits plan gives capacity x × AreLinked plan x × AreFed plan run x
      × HasEnded plan run x × AreShown fits plan gives capacity run x × HasKnownSenders plan x × HadCauses fits plan gives capacity run x)
      (sym is) (turned_all, over.linked, fed, ended, shown_before, known_senders, causes)

  pub ran : Ran fits plan gives capacity run
  ran =
      let all = ran_before (journal_in run) same_run in record {
        shape = shows.shape;
        turned = all.0;
        arrivals = shows.arrivals;
        links = all.1;
        ticks = subst (λ (x : Moment). AreTicked fits plan gives capacity run x) (sym same_run)
            (laws.ticks fits plan gives capacity run (over.rounds + 1) gone.0 before gone.1 turns_are);
        fed = all.2;
        ended = all.3;
        shown = all.4;
        senders = all.5;
        causes = all.6;
      }
