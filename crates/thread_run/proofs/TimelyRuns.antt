-- A run stays timely: while workers are informed, in a round, and until the end.
use Rattle.std.proofs.Common.{◌≡◌, ℕ, zero, suc, ◌+◌, ◌<◌, ◌≤◌, ◌==◌, List, [], ◌∷◌, ◌++◌, length, take, refl, ap, sym, subst, ◌∙◌, inl, inr, append_assoc, map, arith}
use Rattle.std.specs.Prelude.{Option, Some, None, slice_get}
use Rattle.std.specs.List.{flat_map}
use Rattle.std.proofs.lemmas.Bool.{cases_Bool}
use Rattle.std.proofs.lemmas.Bool.Decides.{nat_tests}
use Rattle.std.proofs.lemmas.List.{map-append}
use mathlib.Core.List.{IsPrefix}
use Rattle.seq_base.specs.declared.tx.Tx.{Tx}
use Rattle.seq_base.specs.Lists.{AreDistinct}
use Rattle.locked_log.proofs.Lists.{prefix_length}
use Rattle.plan_text.specs.declared.plan.Plan.{Plan}
use Rattle.plan_text.specs.Rules.{KeepsRules}
use Rattle.node_core.specs.Rows.{Check}
use Rattle.node_core.specs.Reported.{Gives}
use Rattle.node_core.specs.declared.event.Event.TheVariants.{Tick}
use Rattle.node_core.specs.declared.entry.Entry.{Entry}
use Rattle.replica_seat.specs.Feed.{arrivals_for, txs_of}
use Rattle.replica_seat.specs.Seats.{Meaning}
use Rattle.round_rules.specs.Journals.{before_tick, carried_by, deliveries, events_of, is_tick, known_in, ticks_in}
use Rattle.round_rules.specs.Moments.{KnowsNoneEarly, Moment, turns_at}
use Rattle.round_rules.specs.Ran.{at_tick}
use Rattle.round_rules.specs.Rounds.{IsRound, tick_of, ticks_of}
use Rattle.round_rules.specs.Submissions.{client_list}
use Rattle.round_rules.proofs.ReplicaSums.{deliveries-append, sum_less, sum_same, ticks-append}
use Rattle.round_rules.proofs.JournalCuts.{cut_here, cut_stays, cut_whole}
use Rattle.round_rules.proofs.Lists.{first_is}
use Rattle.thread_run.specs.declared.driver.Driver.{Driver}
use Rattle.thread_run.specs.declared.runs.Run.{Run}
use Rattle.thread_run.specs.Going.{HasGiven, IsOwned}
use Rattle.thread_run.specs.Standing.{AllStand, journals_at, seen_at}
use Rattle.thread_run.specs.Steps.{HasHeard, Submits, SubmitsAfter}
use Rattle.thread_run.specs.Exchange.{DriverHears}
use Rattle.thread_run.specs.Timely.{GivenBy, IsTimely, NoneEarly, known_before}
use Rattle.thread_run.specs.Workers.{Working}
use Rattle.thread_run.proofs.JournalRounds.{journal_is, seen_is}
use Rattle.thread_run.proofs.Rooms.{has_room}
use Rattle.thread_run.proofs.WorkerInvariant.{known_is}
use Rattle.thread_run.proofs.Timeliness.{early_on, first_distinct, given_more_turns, given_on, none_known, none_yet}
use Rattle.thread_run.proofs.Zips.{zip_back}

-- ---- what nodes know is within what workers have seen

further : (xs ys zs : List Tx) → IsPrefix ys zs → IsPrefix (xs ++ ys) (xs ++ zs)
further xs ys zs p = (p.0, append_assoc xs ys p.0 ∙ ap (λ (l : List Tx). xs ++ l) p.1)

-- what was known before a tick is a prefix of what is known later
pub known_prefix : (k : ℕ) (journal : List Entry) → IsPrefix (known_in (events_of (before_tick k journal))) (known_in (events_of journal))
known_prefix zero [] = ([], refl)
known_prefix (suc k) [] = ([], refl)
known_prefix zero (e ∷ es) = elim (cases_Bool (is_tick e.event)) [
  | inl so ↦ rw so (known_in (events_of (e ∷ es)), refl)
  | inr not_so ↦ rw not_so (further (carried_by e.event) (known_in (events_of (before_tick 0 es))) (known_in (events_of es)) (known_prefix 0 es))
]
known_prefix (suc k) (e ∷ es) = elim (cases_Bool (is_tick e.event)) [
  | inl so ↦ rw so (further (carried_by e.event) (known_in (events_of (before_tick k es))) (known_in (events_of es)) (known_prefix k es))
  | inr not_so ↦ rw not_so (further (carried_by e.event) (known_in (events_of (before_tick (suc k) es))) (known_in (events_of es)) (known_prefix (suc k) es))
]

take_fewer : (k : ℕ) (xs : List Tx) → length (take k xs) ≤ length xs
take_fewer zero xs = omega arith
take_fewer (suc k) [] = omega arith
take_fewer (suc k) (x ∷ xs) = (let rest = take_fewer k xs in omega (arith, rest))

module _ {S : Type 0} (fits : Check) (plan : Plan) (m : Meaning S) (gives : ℕ → Gives) (capacity : ℕ) (workers : List (Working S))
    (stand : AllStand fits plan m gives capacity workers) where
  pub known_within : (k at : ℕ) → at < plan.setting.n → known_before k (journals_at workers) at ≤ length (seen_at workers at)
  known_within k at lt =
      let (w, is, s) = stand at lt in
      let journal = ap (λ (j : List Entry). length (known_in (events_of j))) (journal_is workers at w is) in
      let seen = ap length (seen_is workers at w is) in
      let known = ap length (known_is fits plan m (gives at) capacity at w s) in
      let less = take_fewer w.known w.log.seen in
      let fewer = prefix_length (known_in (events_of (before_tick k (journals_at workers at))))
      (known_in (events_of (journals_at workers at))) (known_prefix k (journals_at workers at)) in
      omega (arith, journal, seen, known, less, fewer)

-- ---- a round

module _ (plan : Plan) (m n : Moment) (tick : Option ℕ) (logs : ℕ → List Tx) (r : IsRound plan tick logs m n) (ticks : ℕ)
    (ticked : (at : ℕ) → at < plan.setting.n → ticks_in (events_of (m at)) ≡ ticks) where
  grown_events : (at : ℕ) (below : at < plan.setting.n) → events_of (n at) ≡ events_of (m at) ++ events_of ((r at below).more)
  grown_events at below = ap events_of (r at below).grown ∙ map-append (λ (e : Entry). e.event) (m at) ((r at below).more)

  counts : (t : Option ℕ) → ticks_in (tick_of t) ≡ ticks_of t
  counts None = refl
  counts (Some floor) = refl

  new_ticked : (at : ℕ) → at < plan.setting.n → ticks_in (events_of (n at)) ≡ ticks + ticks_of tick
  new_ticked at below =
      let all = ap ticks_in (grown_events at below) in
      let parts = ticks-append (events_of (m at)) (events_of ((r at below).more)) in
      let reported = ap ticks_in (r at below).reported in
      let both = ticks-append (tick_of tick) ((r at below).events) in
      let count = counts tick in
      let quiet = (r at below).fed.quiet in
      let before = ticked at below in
      omega (arith, all, parts, reported, both, count, quiet, before)

  more_delivered : (at : ℕ) → at < plan.setting.n → deliveries (events_of (m at)) ≤ deliveries (events_of (n at))
  more_delivered at below =
      let all = ap deliveries (grown_events at below) in
      let parts = deliveries-append (events_of (m at)) (events_of ((r at below).more)) in
      omega (arith, all, parts)

  -- what came before the ticks so far stays
  stays : (t : Option ℕ) → tick ≡ t → (k at : ℕ) → k < ticks + ticks_of t → at < plan.setting.n → before_tick k (m at) ≡ before_tick k (n at)
  stays None is k at lt below =
      let before = ticked at below in
      sym (ap (before_tick k) (r at below).grown ∙ cut_stays k (m at) ((r at below).more) (omega (arith, lt, before)))
  stays (Some floor) is k at lt below = elim (cases_Bool (k == ticks)) [
    | inl so ↦ (
        let same : ticks ≡ k = grind (arith, nat_tests) in
        let reported : events_of ((r at below).more) ≡ Tick floor ∷ (r at below).events =
        (r at below).reported ∙ ap (λ (t : Option ℕ). tick_of t ++ (r at below).events) is in
        let (e, rest, more_is, event_is) = first_is ((r at below).more) (Tick floor) ((r at below).events) reported in
        let before = ticked at below in
        let whole : before_tick ticks (m at) ≡ m at = cut_whole ticks (m at) (omega (arith, before)) in
        let here : before_tick ticks (n at) ≡ m at =
        ap (before_tick ticks) ((r at below).grown ∙ ap (λ (l : List Entry). m at ++ l) more_is) ∙ cut_here ticks (m at) e rest before (ap is_tick event_is) in
        subst (λ (j : ℕ). before_tick j (m at) ≡ before_tick j (n at)) same (whole ∙ sym here))
    | inr not_so ↦ (
        let before = ticked at below in
        let less : k < ticks = grind (arith, nat_tests) in
        sym (ap (before_tick k) (r at below).grown ∙ cut_stays k (m at) ((r at below).more) (omega (arith, less, before))))
  ]

  turns_stay : (k : ℕ) → k < ticks + ticks_of tick → turns_at plan (at_tick k m) ≡ turns_at plan (at_tick k n)
  turns_stay k lt =
      sum_same (λ (at : ℕ). deliveries (events_of (before_tick k (m at)))) (λ (at : ℕ). deliveries (events_of (before_tick k (n at)))) 0 plan.setting.n
      (λ at below. ap (λ (j : List Entry). deliveries (events_of j)) (stays tick refl k at lt (omega (arith, below))))

  -- before the tick that comes next is all so far
  turns_now : turns_at plan m ≤ turns_at plan (at_tick (ticks + ticks_of tick) n)
  turns_now =
      sum_less (λ (at : ℕ). deliveries (events_of (m at))) (λ (at : ℕ). deliveries (events_of (before_tick (ticks + ticks_of tick) (n at)))) 0 plan.setting.n
      (λ at below. (
      let lt : at < plan.setting.n = omega (arith, below) in
      let after = new_ticked at lt in
      let whole = ap (λ (j : List Entry). deliveries (events_of j)) (cut_whole (ticks + ticks_of tick) (n at) (omega (arith, after))) in
      let more = more_delivered at lt in
      omega (arith, whole, more)))

  pub turns_grow : turns_at plan m ≤ turns_at plan n
  turns_grow =
      sum_less (λ (at : ℕ). deliveries (events_of (m at))) (λ (at : ℕ). deliveries (events_of (n at))) 0 plan.setting.n
      (λ at below. more_delivered at (omega (arith, below)))

module _ (plan : Plan) where
  -- a round keeps a run timely
  pub timely_round : (m n : Moment) (tick : Option ℕ) (logs : ℕ → List Tx) (ticks turns now : ℕ) (drivers : List Driver)
      → IsRound plan tick logs m n → turns ≡ turns_at plan m → now ≡ turns_at plan n
      → ((at : ℕ) (d : Driver) → slice_get drivers at ≡ Some d → HasGiven (arrivals_for plan.arrivals at) d)
      → IsTimely plan ticks turns m drivers → IsTimely plan (ticks + ticks_of tick) now n drivers
  timely_round m n tick logs ticks turns now drivers r was is had t = record {
    ticked = new_ticked plan m n tick logs r ticks t.ticked;
    early = λ k at d le lt there. elim (cases_Bool (k == ticks + ticks_of tick)) [
      | inl so ↦ (
          let same : ticks + ticks_of tick ≡ k = grind (arith, nat_tests) in
          let later = turns_now plan m n tick logs r ticks t.ticked in
          let bound : ℕ = known_before k n at in
          let given : GivenBy (turns_at plan (at_tick (ticks + ticks_of tick) n)) (arrivals_for plan.arrivals at) d =
          given_more_turns (arrivals_for plan.arrivals at) turns _ d (omega (arith, was, later)) (t.given at d lt there) in
          subst (λ (j : ℕ). NoneEarly (arrivals_for plan.arrivals at) (turns_at plan (at_tick j n)) bound d.pass) same
          (none_yet (arrivals_for plan.arrivals at) (turns_at plan (at_tick (ticks + ticks_of tick) n)) bound d (had at d there) given))
      | inr not_so ↦ (
          let less : k < ticks + ticks_of tick = grind (arith, nat_tests) in
          let few = one tick in
          let before : NoneEarly (arrivals_for plan.arrivals at) (turns_at plan (at_tick k m)) (known_before k m at) d.pass =
          t.early k at d (omega (arith, less, few)) lt there in
          let known : known_before k m at ≡ known_before k n at =
          ap (λ (j : List Entry). length (known_in (events_of j))) (stays plan m n tick logs r ticks t.ticked tick refl k at less lt) in
          subst (λ (b : ℕ). NoneEarly (arrivals_for plan.arrivals at) (turns_at plan (at_tick k n)) b d.pass) known
          (subst (λ (x : ℕ). NoneEarly (arrivals_for plan.arrivals at) x (known_before k m at) d.pass)
          (turns_stay plan m n tick logs r ticks t.ticked k less) before))
    ];
    given = λ at d lt there. given_more_turns (arrivals_for plan.arrivals at) turns now d
        (let grow = turns_grow plan m n tick logs r ticks t.ticked in omega (arith, was, is, grow)) (t.given at d lt there);
  }
    where
      one : (t : Option ℕ) → ticks_of t ≤ 1
      one None = omega arith
      one (Some floor) = omega arith

  -- what the driver gives after all that the workers had seen leaves none early
  pub early_after : {S : Type 0} (ticks turns : ℕ) (m : Moment) (workers : List (Working S)) (ds es : List Driver)
      → ((k at : ℕ) → at < plan.setting.n → known_before k m at ≤ length (seen_at workers at)) → SubmitsAfter workers ds es
      → IsTimely plan ticks turns m ds → (k at : ℕ) (e : Driver) → k ≤ ticks → at < plan.setting.n → slice_get es at ≡ Some e
      → NoneEarly (arrivals_for plan.arrivals at) (turns_at plan (at_tick k m)) (known_before k m at) e.pass
  early_after ticks turns m workers ds es within after t k at e le lt there =
      let (d, was, goes) = after at e there in
      early_on (arrivals_for plan.arrivals at) (turns_at plan (at_tick k m)) (known_before k m at)
      (length (seen_at workers at)) d.pass e.pass (within k at lt) goes (t.early k at d le lt was)

  -- and what it gives has come by the turns so far
  pub given_heard : {S : Type 0} (turns now : ℕ) (old new : Run S) → turns ≤ now → HasHeard plan turns old new
      → ((at : ℕ) (d : Driver) → at < plan.setting.n → slice_get old.drivers.items at ≡ Some d → GivenBy now (arrivals_for plan.arrivals at) d)
      → (at : ℕ) (e : Driver) → at < plan.setting.n → slice_get new.drivers.items at ≡ Some e → GivenBy now (arrivals_for plan.arrivals at) e
  given_heard turns now old new le h given at e lt there =
      let (b, between, heard) = zip_back DriverHears h.between new.drivers.items at e h.heard there in
      let (d, was, sub) = zip_back (Submits turns) old.drivers.items h.between at b h.submitted between in
      given_on (arrivals_for plan.arrivals at) turns now d e le (heard.feed ∙ sub.1) (given at d lt was)

  -- ---- the end

  pub known_none_early : (rules : KeepsRules plan) (k at : ℕ) (m : Moment) (list : List Tx) (d : Driver) → at < plan.setting.n
      → IsPrefix (known_in (events_of (before_tick k (m at)))) list → AreDistinct list
      → IsOwned (arrivals_for plan.arrivals at) d.pass list
      → NoneEarly (arrivals_for plan.arrivals at) (turns_at plan (at_tick k m)) (known_before k m at) d.pass
      → KnowsNoneEarly plan at (turns_at plan (at_tick k m)) (before_tick k (m at))
  known_none_early rules k at m list d lt le distinct owned early =
      none_known (arrivals_for plan.arrivals at) (turns_at plan (at_tick k m)) (known_in (events_of (before_tick k (m at)))) list d.pass le distinct
      (first_distinct (txs_of (arrivals_for plan.arrivals at)) (flat_map (λ l. l) (map client_list plan.clients))
      (has_room plan rules at lt).distinct) owned early
