-- One more round: what held continues to hold, and nodes know their arrivals.
use Rattle.std.proofs.Common.{◌≡◌, ℕ, zero, suc, ◌+◌, ◌-◌, ◌*◌, ◌/◌, ◌<◌, ◌≤◌, ◌==◌, ◌⊎◌, true, false, List, [], ◌∷◌, ◌++◌, length, refl, ap, sym, subst, ◌∙◌, inl, inr, append-nil, arith}
use Rattle.std.specs.Prelude.{Option, Some, None, slice_get}
use Rattle.std.specs.List.{sum_by, range_with_len}
use Rattle.std.proofs.lemmas.Bool.{cases_Bool}
use Rattle.std.proofs.lemmas.Bool.Decides.{nat_tests}
use Rattle.std.proofs.lemmas.List.{map-append, length-map}
use Rattle.std.proofs.lemmas.List.Sums.{sum_by-cons}
use mathlib.Core.List.{IsPrefix}
use Rattle.seq_base.specs.declared.tx.Tx.{Tx}
use Rattle.fault_script.specs.Passing.{given_in_all, opening}
use Rattle.plan_text.specs.declared.plan.Plan.{Plan}
use Rattle.node_core.specs.Rows.{Check}
use Rattle.node_core.specs.Reported.{Gives}
use Rattle.node_core.specs.declared.event.Event.{Event}
use Rattle.node_core.specs.declared.event.Event.TheVariants.{Tick}
use Rattle.node_core.specs.declared.entry.Entry.{Entry}
use Rattle.run_record.specs.declared.record.RunRecord.{RunRecord}
use Rattle.run_record.specs.Done.{hold_all}
use Rattle.replica_seat.specs.Showing.{batches_of}
use Rattle.round_rules.specs.Acts.{after_events}
use Rattle.round_rules.specs.Journals.{before_tick, cut, deliveries, delivered_from, events_of, is_delivery, is_tick, known_in, sent_to, ticks_in}
use Rattle.round_rules.specs.Moments.{Holds, IsWhole, Knows, LacksOne, Moment, due_in, floor_at, given_at, turns_at, view_at}
use Rattle.round_rules.specs.Ran.{AreTicked, at_cut, at_tick}
use Rattle.round_rules.specs.Rounds.{FedEach, HasGone, HasKept, IsRound, MayTick, nothing, tick_of, ticks_of}
use Rattle.round_rules.proofs.ReplicaSums.{deliveries-append, greatest_same, known-append, sum_has, sum_less, sum_same, ticks-append}
use Rattle.round_rules.proofs.JournalCuts.{cut_here, cut_stays, cut_whole}
use Rattle.round_rules.proofs.GrownJournals.{holds_less, holds_more}
use Rattle.round_rules.proofs.Lists.{cut_fewer, fed_before, first_is, get_after, get_grown, two_parts}

-- a tick so far is an earlier one, or that of the round
which_tick : (tick : Option ℕ) (ticks k : ℕ) → k < ticks + ticks_of tick → (k < ticks) ⊎ ((k ≡ ticks) × (floor : ℕ) × (tick ≡ Some floor))
which_tick None ticks k lt = inl (omega (arith, lt))
which_tick (Some floor) ticks k lt = elim (cases_Bool (k == ticks)) [
  | inl here ↦ (let same : k ≡ ticks = grind (arith, nat_tests) in inr (same, floor, refl))
  | inr not_here ↦ (let below : k < ticks = grind (arith, nat_tests) in inl below)
]

tick_counts : (tick : Option ℕ) → (ticks_in (tick_of tick) ≡ ticks_of tick) × (deliveries (tick_of tick) ≡ 0) × (ticks_of tick ≤ 1)
tick_counts None = (refl, refl, omega arith)
tick_counts (Some floor) = (refl, refl, omega arith)

-- a tick has no arrivals
fed_ticked : (base known : List Tx) (tick : Option ℕ) (events : List Event) → FedEach base known events → FedEach base known (tick_of tick ++ events)
fed_ticked base known None events fed = fed
fed_ticked base known (Some floor) events fed = (λ is. absurd (cc), subst (λ (l : List Tx). FedEach base l events) (sym (append-nil known)) fed)

no_entry : (prefix : List Entry) (e : Entry) (back : List Entry) → [] ≡ prefix ++ e ∷ back → ⊥
no_entry [] e back is = absurd (cc)
no_entry (f ∷ prefix) e back is = absurd (cc)

sum_none : (a n : ℕ) → sum_by (λ (at : ℕ). deliveries []) (range_with_len a n) ≤ 0
sum_none a zero = omega arith
sum_none a (suc n) =
    let one = sum_by-cons (λ (at : ℕ). deliveries []) a (range_with_len (a + 1) n) in
    let rest = sum_none (a + 1) n in
    omega (arith, one, rest)

module _ (fits : Check) (plan : Plan) (gives : ℕ → Gives) (capacity : ℕ) where
  -- ---- moments that are the same at each replica

  abbrev Same : Moment → Moment → Type 0
  Same m n = (at : ℕ) → at < plan.setting.n → m at ≡ n at

  turns_same : (m n : Moment) → Same m n → turns_at plan m ≡ turns_at plan n
  turns_same m n s =
      sum_same (λ (at : ℕ). deliveries (events_of (m at))) (λ (at : ℕ). deliveries (events_of (n at))) 0 plan.setting.n
      (λ k lt. ap (λ (j : List Entry). deliveries (events_of j)) (s k (omega (arith, lt))))

  whole_same : (m n : Moment) → Same m n → IsWhole plan m → IsWhole plan n
  whole_same m n s w from to f t =
      subst (λ (j : List Entry). delivered_from from (events_of j) ≡ given_at plan n from to) (s to t)
      (subst (λ (j : List Entry). delivered_from from (events_of (m to)) ≡ given_in_all (opening plan.links from to) (sent_to to j)) (s from f) (w from to f t))

  floor_same : (m n : Moment) → Same m n → floor_at fits plan gives capacity m ≡ floor_at fits plan gives capacity n
  floor_same m n s =
      greatest_same plan.faulty (view_at fits plan gives capacity m) (view_at fits plan gives capacity n) 0 0 plan.setting.n
      (λ k lt. ap (λ (j : List Entry). (after_events fits plan (gives k) capacity k (events_of j)).replica.state.known.view) (s k (omega (arith, lt))))

  lacking_same : (m n : Moment) → Same m n → LacksOne fits plan gives capacity (due_in plan) m → LacksOne fits plan gives capacity (due_in plan) n
  lacking_same m n s l = record {
    replica = l.replica;
    below = l.below;
    honest = l.honest;
    lacks = subst (λ (j : List Entry).
        hold_all (batches_of (after_events fits plan (gives l.replica) capacity l.replica (events_of j)).replica) (due_in plan) ≡ false)
        (s l.replica l.below) l.lacks;
  }

  -- ---- a round

  module _ (m n : Moment) (tick : Option ℕ) (logs : ℕ → List Tx) (r : IsRound plan tick logs m n) (rounds ticks : ℕ)
      (h : HasKept fits plan gives capacity rounds ticks m) where
    stays : (k : ℕ) → k < ticks → Same (at_tick k m) (at_tick k n)
    stays k lt at below =
        let are = h.ticks_are at below in
        let come : k < ticks_in (events_of (m at)) = omega (arith, lt, are) in
        sym (ap (before_tick k) (r at below).grown ∙ cut_stays k (m at) ((r at below).more) come)

    cut_stays_too : (k : ℕ) → k ≤ ticks → Same (at_cut k m) (at_cut k n)
    cut_stays_too zero le at below = refl
    cut_stays_too (suc k) le at below = stays k (omega (arith, le)) at below

    -- the moment before the tick of the round is the moment before the round
    now : (floor : ℕ) → tick ≡ Some floor → Same m (at_tick ticks n)
    now floor is at below =
        let reported : events_of ((r at below).more) ≡ Tick floor ∷ (r at below).events =
        (r at below).reported ∙ ap (λ (t : Option ℕ). tick_of t ++ (r at below).events) is in
        let (e, rest, more_is, event_is) = first_is ((r at below).more) (Tick floor) ((r at below).events) reported in
        sym (ap (before_tick ticks) ((r at below).grown ∙ ap (λ (l : List Entry). m at ++ l) more_is)
        ∙ cut_here ticks (m at) e rest (h.ticks_are at below) (ap is_tick event_is))

    new_events : (at : ℕ) (below : at < plan.setting.n) → events_of (n at) ≡ events_of (m at) ++ (tick_of tick ++ (r at below).events)
    new_events at below =
        ap events_of (r at below).grown ∙ map-append (λ (e : Entry). e.event) (m at) ((r at below).more)
        ∙ ap (λ (l : List Event). events_of (m at) ++ l) ((r at below).reported)

    new_ticks : (at : ℕ) → at < plan.setting.n → ticks_in (events_of (n at)) ≡ ticks + ticks_of tick
    new_ticks at below =
        let a = ap ticks_in (new_events at below) in
        let b = ticks-append (events_of (m at)) (tick_of tick ++ (r at below).events) in
        let c = ticks-append (tick_of tick) ((r at below).events) in
        let d = (tick_counts tick).0 in
        let q = (r at below).fed.quiet in
        let z = h.ticks_are at below in
        omega (arith, a, b, c, d, q, z)

    new_deliveries : (at : ℕ) (below : at < plan.setting.n) → deliveries (events_of (n at)) ≡ deliveries (events_of (m at)) + deliveries ((r at below).events)
    new_deliveries at below =
        let a = ap deliveries (new_events at below) in
        let b = deliveries-append (events_of (m at)) (tick_of tick ++ (r at below).events) in
        let c = deliveries-append (tick_of tick) ((r at below).events) in
        let d = (tick_counts tick).1 in
        omega (arith, a, b, c, d)

    new_whole : MayTick fits plan gives capacity m tick → (k : ℕ) → k < ticks + ticks_of tick → IsWhole plan (at_tick k n)
    new_whole may k lt = elim (which_tick tick ticks k lt) [
      | inl before ↦ whole_same (at_tick k m) (at_tick k n) (stays k before) (h.whole k before)
      | inr q ↦ (
          let here : MayTick fits plan gives capacity m (Some q.1) = subst (MayTick fits plan gives capacity m) q.2 may in
          subst (λ (j : ℕ). IsWhole plan (at_tick j n)) (sym q.0) (whole_same m (at_tick ticks n) (now q.1 q.2) here.whole))
    ]

    new_turns_left : MayTick fits plan gives capacity m tick → (k : ℕ) → k < ticks + ticks_of tick → turns_at plan (at_tick k n) < plan.turns
    new_turns_left may k lt = elim (which_tick tick ticks k lt) [
      | inl before ↦ subst (λ (t : ℕ). t < plan.turns) (turns_same (at_tick k m) (at_tick k n) (stays k before)) (h.turns_left k before)
      | inr q ↦ (
          let here : MayTick fits plan gives capacity m (Some q.1) = subst (MayTick fits plan gives capacity m) q.2 may in
          subst (λ (j : ℕ). turns_at plan (at_tick j n) < plan.turns) (sym q.0)
          (subst (λ (t : ℕ). t < plan.turns) (turns_same m (at_tick ticks n) (now q.1 q.2)) here.turns_left))
    ]

    new_lacking : MayTick fits plan gives capacity m tick → (k : ℕ) → k < ticks + ticks_of tick → LacksOne fits plan gives capacity (due_in plan) (at_tick k n)
    new_lacking may k lt = elim (which_tick tick ticks k lt) [
      | inl before ↦ lacking_same (at_tick k m) (at_tick k n) (stays k before) (h.lacking k before)
      | inr q ↦ (
          let here : MayTick fits plan gives capacity m (Some q.1) = subst (MayTick fits plan gives capacity m) q.2 may in
          subst (λ (j : ℕ). LacksOne fits plan gives capacity (due_in plan) (at_tick j n)) (sym q.0)
          (lacking_same m (at_tick ticks n) (now q.1 q.2) here.lacking))
    ]

    new_floors : MayTick fits plan gives capacity m tick → (k at : ℕ) → k < ticks + ticks_of tick → at < plan.setting.n
        → slice_get (events_of (n at)) (length (before_tick k (n at))) ≡ Some (Tick (floor_at fits plan gives capacity (at_tick k n)))
    new_floors may k at lt below = elim (which_tick tick ticks k lt) [
      | inl before ↦ (
          let old = h.floors k at before below in
          let grown : slice_get (events_of (n at)) (length (before_tick k (m at))) ≡ Some (Tick (floor_at fits plan gives capacity (at_tick k m))) =
          subst (λ (es : List Event). slice_get es (length (before_tick k (m at))) ≡ Some (Tick (floor_at fits plan gives capacity (at_tick k m))))
          (sym (new_events at below))
          (get_grown (events_of (m at)) (tick_of tick ++ (r at below).events) (length (before_tick k (m at)))
          (Tick (floor_at fits plan gives capacity (at_tick k m))) old) in
          ap (λ (j : List Entry). slice_get (events_of (n at)) (length j)) (sym (stays k before at below)) ∙ grown
          ∙ ap (λ (f : ℕ). Some (Tick f)) (floor_same (at_tick k m) (at_tick k n) (stays k before)))
      | inr q ↦ (
          let here : MayTick fits plan gives capacity m (Some q.1) = subst (MayTick fits plan gives capacity m) q.2 may in
          let events_are : events_of (n at) ≡ events_of (m at) ++ Tick q.1 ∷ (r at below).events =
          new_events at below ∙ ap (λ (t : Option ℕ). events_of (m at) ++ (tick_of t ++ (r at below).events)) q.2 in
          let last : slice_get (events_of (n at)) (length (m at)) ≡ Some (Tick q.1) =
          ap (λ (es : List Event). slice_get es (length (m at))) events_are
          ∙ ap (slice_get (events_of (m at) ++ Tick q.1 ∷ (r at below).events)) (sym (length-map (m at) (λ (e : Entry). e.event)))
          ∙ get_after (events_of (m at)) (Tick q.1) ((r at below).events) in
          let at_last : slice_get (events_of (n at)) (length (before_tick ticks (n at))) ≡ Some (Tick (floor_at fits plan gives capacity (at_tick ticks n))) =
          ap (λ (j : List Entry). slice_get (events_of (n at)) (length j)) (sym (now q.1 q.2 at below)) ∙ last
          ∙ ap (λ (f : ℕ). Some (Tick f)) (here.greatest ∙ floor_same m (at_tick ticks n) (now q.1 q.2)) in
          subst (λ (j : ℕ). slice_get (events_of (n at)) (length (before_tick j (n at))) ≡ Some (Tick (floor_at fits plan gives capacity (at_tick j n))))
          (sym q.0) at_last)
    ]

    new_fed : ((at : ℕ) → at < plan.setting.n → ticks_of tick ≡ 1 → Knows plan at (turns_at plan (at_cut ticks m)) (64 * ticks) (m at))
        → (k at : ℕ) → k < ticks + ticks_of tick → at < plan.setting.n → Knows plan at (turns_at plan (at_cut k n)) (64 * k) (before_tick k (n at))
    new_fed knows k at lt below = elim (which_tick tick ticks k lt) [
      | inl before ↦ (
          let old = h.fed k at before below in
          subst (λ (t : ℕ). Knows plan at t (64 * k) (before_tick k (n at))) (turns_same (at_cut k m) (at_cut k n) (cut_stays_too k (omega (arith, before))))
          (subst (Knows plan at (turns_at plan (at_cut k m)) (64 * k)) (stays k before at below) old))
      | inr q ↦ (
          let old = knows at below (ap ticks_of q.2) in
          subst (λ (j : ℕ). Knows plan at (turns_at plan (at_cut j n)) (64 * j) (before_tick j (n at))) (sym q.0)
          (subst (λ (t : ℕ). Knows plan at t (64 * ticks) (before_tick ticks (n at)))
          (turns_same (at_cut ticks m) (at_cut ticks n) (cut_stays_too ticks (omega arith)))
          (subst (Knows plan at (turns_at plan (at_cut ticks m)) (64 * ticks)) (now q.1 q.2 at below) old)))
    ]

    module _ (t : ℕ) (covers : (at : ℕ) → at < plan.setting.n → deliveries (events_of (m at)) ≤ t)
        (held : (at : ℕ) → at < plan.setting.n → Holds plan at t (64 * rounds) (logs at)) where
      -- before a delivery of the round
      fed_mid : (at : ℕ) (mid : List Entry) (e : Entry) (back : List Entry) (below : at < plan.setting.n)
          → (r at below).more ≡ mid ++ e ∷ back → is_delivery e.event ≡ true
          → Knows plan at (deliveries (events_of (m at ++ mid)) - 31) (64 * (deliveries (events_of (m at ++ mid)) / 32)) (m at ++ mid)
      fed_mid at mid e back below more_is so =
          let parts : events_of mid ++ e.event ∷ events_of back ≡ tick_of tick ++ (r at below).events =
          sym (map-append (λ (x : Entry). x.event) mid (e ∷ back)) ∙ ap events_of (sym more_is) ∙ (r at below).reported in
          let fed : FedEach (logs at) (known_in (events_of (m at))) (events_of mid ++ e.event ∷ events_of back) =
          subst (FedEach (logs at) (known_in (events_of (m at)))) (sym parts)
          (fed_ticked (logs at) (known_in (events_of (m at))) tick ((r at below).events) (r at below).fed.fed) in
          let prefix_is : events_of (m at ++ mid) ≡ events_of (m at) ++ events_of mid = map-append (λ (x : Entry). x.event) (m at) mid in
          let known_is : known_in (events_of (m at ++ mid)) ≡ known_in (events_of (m at)) ++ known_in (events_of mid) =
          ap known_in prefix_is ∙ known-append (events_of (m at)) (events_of mid) in
          let pre : IsPrefix (logs at) (known_in (events_of (m at ++ mid))) = subst (IsPrefix (logs at)) (sym known_is)
          (fed_before (logs at) (known_in (events_of (m at))) (events_of mid) e.event (events_of back) fed so) in
          let a = ap deliveries prefix_is ∙ deliveries-append (events_of (m at)) (events_of mid) in
          let b = deliveries-append (events_of mid) (e.event ∷ events_of back) in
          let c = ap deliveries parts ∙ deliveries-append (tick_of tick) ((r at below).events) in
          let d = (tick_counts tick).1 in
          let few = (r at below).fed.few in
          let old = h.few_each at below in
          let one : deliveries (e.event ∷ events_of back) ≡ 1 + deliveries (events_of back) = rw so refl in
          let mid_few : deliveries (events_of mid) ≤ 31 = omega (arith, b, c, d, few, one) in
          let bound = covers at below in
          let less : deliveries (events_of (m at ++ mid)) - 31 ≤ t = omega (arith, a, mid_few, bound) in
          let fewer : 64 * (deliveries (events_of (m at ++ mid)) / 32) ≤ 64 * rounds = omega (arith, a, mid_few, old) in
          holds_less plan at t (deliveries (events_of (m at ++ mid)) - 31) (64 * rounds) (64 * (deliveries (events_of (m at ++ mid)) / 32)) _ less fewer
          (holds_more plan at t (64 * rounds) (logs at) _ pre (held at below))

      new_before : (at : ℕ) (prefix : List Entry) (e : Entry) (back : List Entry) → at < plan.setting.n → n at ≡ prefix ++ e ∷ back → is_delivery e.event ≡ true
          → Knows plan at (deliveries (events_of prefix) - 31) (64 * (deliveries (events_of prefix) / 32)) prefix
      new_before at prefix e back below is so = elim (two_parts (m at) ((r at below).more) prefix e back (sym (r at below).grown ∙ is)) [
        | inl a ↦ h.before_each at prefix e a.0 below a.1 so
        | inr b ↦ subst (λ (f : List Entry). Knows plan at (deliveries (events_of f) - 31) (64 * (deliveries (events_of f) / 32)) f)
            (sym b.1) (fed_mid at b.0 e back below b.2 so)
      ]

      pub kept_on : MayTick fits plan gives capacity m tick
          → ((at : ℕ) → at < plan.setting.n → ticks_of tick ≡ 1 → Knows plan at (turns_at plan (at_cut ticks m)) (64 * ticks) (m at))
          → HasKept fits plan gives capacity (rounds + 1) (ticks + ticks_of tick) n
      kept_on may knows = record {
        ticks_are = new_ticks;
        whole = new_whole may;
        floors = new_floors may;
        turns_left = new_turns_left may;
        lacking = new_lacking may;
        fed = new_fed knows;
        few_each = λ at below. (
            let old = h.few_each at below in
            let few = (r at below).fed.few in
            let d = new_deliveries at below in
            omega (arith, old, few, d));
        before_each = new_before;
      }

    -- at the cut before the last tick there are no more deliveries than when the round began
    fewer_at : (t : Option ℕ) → tick ≡ t → (at : ℕ) → at < plan.setting.n
        → deliveries (events_of (cut (ticks + ticks_of t) (n at))) ≤ deliveries (events_of (m at))
    fewer_at None is at below =
        let same : ticks + 0 ≡ ticks = omega arith in
        let less = cut_fewer ticks (m at) in
        let stay = ap (λ (j : List Entry). deliveries (events_of j)) (cut_stays_too ticks (omega arith) at below) in
        let here = ap (λ (k : ℕ). deliveries (events_of (cut k (n at)))) same in
        omega (arith, less, stay, here)
    fewer_at (Some floor) is at below =
        let same : ticks + 1 ≡ suc ticks = omega arith in
        let whole = ap (λ (j : List Entry). deliveries (events_of j)) (now floor is at below) in
        let here = ap (λ (k : ℕ). deliveries (events_of (cut k (n at)))) same in
        omega (arith, whole, here)

    pub fewer_turns : turns_at plan (at_cut (ticks + ticks_of tick) n) ≤ turns_at plan m
    fewer_turns =
        sum_less (λ (at : ℕ). deliveries (events_of (cut (ticks + ticks_of tick) (n at)))) (λ (at : ℕ). deliveries (events_of (m at))) 0 plan.setting.n
        (λ k lt. fewer_at tick refl k (omega (arith, lt)))

  -- one more round
  pub gone_on : (m n : Moment) (tick : Option ℕ) (logs : ℕ → List Tx) (rounds ticks base : ℕ)
      → HasGone fits plan gives capacity rounds ticks base m → IsRound plan tick logs m n
      → MayTick fits plan gives capacity m tick → ((at : ℕ) → at < plan.setting.n → Holds plan at (turns_at plan m) (64 * rounds) (logs at))
      → HasGone fits plan gives capacity (rounds + 1) (ticks + ticks_of tick) (turns_at plan m) n
  gone_on m n tick logs rounds ticks base g r may held =
      let few = g.few in
      let one = (tick_counts tick).2 in
      let same : rounds + 1 - 1 ≡ rounds = omega arith in
      let early : 64 * ticks ≤ 64 * (rounds - 1) = omega (arith, few) in record {
        kept = kept_on m n tick logs r rounds ticks g.kept (turns_at plan m)
            (λ at below. sum_has (λ (k : ℕ). deliveries (events_of (m k))) 0 plan.setting.n at (omega arith) (omega (arith, below))) held may
            (λ at below is. holds_less plan at base (turns_at plan (at_cut ticks m)) (64 * (rounds - 1)) (64 * ticks) _ g.later early (g.fed_now at below));
        few = omega (arith, few, one);
        fed_now = λ at below. subst (λ (k : ℕ). Knows plan at (turns_at plan m) (64 * k) (n at)) (sym same)
            (holds_more plan at (turns_at plan m) (64 * rounds) (logs at) _ ((r at below).knows) (held at below));
        later = fewer_turns m n tick logs r rounds ticks g.kept;
      }

  none_kept : HasKept fits plan gives capacity 0 0 nothing
  none_kept = record {
    ticks_are = λ at below. refl;
    whole = λ k lt. absurd (omega (arith, lt));
    floors = λ k at lt below. absurd (omega (arith, lt));
    turns_left = λ k lt. absurd (omega (arith, lt));
    lacking = λ k lt. absurd (omega (arith, lt));
    fed = λ k at lt below. absurd (omega (arith, lt));
    few_each = λ at below. omega arith;
    before_each = λ at prefix e back below is so. absurd (no_entry prefix e back is);
  }

  -- the first round, which has no tick
  pub gone_first : (n : Moment) (logs : ℕ → List Tx) → IsRound plan None logs nothing n → ((at : ℕ) → at < plan.setting.n → Holds plan at 0 0 (logs at))
      → HasGone fits plan gives capacity 1 0 0 n
  gone_first n logs r held = record {
    kept = kept_on nothing n None logs r 0 0 none_kept 0 (λ at below. omega arith) held tt (λ at below is. absurd (cc));
    few = omega arith;
    fed_now = λ at below. holds_more plan at 0 0 (logs at) _ ((r at below).knows) (held at below);
    later = sum_none 0 plan.setting.n;
  }

  -- ---- the end

  -- what a record says of ticks
  pub gone_ticked : (run : RunRecord) (rounds base : ℕ) (m : Moment) → HasGone fits plan gives capacity rounds run.ticks base m
      → run.turns ≡ turns_at plan m → AreTicked fits plan gives capacity run m
  gone_ticked run rounds base m g turns = record { turns = turns; ticks = g.kept.ticks_are; whole = g.kept.whole; floors = g.kept.floors }

  -- and what it says of what nodes know at each cut
  pub gone_fed : (rounds ticks base : ℕ) (m : Moment) → HasGone fits plan gives capacity rounds ticks base m → (k at : ℕ) → k ≤ ticks → at < plan.setting.n
      → Knows plan at (turns_at plan (at_cut k m)) (64 * k) (before_tick k (m at))
  gone_fed rounds ticks base m g k at le below = elim (cases_Bool (k == ticks)) [
    | inl here ↦ (
        let same : ticks ≡ k = grind (arith, nat_tests) in
        let few = g.few in
        let are = g.kept.ticks_are at below in
        let early : 64 * ticks ≤ 64 * (rounds - 1) = omega (arith, few) in
        let all : before_tick ticks (m at) ≡ m at = cut_whole ticks (m at) (omega (arith, are)) in
        subst (λ (j : ℕ). Knows plan at (turns_at plan (at_cut j m)) (64 * j) (before_tick j (m at))) same
        (subst (Knows plan at (turns_at plan (at_cut ticks m)) (64 * ticks)) (sym all)
        (holds_less plan at base (turns_at plan (at_cut ticks m)) (64 * (rounds - 1)) (64 * ticks) _ g.later early (g.fed_now at below))))
    | inr not_here ↦ (let before : k < ticks = grind (arith, nat_tests) in g.kept.fed k at before below)
  ]
