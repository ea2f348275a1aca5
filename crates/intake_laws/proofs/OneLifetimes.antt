-- Without restarts: who received b after all had been heard of a has a arrive first, or waiting ahead.
use Rattle.std.proofs.Common.{◌≡◌, ◌≢◌, ℕ, ◌<◌, List, [], ◌∷◌, get_or, Bool, true, false, ◌||◌, ltb, refl, sym, ap, subst, ◌∙◌, ◌⊎◌, inl, inr, arith}
use Rattle.std.specs.Prelude.{filter, Contains, All, Some, None, Option, is_some}
use Rattle.std.specs.Map.{keys_of}
use Rattle.std.specs.Option.{option_map_or}
use Rattle.std.proofs.lemmas.Bool.{cases_Bool, both_ways, or_from, or_cases, not_from_false}
use Rattle.std.proofs.lemmas.List.Folds.{list_any-append}
use Rattle.std.proofs.lemmas.List.Elements.{Contains-append_left, All-head, All-tail, All-weaker}
use Rattle.seq_base.specs.declared.tx.Tx.{Tx}
use Rattle.seq_base.specs.Tx.{tx_eq, tx_eq_decides}
use Rattle.seq_base.specs.Lists.{holds}
use Rattle.seq_base.specs.Setting.{Parameters, IsValid}
use Rattle.intake.specs.declared.slot.Slot.{Slot}
use Rattle.intake.specs.Keys.{limit, unknown, k_of}
use Rattle.intake.specs.Desk.{Desk, is_final, slot_of, waits, waiting}
use Rattle.intake.specs.Receiving.{answer_of, restore_answer, is_new, received, clock_raised}
use Rattle.intake.specs.Arriving.{comes, is_waiting}
use Rattle.intake_laws.specs.Past.{Call, Past, desk_after, arriving_by, is_arrive, receipts_by, with_call, with_calls, names_replica, opened, AtEach}
use Rattle.intake_laws.specs.Premises.{KnowsAll, receives, WaitsAhead, AreInOrder, lifetime_of}
use Rattle.intake_laws.specs.OneLifetime.{is_first_lifetime, lifetimes_of, AreHeardInOrder}
use Rattle.intake_laws.proofs.Before.{before_filter}
use Rattle.intake_laws.proofs.LeastStamps.{Contains-first, Contains-cases, Contains-none}
use Rattle.intake_laws.proofs.Slots.{receipt_at}
use Rattle.intake_laws.proofs.Closed.{lookup_entry}
use Rattle.intake_laws.proofs.Sounds.{Sound, sound_after, opened_sound, stays_known}
use Rattle.intake_laws.proofs.Entries.{same_Some, at, found_or_not, holds_key, at-filter, at-unfilter, stays_final}
use Rattle.intake_laws.proofs.Keeps.{some_or}
use Rattle.intake_laws.proofs.FirstReceipts.{KeepsBoth}
use Rattle.intake_laws.proofs.Waits.{keeps_after, names_too}
use Rattle.chain_laws.proofs.Members.{size_within}

some_from : {X : Type 0} (o : Option X) → (is_some o ≡ false → ⊥) → is_some o ≡ true
some_from o never = elim (cases_Bool (is_some o)) [
  | inl some ↦ some
  | inr none ↦ absurd (never none)
]

-- only what is held arrives
arrives_held : (t : Tx) (call : Call) (d : Desk) → holds t (arriving_by call d) ≡ true → is_some (at t d.held) ≡ true
arrives_held t (Call.Receive tx source) d some = absurd (both_ways false refl some)
arrives_held t (Call.Hear peer receipt) d some = absurd (both_ways false refl some)
arrives_held t (Call.HearClock peer clock) d some = absurd (both_ways false refl some)
arrives_held t (Call.Settle txs) d some = absurd (both_ways false refl some)
arrives_held t (Call.Restore tx) d some = absurd (both_ways false refl some)
arrives_held t (Call.Arrive bound extra) d some =
    some_from (at t d.held) (λ none. both_ways (holds t (keys_of (filter (comes (k_of d.n) d.f bound extra) (waiting d))))
    (holds_key t (filter (comes (k_of d.n) d.f bound extra) (waiting d)) ∙ at-unfilter t (comes (k_of d.n) d.f bound extra) (waiting d)
    (at-unfilter t waits d.held none)) some)
arrives_held t (Call.Give tx) d some =
    elim (cases_Bool (is_waiting tx d)) [
      | inr not_waiting ↦ absurd (both_ways false refl (rw not_waiting at some))
      | inl waits_here ↦
          let same : tx ≡ t = elim (or_cases (tx_eq tx t) false (rw waits_here at some)) [
            | inl is ↦ (tx_eq_decides tx t).0 is
            | inr never ↦ absurd (both_ways false refl never)
          ] in
          subst (λ (x : Tx). is_some (at x d.held) ≡ true) same (some_from (at tx d.held) (λ none. elim (found_or_not tx d.held) [
            | inl found ↦ some_or ⊥ (at tx d.held) (ap is_some found.1) none
            | inr absent ↦ none_waits (slot_of tx d) absent waits_here
          ]))
    ]
  where
    none_waits : (o : Option Slot) → is_some o ≡ false → option_map_or (λ slot. waits (tx, slot)) o false ≡ true → ⊥
    none_waits None none is = both_ways false refl is
    none_waits (Some v) none is = both_ways true none refl

received_final : (t : Tx) (source : ℕ) (tx : Tx) (d : Desk) → is_final t d ≡ true → is_final t (received source tx d) ≡ true
received_final t source tx d final = elim (cases_Bool (is_new (answer_of source tx d))) [
  | inl new ↦ rw new final
  | inr old ↦ rw old final
]

-- what is final stays final
final_after : (t : Tx) (call : Call) (d : Desk) → is_final t d ≡ true → is_final t (desk_after call d) ≡ true
final_after t (Call.Receive tx source) d final = received_final t source tx d final
final_after t (Call.Hear peer receipt) d final = elim (cases_Bool (ltb receipt.stamp limit)) [
  | inl low ↦ rw low (received_final t peer receipt.tx (clock_raised peer receipt.stamp d) final)
  | inr high ↦ rw high final
]
final_after t (Call.HearClock peer clock) d final = elim (cases_Bool (ltb clock limit)) [
  | inl low ↦ rw low final
  | inr high ↦ rw high final
]
final_after t (Call.Settle txs) d final = stays_final t d.finals txs final
final_after t (Call.Restore tx) d final = elim (cases_Bool (is_new (restore_answer tx d))) [
  | inl new ↦ rw new final
  | inr old ↦ rw old final
]
final_after t (Call.Arrive bound extra) d final = final
final_after t (Call.Give tx) d final = final

module _ (s : Parameters) (valid : IsValid s) (faulty : ℕ → Bool) (stamp : ℕ → ℕ) (a b : Tx) (r : ℕ) (below : r < s.n) (honest : faulty r ≡ false) where
  abbrev Knows : Past → Type 0
  Knows p = KnowsAll s faulty stamp a p

  pub stays_so : (p : Past) (call : Call) → Knows p → Knows (with_call p call)
  stays_so p call knows i under correct = Contains-append_left (p.receipts i) (receipts_by i call p.desk) (receipt_at a (stamp i)) (knows i under correct)

  pub owns : (p : Past) → Knows p → (x : ℕ) × Contains (p.receipts r) (receipt_at a x)
  owns p knows = (stamp r, knows r below honest)

  abbrev Both : Past → Type 0
  Both p = KeepsBoth s.n s.f r below valid.replicas.few a b Knows stays_so owns p

  abbrev AllFirst : List Call → Type 0
  AllFirst calls = All (λ call. is_first_lifetime s.n call ≡ true) calls

  abbrev HearsFirst : Past → List Call → Type 0
  HearsFirst p calls = AtEach (λ q call. receives b call q.desk ≡ true → KnowsAll s faulty stamp a q) p calls

  both_after : (p : Past) (call : Call) (calls : List Call) → AllFirst (call ∷ calls) → Sound s.n s.f r p → HearsFirst p (call ∷ calls) → Both p → Both
      (with_call p call)
  both_after p call calls first sound hears both =
      keeps_after s.n s.f r below valid.replicas.few a b Knows stays_so owns p call
      (All-head (λ (c : Call). is_first_lifetime s.n c ≡ true) call calls first) sound hears.0 both

  sound_next : (p : Past) (call : Call) (calls : List Call) → AllFirst (call ∷ calls) → Sound s.n s.f r p → Sound s.n s.f r (with_call p call)
  sound_next p call calls first sound =
      sound_after s.n s.f r below valid.replicas.few p call
      (names_too s.n call (All-head (λ (c : Call). is_first_lifetime s.n c ≡ true) call calls first)) sound

  -- what is final and has not arrived never arrives
  gone : (p : Past) (calls : List Call) → AllFirst calls → Sound s.n s.f r p → HearsFirst p calls → Both p → is_final a p.desk ≡ true
      → holds a p.arrivals ≡ false → holds a (with_calls p calls).arrivals ≡ false
  gone p [] first sound hears both final none = none
  gone p (call ∷ calls) first sound hears both final none =
      let not_now : holds a (arriving_by call p.desk) ≡ false = elim (cases_Bool (holds a (arriving_by call p.desk))) [
        | inl arrives ↦ some_or _ (at a p.desk.held) (arrives_held a call p.desk arrives) (both.apart final)
        | inr not_it ↦ not_it
      ] in
      gone (with_call p call) calls (All-tail (λ (c : Call). is_first_lifetime s.n c ≡ true) call calls first) (sound_next p call calls first sound) hears.1
      (both_after p call calls first sound hears both) (final_after a call p.desk final)
      (list_any-append (λ (t : Tx). tx_eq t a) p.arrivals (arriving_by call p.desk) ∙ or_from (holds a p.arrivals)
      (holds a (arriving_by call p.desk)) none not_now)

  waits_now : (p : Past) (v : Slot) → Sound s.n s.f r p → Both p → Knows p → at a p.desk.held ≡ Some v → v.arrived ≡ false → is_some (at b p.desk.held) ≡ true
      → ((i x : ℕ) → i < s.n → faulty i ≡ false → Contains (p.receipts i) (receipt_at a x) → x ≡ stamp i) → WaitsAhead s faulty stamp a b p.desk
  waits_now p v sound both knows found not_yet second is_true = record {
    slot = v;
    waits = at-filter a waits p.desk.held v found (not_from_false v.arrived not_yet);
    ahead = before_filter a b waits v p.desk.held found (not_from_false v.arrived not_yet) (both.order (ap is_some found) second);
    stamps = λ i under correct. elim (both.known i (stamp i, knows i under correct)) [
      | inl final ↦ some_or _ (at a p.desk.held) (ap is_some found) (both.apart final)
      | inr noted ↦
          let same : noted.0 ≡ v = same_Some (sym noted.1 ∙ found) in
          let known : get_or v.stamps i unknown ≢ unknown = subst (λ (w : Slot). get_or w.stamps i unknown ≢ unknown) same noted.2 in
          let reported = (sound.noted (a, v) (lookup_entry a p.desk.held v found)).reported i (omega (arith, under, valid.replicas.few)) known in
          is_true i (get_or v.stamps i unknown) under correct reported.1
    ];
  }

  pub each_arrival : (p : Past) (calls : List Call) → AllFirst calls → Sound s.n s.f r p → Both p → HearsFirst p calls
      → AtEach (λ q call. holds b (arriving_by call q.desk) ≡ true → is_arrive call ≡ true) p calls
      → ((i x : ℕ) → i < s.n → faulty i ≡ false → Contains ((with_calls p calls).receipts i) (receipt_at a x) → x ≡ stamp i) → holds a
      (with_calls p calls).arrivals ≡ true
      → AtEach (λ q call. holds b (arriving_by call q.desk) ≡ true → (holds a q.arrivals ≡ true) ⊎
      ((is_arrive call ≡ true) × WaitsAhead s faulty stamp a b q.desk)) p calls
  each_arrival p [] first sound both hears not_given is_true arrived = tt
  each_arrival p (call ∷ calls) first sound both hears not_given is_true arrived = (
    (λ comes_b.
        let second : is_some (at b p.desk.held) ≡ true = arrives_held b call p.desk comes_b in
        let knows : Knows p = both.second second in
        elim (cases_Bool (holds a p.arrivals)) [
          | inl had ↦ inl had
          | inr not_had ↦ elim (both.known r (owns p knows)) [
            | inl final ↦ absurd (both_ways (holds a (with_calls p (call ∷ calls)).arrivals)
                (gone p (call ∷ calls) first sound hears both final not_had) arrived)
            | inr found ↦ elim (cases_Bool found.0.arrived) [
              | inl is ↦ inl (both.arrived found.0 found.1 is)
              | inr not_yet ↦ inr (
                not_given.0 comes_b,
                waits_now p found.0 sound both knows found.1 not_yet second
                    (λ i x under correct known. is_true i x under correct (stays_known p (call ∷ calls) i (receipt_at a x) known)),
              )
            ]
          ]
        ]),
    each_arrival (with_call p call) calls (All-tail (λ (c : Call). is_first_lifetime s.n c ≡ true) call calls first) (sound_next p call calls first sound)
        (both_after p call calls first sound hears both) hears.1 not_given.1 is_true arrived,
  )

  pub opened_both : Both (opened s.n s.f r)
  opened_both = record {
    known = λ i k. absurd (Contains-none (receipt_at a k.0) k.1);
    order = λ some_a some_b. absurd (both_ways false refl some_a);
    arrived = λ v found is. absurd (both_ways false refl (ap is_some found));
    apart = λ final. refl;
    second = λ some. absurd (both_ways false refl some);
  }

module _ (s : Parameters) (faulty : ℕ → Bool) (log : ℕ → List Call) (stamp : ℕ → ℕ) (a b : Tx) (valid : IsValid s)
    (premises : AreHeardInOrder s faulty log stamp a b) where
  only_lifetime : (r : ℕ) (lifetime : List Call) → Contains (lifetimes_of log r) lifetime → log r ≡ lifetime
  only_lifetime r lifetime recorded = elim (Contains-cases (log r) [] lifetime recorded) [
    | inl same ↦ same
    | inr none ↦ absurd (Contains-none lifetime none)
  ]

  pub in_order_without_restarts : AreInOrder s faulty (λ r. false) (lifetimes_of log) stamp a b
  in_order_without_restarts = record {
    few = omega (arith, premises.few, size_within s.n (λ r. faulty r || false) faulty (λ r below is. only_faulty (faulty r) is));
    calls = λ r below honest lifetime recorded. subst (λ (l : List Call). All (λ call. names_replica s.n call ≡ true) l) (only_lifetime r lifetime recorded)
        (All-weaker (λ (c : Call). is_first_lifetime s.n c ≡ true) (λ c. names_replica s.n c ≡ true) (names_too s.n) (log r) (premises.calls r below honest));
    stamped = premises.stamped;
    in_between = λ r below honest in_time lifetime recorded. subst
        (λ (l : List Call). AtEach (λ p call. receives b call p.desk ≡ true → KnowsAll s faulty stamp a p) (opened s.n s.f r) l)
        (only_lifetime r lifetime recorded) (premises.in_between r below honest);
    true_stamps = λ r below honest lifetime recorded i under correct in_time x known. record {
      lifetime = log i;
      recorded = Contains-first (log i) [];
      made = premises.true_second r below honest i under correct x
          (subst (λ (l : List Call). Contains ((lifetime_of s r l).receipts i) (receipt_at b x)) (sym (only_lifetime r lifetime recorded)) known);
    };
    on_arrival = λ r below honest. (
      each_arrival s valid faulty stamp a b r below honest (opened s.n s.f r) (log r) (premises.calls r below honest)
          (opened_sound s.n s.f r below valid.replicas.few) (opened_both s valid faulty stamp a b r below honest) (premises.in_between r below honest)
          (premises.not_given r below honest)
          (λ i x under correct known. premises.true_first r below honest i under correct x known) (premises.arrived r below honest),
      λ none. tt,
    );
    arrived = λ r below honest. list_any-append (λ (t : Tx). tx_eq t a) (lifetime_of s r (log r)).arrivals []
        ∙ or_first (holds a (lifetime_of s r (log r)).arrivals)
        (premises.arrived r below honest);
  }
    where
      only_faulty : (x : Bool) → (x || false) ≡ true → x ≡ true
      only_faulty true is = refl
      only_faulty false is = is

      or_first : (x : Bool) → x ≡ true → (x || false) ≡ true
      or_first x is = rw is refl
