-- The clients continue until they are done, and the driver submits what is left.
use Rattle.std.proofs.Common.{◌≡◌, ℕ, zero, suc, ◌+◌, ◌<◌, ◌≤◌, ◌==◌, List, [], ◌∷◌, ◌++◌, length, get_or, true, drop, refl, ap, sym, subst, ◌∙◌, inl, inr, arith}
use Rattle.std.specs.Prelude.{All, Some, None, nat_le, slice_get, slice_set}
use Rattle.std.specs.List.{AllByRecursion, AllZip, filter, fold}
use Rattle.std.proofs.lemmas.Bool.{cases_Bool}
use Rattle.std.proofs.lemmas.Bool.Decides.{nat_tests}
use Rattle.std.proofs.lemmas.List.{get_or_default, length-set}
use Rattle.std.proofs.lemmas.List.Elements.{All-head, All-tail}
use Rattle.seq_base.specs.declared.tx.Tx.{Tx}
use Rattle.client_logs.specs.Clients.{OfClient}
use Rattle.client_logs.specs.declared.client.Client.{Client as ClientWorker}
use Rattle.plan_text.specs.declared.plan.Arrival.{Arrival}
use Rattle.plan_text.specs.declared.plan.Plan.{Plan}
use Rattle.plan_text.specs.Arrivals.{IsArrival}
use Rattle.plan_text.specs.Rules.{KeepsRules}
use Rattle.replica_seat.specs.Feed.{Fed, arrivals_for, at_turn, by_turn, put_by_turn, timed}
use Rattle.replica_seat.specs.declared.arrivals.TimedTx.{TimedTx}
use Rattle.thread_run.specs.declared.driver.Driver.{Driver}
use Rattle.thread_run.specs.declared.runs.Run.{Run}
use Rattle.thread_run.specs.Concluding.{Completes, HasEnded, WentOn}
use Rattle.thread_run.specs.Going.{AllTaken, HasStopped, IsManned}
use Rattle.thread_run.specs.Steps.{HasHeard, Submits, SubmitsAfter}
use Rattle.thread_run.specs.Exchange.{DriverHears, ReportedClient, ReportedWorker}
use Rattle.thread_run.proofs.ArrivalTurns.{IsLate, later_left}
use Rattle.thread_run.proofs.Heard.{taken_heard}
use Rattle.thread_run.proofs.MannedRuns.{Remains, manned_on}
use Rattle.thread_run.proofs.Submissions.{serve_self}
use Rattle.thread_run.proofs.Zips.{or_other, or_set, zip_back, zip_from, zip_map, zip_there}
use Rattle.thread_run.proofs.Timeliness.{AreBy}

-- ---- no arrival is later than any turn

abbrev IsBy : ℕ → List Arrival → Type 0
IsBy most bs = AllByRecursion (λ (a : Arrival). a.turn ≤ most) bs

put_by : (most : ℕ) (bs : List Arrival) (a : Arrival) → a.turn ≤ most → IsBy most bs → IsBy most (put_by_turn bs a)
put_by most [] a le h = (le, tt)
put_by most (b ∷ bs) a le h = elim (cases_Bool (nat_le b.turn a.turn)) [
  | inl so ↦ rw so (h.0, put_by most bs a le h.1)
  | inr not_so ↦ rw not_so (le, h)
]

sorted_by : (most : ℕ) (bs sorted : List Arrival) → IsBy most bs → IsBy most sorted → IsBy most (fold put_by_turn sorted bs)
sorted_by most [] sorted h s = s
sorted_by most (a ∷ bs) sorted h s = sorted_by most bs (put_by_turn sorted a) h.1 (put_by most sorted a h.0 s)

some_by : (most at : ℕ) (bs : List Arrival) → IsBy most bs → IsBy most (filter (λ a. a.replica == at) bs)
some_by most at [] h = tt
some_by most at (a ∷ bs) h = elim (cases_Bool (a.replica == at)) [
  | inl so ↦ rw so (h.0, some_by most at bs h.1)
  | inr not_so ↦ rw not_so (some_by most at bs h.1)
]

turn_by : (most turn : ℕ) (txs : List Tx) (rest : List TimedTx) → turn ≤ most → AreBy most rest → AreBy most (at_turn turn txs ++ rest)
turn_by most turn [] rest le h = h
turn_by most turn (t ∷ txs) rest le h = (le, turn_by most turn txs rest le h)

timed_by : (most : ℕ) (bs : List Arrival) → IsBy most bs → AreBy most (timed bs)
timed_by most [] h = tt
timed_by most (a ∷ bs) h = turn_by most a.turn a.txs (timed bs) h.0 (timed_by most bs h.1)

arrivals_by : (most at : ℕ) (bs : List Arrival) → IsBy most bs → AreBy most (arrivals_for bs at)
unfolding arrivals_for
arrivals_by most at bs h = timed_by most (by_turn (filter (λ a. a.replica == at) bs))
    (sorted_by most (filter (λ a. a.replica == at) bs) [] (some_by most at bs h) tt)

after_by : (most : ℕ) (xs ys : List TimedTx) → AreBy most (xs ++ ys) → AreBy most ys
after_by most [] ys h = h
after_by most (x ∷ xs) ys h = after_by most xs ys h.1

rules_by : (n : ℕ) (bs : List Arrival) → All (IsArrival n) bs → IsBy 200000 bs
rules_by n [] all = tt
rules_by n (a ∷ bs) all = ((All-head (IsArrival n) a bs all).1, rules_by n bs (All-tail (IsArrival n) a bs all))

none_late : (turns : ℕ) (ts : List TimedTx) → 200000 ≤ turns → AllByRecursion (IsLate turns) ts → AreBy 200000 ts → ts ≡ []
none_late turns [] le late by = refl
none_late turns (t ∷ ts) le late by = absurd (let l = late.0 in let b = by.0 in let so : nat_le t.turn turns ≡ true = grind (arith, nat_tests) in cc (so, l))

drop_by : (most k : ℕ) (ts : List TimedTx) → AreBy most ts → AreBy most (drop k ts)
drop_by most zero ts h = h
drop_by most (suc k) [] h = tt
drop_by most (suc k) (t ∷ ts) h = drop_by most k ts h.1

-- ---- the first clients continued until they were done

pub record SoManyEnded (k : ℕ) (old new : List ClientWorker) : Type 0 where
  pub ends : (at : ℕ) (d : ClientWorker) → at < k → Completes (get_or old at d) (get_or new at d)
  pub others : (at : ℕ) (d : ClientWorker) → k ≤ at → get_or new at d ≡ get_or old at d
  pub count : length new ≡ length old

pub ended_none : (cs : List ClientWorker) → SoManyEnded 0 cs cs
ended_none cs = record { ends = λ at d lt. absurd (omega (arith, lt)); others = λ at d le. refl; count = refl }

pub ended_more : (k : ℕ) (old mid : List ClientWorker) (r c : ClientWorker) → SoManyEnded k old mid → k < length mid → r ≡ get_or mid k r
    → Completes r c → SoManyEnded (k + 1) old (slice_set mid k c)
ended_more k old mid r c so lt value ends = record {
  ends = λ at d below. elim (cases_Bool (k == at)) [
    | inl yes_so ↦ (
        let same : k ≡ at = grind (arith, nat_tests) in
        let one : r ≡ get_or old k r = value ∙ so.others k r (omega arith) in
        let was : get_or old k d ≡ get_or mid k d = sym (so.others k d (omega arith)) in
        let here : get_or mid k d ≡ r = get_or_default mid k d r lt ∙ sym value in
        subst (λ (j : ℕ). Completes (get_or old j d) (get_or (slice_set mid k c) j d)) same
        (subst (Completes (get_or old k d)) (sym (or_set mid k c d lt)) (subst (λ (x : ClientWorker). Completes x c) (sym (was ∙ here)) ends)))
    | inr not_so ↦ (
        let other : k ≡ at → ⊥ = λ is. absurd (grind (arith, nat_tests)) in
        let less : at < k = grind (arith, nat_tests) in
        subst (Completes (get_or old at d)) (sym (or_other mid k at c d other)) (so.ends at d less))
  ];
  others = λ at d le. (let other : k ≡ at → ⊥ = λ is. absurd (omega (arith, is, le)) in or_other mid k at c d other ∙ so.others at d (omega (arith, le)));
  count = length-set mid k c ∙ so.count;
}

pub ended_all : (k : ℕ) (old new : List ClientWorker) → length old ≤ k → SoManyEnded k old new → AllZip Completes old new
ended_all k old new le so = zip_from Completes old new (sym so.count)
    (λ i d e lt. (let same = get_or_default new i e d (let n = so.count in omega (arith, lt, n)) in
    subst (Completes (get_or old i d)) (sym same) (so.ends i d (omega (arith, lt, le)))))

-- ---- and then the driver

remains_ended : (c d : ClientWorker) → Completes c d → Remains c d
remains_ended c d e = (e.0, e.1)

module _ {S : Type 0} where
  pub ended_manned : (plan : Plan) (old new : Run S) → IsManned plan old → HasEnded old new
      → All (OfClient old.world.logs.items) new.clients.items → IsManned plan new
  ended_manned plan old new m e of =
      manned_on plan old old.workers.items new.clients.items old.drivers.items m (serve_self old.workers.items)
      (zip_map Completes Remains remains_ended old.clients.items new.clients.items e.ended) m.ready of
      m.drivers m.parts m.given new (ap (λ (r : Run S). r.world) e.same) (ap (λ (r : Run S). r.due) e.same)
      (ap (λ (r : Run S). r.workers.items) e.same) refl (ap (λ (r : Run S). r.drivers.items) e.same)

  module _ (plan : Plan) (rules : KeepsRules plan) (turns : ℕ) (late : 200000 ≤ turns) (old mid new : Run S) (over : HasEnded old mid)
      (manned : IsManned plan mid) (h : HasHeard plan turns mid new) where
    z : AllZip Completes old.clients.items mid.clients.items
    z = over.ended

    same : mid ≡ record old { clients = mid.clients }
    same = over.same

    pub has_stopped : HasStopped plan new
    has_stopped = record {
      manned = h.manned;
      clients = λ k d is none.
          let (c, there, heard) = zip_back ReportedClient mid.clients.items new.clients.items k d h.clients is in
          let (b, before, ended) = zip_back Completes old.clients.items mid.clients.items k c z there in
          heard.same.2 ∙ (ended.2 (sym heard.same.3 ∙ none)).1 ∙ sym heard.same.1;
      drivers = λ at e is none.
          let (b, b_is, heard) = zip_back DriverHears h.between new.drivers.items at e h.heard is in
          let (a, a_is, sub) = zip_back (Submits turns) mid.drivers.items h.between at b h.submitted b_is in
          let had = manned.given at a a_is in
          let left = ap (λ (f : Fed). f.left) sub.1 in
          let all : AreBy 200000 (arrivals_for plan.arrivals at) = arrivals_by 200000 at plan.arrivals (rules_by plan.setting.n plan.arrivals rules.arrivals) in
          let rest : AreBy 200000 a.feed.left = after_by 200000 had.given a.feed.left (subst (AreBy 200000) had.all_is all) in
          let later : AllByRecursion (IsLate turns) b.feed.left =
          subst (AllByRecursion (IsLate turns)) (sym left) (later_left turns plan.arrivals at had.given a.feed.left had.all_is) in
          let by : AreBy 200000 b.feed.left = subst (AreBy 200000) (sym left) (drop_by 200000 _ a.feed.left rest) in
          ap (λ (f : Fed). f.left) heard.feed ∙ none_late turns b.feed.left late later by;
    }

    pub went_on : WentOn old new
    went_on = record {
      workers = subst (λ (r : Run S). AllZip ReportedWorker r.workers.items new.workers.items) same h.workers;
      after = subst (λ (r : Run S). SubmitsAfter r.workers.items r.drivers.items new.drivers.items) same h.after;
      taken = λ t.
          let took : AllTaken mid.drivers.items mid.clients.items = taken_heard plan turns mid new h t in record {
            drivers_took = subst (λ (ds : List Driver). (at : ℕ) (d : Driver) → slice_get ds at ≡ Some d → d.fault ≡ None)
                (ap (λ (r : Run S). r.drivers.items) same) took.drivers_took;
            clients_took = λ k c is.
                let (d, here, ended) = zip_there Completes old.clients.items mid.clients.items k c z is in
                (ended.2 (took.clients_took k d here)).0;
          };
      turns = ap (λ (r : Run S). r.turns) h.same ∙ ap (λ (r : Run S). r.turns) same;
      ticks = ap (λ (r : Run S). r.ticks) h.same ∙ ap (λ (r : Run S). r.ticks) same;
    }
