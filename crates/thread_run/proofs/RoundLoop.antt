-- Round after round, until the replicas stop.
use Rattle.std.proofs.Common.{◌≡◌, ◌⊎◌, ℕ, ◌+◌, ◌*◌, ◌<◌, ◌≤◌, List, refl, ap, sym, subst, ◌∙◌, inl, inr, arith}
use Rattle.std.specs.Prelude.{Bool, Option, Some, None, Result, Ok, Err, IfOk, OnOk, [], ◌∷◌, true, min, slice_get, sum_by}
use Rattle.std.specs.List.{AllZip, fold}
use Rattle.std.proofs.lemmas.List.Sums.{sum_by-cons}
use Rattle.seq_base.specs.declared.tx.Tx.{Tx}
use Rattle.client_logs.specs.declared.client.Client.{Client as ClientWorker}
use Rattle.plan_text.specs.declared.plan.Plan.{Plan}
use Rattle.node_core.specs.Rows.{Check}
use Rattle.node_core.specs.Reported.{Gives}
use Rattle.replica_seat.specs.Seats.{Meaning}
use Rattle.round_rules.specs.Moments.{IsWhole, turns_at}
use Rattle.round_rules.specs.Ran.{AreLinked}
use Rattle.round_rules.specs.Rounds.{MayTick, ticks_of}
use Rattle.thread_run.specs.declared.driver.Driver.{Driver}
use Rattle.thread_run.specs.declared.runs.Next.{Next}
use Rattle.thread_run.specs.declared.runs.Next.TheVariants.{Ends, Goes}
use Rattle.thread_run.specs.declared.runs.Run.{Run}
use Rattle.thread_run.specs.Going.{AllTaken, HasGoneOn, IsGoing, IsManned}
use Rattle.thread_run.specs.Pairs.{AllCompared}
use Rattle.thread_run.specs.Rounding.{Begins, Follows, MayGo}
use Rattle.thread_run.specs.Standing.{AllStand, journals_at}
use Rattle.thread_run.specs.Steps.{HasHeard, HoldAll, IsCounted, IsDecided, IsNext, IsOver, IsSame, IsStep, SomeLacks, floor_by, holds_by, turns_by}
use Rattle.thread_run.specs.Exchange.{ReportedWorker}
use Rattle.thread_run.specs.Timely.{IsTimely}
use Rattle.thread_run.specs.Workers.{Working}
use Rattle.thread_run.proofs.JournalRounds.{links_are, whole_is}
use Rattle.thread_run.proofs.Heard.{going_heard, holds_heard, journals_heard}
use Rattle.thread_run.proofs.MannedRuns.{manned_on}
use Rattle.thread_run.proofs.Submissions.{remain_self, serve_self}
use Rattle.thread_run.proofs.OneRound.{floor_of_all, going_step, lacks_of}

pub hold_same : {S : Type 0} (plan : Plan) (old new : Run S) → new.due ≡ old.due → new.workers.items ≡ old.workers.items → HoldAll plan new → HoldAll plan old
hold_same plan old new due items all = λ at c is. ap (λ (d : List Tx). holds_by plan.faulty d c) (sym due)
    ∙ all at c (ap (λ (ws : List (Working _)). slice_get ws at) items ∙ is)

pub lacks_same : {S : Type 0} (plan : Plan) (old new : Run S) → new.due ≡ old.due → new.workers.items ≡ old.workers.items
    → SomeLacks plan new → SomeLacks plan old
lacks_same plan old new due items l = record {
  at = l.at;
  worker = l.worker;
  there = ap (λ (ws : List (Working _)). slice_get ws l.at) (sym items) ∙ l.there;
  lacks = ap (λ (d : List Tx). holds_by plan.faulty d l.worker) (sym due) ∙ l.lacks;
}

-- ---- answers

pub on_ok : {A B : Type 0} (P : A → Type 0) (Q : Type 0) (r : Result A B) → IfOk r P → ((x : A) → P x → Q) → OnOk r Q
on_ok P Q (Ok x) p f = f x p
on_ok P Q (Err e) p f = tt

pub if_ok : {A B : Type 0} (P Q : A → Type 0) (r : Result A B) → IfOk r P → ((x : A) → P x → Q x) → IfOk r Q
if_ok P Q (Ok x) p f = f x p
if_ok P Q (Err e) p f = tt

pub if_both : {A B : Type 0} (P P' Q : A → Type 0) (r : Result A B) → IfOk r P → IfOk r P' → ((x : A) → P x → P' x → Q x) → IfOk r Q
if_both P P' Q (Ok x) p q f = f x p q
if_both P P' Q (Err e) p q f = tt

pub on_any : {A B P : Type 0} (r : Result A B) → P → OnOk r P
on_any (Ok x) p = p
on_any (Err e) p = tt

pub on_map : {A B : Type 0} (P Q : Type 0) (r : Result A B) → OnOk r P → (P → Q) → OnOk r Q
on_map P Q (Ok x) p f = f p
on_map P Q (Err e) p f = tt

-- ---- what is counted, and that a run stays manned

module _ {S : Type 0} (plan : Plan) where
  sum_heard : (vs ws : List (Working S)) → AllZip ReportedWorker vs ws → sum_by turns_by ws ≡ sum_by turns_by vs
  sum_heard [] [] z = refl
  sum_heard [] (w ∷ ws) z = absurd z
  sum_heard (v ∷ vs) [] z = absurd z
  sum_heard (v ∷ vs) (w ∷ ws) z =
      (let one = ap (λ (x : Working S). x.turns) z.0.rest in let rest = sum_heard vs ws z.1 in let a = sum_by-cons turns_by v vs in
      let b = sum_by-cons turns_by w ws in omega (arith, one, rest, a, b))

  pub heard_counted : (turns : ℕ) (old new : Run S) → HasHeard plan turns old new → IsCounted plan old → IsCounted plan new
  heard_counted turns old new h counted =
      let same : new.turns ≡ old.turns = ap (λ (r : Run S). r.turns) h.same in
      let ticks : new.ticks ≡ old.ticks = ap (λ (r : Run S). r.ticks) h.same in record {
        turns = same ∙ counted.turns ∙ sym (sum_heard old.workers.items new.workers.items h.workers);
        few = subst (λ (k : ℕ). k < plan.turns + 32 * plan.setting.n) (sym same) counted.few;
        few_ticks = subst (λ (k : ℕ). k ≤ plan.ticks) (sym ticks) counted.few_ticks;
      }

  same_manned : (k : ℕ) (old new : Run S) → IsSame k old new → IsManned plan old → IsManned plan new
  same_manned k old new same man =
      manned_on plan old old.workers.items old.clients.items old.drivers.items man (serve_self old.workers.items)
      (remain_self old.clients.items) man.ready man.of man.drivers man.parts man.given
      new (ap (λ (r : Run S). r.world) same.0) (ap (λ (r : Run S). r.due) same.0) same.1 (ap (λ (r : Run S). r.clients.items) same.0)
      (ap (λ (r : Run S). r.drivers.items) same.0)

  same_counted : (k : ℕ) (old new : Run S) → IsSame k old new → k ≤ plan.ticks → IsCounted plan old → IsCounted plan new
  same_counted k old new same le counted =
      let turns : new.turns ≡ old.turns = ap (λ (r : Run S). r.turns) same.0 in
      let ticks : new.ticks ≡ k = ap (λ (r : Run S). r.ticks) same.0 in record {
        turns = turns ∙ counted.turns ∙ ap (sum_by turns_by) (sym same.1);
        few = subst (λ (t : ℕ). t < plan.turns + 32 * plan.setting.n) (sym turns) counted.few;
        few_ticks = omega (arith, ticks, le);
      }

  pub decided_manned : (next : Next) (old new : Run S) → IsDecided plan next old new → IsManned plan old → IsManned plan new
  decided_manned Ends old new d man = same_manned old.ticks old new d.0 man
  decided_manned (Goes None) old new d man = same_manned old.ticks old new d.0 man
  decided_manned (Goes (Some floor)) old new d man = same_manned (old.ticks + 1) old new d.0 man

  pub decided_counted : (next : Next) (old new : Run S) → IsDecided plan next old new → IsCounted plan old → IsCounted plan new
  decided_counted Ends old new d counted = same_counted old.ticks old new d.0 counted.few_ticks counted
  decided_counted (Goes None) old new d counted = same_counted old.ticks old new d.0 counted.few_ticks counted
  decided_counted (Goes (Some floor)) old new d counted = (let lt = d.2 in same_counted (old.ticks + 1) old new d.0 (omega (arith, lt)) counted)

  -- what was compared, that something is lacking, and how the run then continues
  module _ (old mid new : Run S) (is : mid ≡ record old { workers = mid.workers }) (items : mid.workers.items ≡ old.workers.items) where
    unticked : new ≡ mid → IsSame old.ticks old new
    unticked e = (e ∙ is ∙ ap (λ (r : Run S). record old { workers = r.workers }) (sym e), ap (λ (r : Run S). r.workers.items) e ∙ items)

    ticked : new ≡ record mid { ticks = mid.ticks + 1 } → IsSame (old.ticks + 1) old new
    ticked e = (
      e ∙ ap (λ (r : Run S). record r { ticks = r.ticks + 1 }) is ∙ ap (λ (r : Run S). record old { workers = r.workers; ticks = old.ticks + 1 }) (sym e),
      ap (λ (r : Run S). r.workers.items) e ∙ items,
    )

    pub decided_next : (next : Next) (whole : Bool) → old.turns < plan.turns → AllCompared whole old.workers.items → SomeLacks plan old
        → IsNext plan whole next mid new → IsDecided plan next old new
    decided_next Ends whole turns compared lacks n =
        let ticks : mid.ticks ≡ old.ticks = ap (λ (r : Run S). r.ticks) is in
        let over : plan.ticks ≤ mid.ticks = n.2 in
        (unticked n.0, (whole, compared), inr (inr (omega (arith, ticks, over), subst (λ b. AllCompared b old.workers.items) n.1 compared)))
    decided_next (Goes None) whole turns compared lacks n = (unticked n.0, turns, subst (λ b. AllCompared b old.workers.items) n.1 compared, lacks)
    decided_next (Goes (Some floor)) whole turns compared lacks n =
        let ticks : mid.ticks ≡ old.ticks = ap (λ (r : Run S). r.ticks) is in
        let few : mid.ticks < plan.ticks = n.2 in (
          ticked n.0,
          turns,
          omega (arith, ticks, few),
          subst (λ b. AllCompared b old.workers.items) n.1 compared,
          n.3 ∙ ap (fold (floor_by plan.faulty) 0) items,
          lacks,
        )

-- ---- how a run continues

module _ {S : Type 0} (fits : Check) (plan : Plan) (m : Meaning S) where
  module _ (gives : ℕ → Gives) (capacity : ℕ) where
    -- a round more, whose end was decided
    same_goes : (rounds ticks k : ℕ) (old new : Run S) → IsSame k old new → IsGoing fits plan m gives capacity rounds ticks old
        → IsGoing fits plan m gives capacity rounds ticks new
    same_goes rounds ticks k old new same g =
        let drivers = ap (λ (r : Run S). r.drivers.items) same.0 in
        let turns = ap (λ (r : Run S). r.turns) same.0 in
        let clients = ap (λ (r : Run S). r.clients.items) same.0 in
        let items = same.1 in record {
          manned = same_manned plan k old new same g.manned;
          stand = subst (AllStand fits plan m gives capacity) (sym items) g.stand;
          turns = turns ∙ g.turns ∙ ap (λ (ws : List (Working S)). turns_at plan (journals_at ws)) (sym items);
          few = subst (λ (t : ℕ). t < plan.turns + 32 * plan.setting.n) (sym turns) g.few;
          next = subst (λ (cs : List ClientWorker). (i : ℕ) (c : ClientWorker) → slice_get cs i ≡ Some c → c.fault ≡ None
              → c.next ≡ min c.count (64 * rounds)) (sym clients) g.next;
          timely = subst (λ (t : ℕ). IsTimely plan ticks t (journals_at new.workers.items) new.drivers.items) (sym turns)
              (subst (λ (ds : List Driver). IsTimely plan ticks old.turns (journals_at new.workers.items) ds) (sym drivers)
              (subst (λ (ws : List (Working S)). IsTimely plan ticks old.turns (journals_at ws) old.drivers.items) (sym items) g.timely));
          gone = λ taken. subst (λ (ws : List (Working S)). HasGoneOn fits plan m gives capacity rounds ticks (journals_at ws)) (sym items)
              (g.gone (subst (λ (ds : List Driver). AllTaken ds old.clients.items) drivers (subst (AllTaken new.drivers.items) clients taken)));
        }

    over_of : (rounds : ℕ) (old new : Run S) → IsGoing fits plan m gives capacity (rounds + 1) old.ticks old → IsCounted plan old
        → IsDecided plan Ends old new → IsOver fits plan m gives capacity new
    over_of rounds old new g counted d = record {
      rounds = rounds;
      going = subst (λ (k : ℕ). IsGoing fits plan m gives capacity (rounds + 1) k new) (sym ticks) (same_goes (rounds + 1) old.ticks old.ticks old new d.0 g);
      linked = subst (λ (ws : List (Working S)). AreLinked plan (journals_at ws)) (sym d.0.1)
          (links_are fits plan m gives capacity d.1.0 old.workers.items g.stand d.1.1);
      cause = by d.2;
    }
      where
        ticks : new.ticks ≡ old.ticks
        ticks = ap (λ (r : Run S). r.ticks) d.0.0

        turns : new.turns ≡ old.turns
        turns = ap (λ (r : Run S). r.turns) d.0.0

        by : (HoldAll plan old ⊎ ((plan.turns ≤ old.turns) ⊎ ((plan.ticks ≤ old.ticks) × AllCompared true old.workers.items)))
            → HoldAll plan new ⊎ ((plan.turns ≤ new.turns) ⊎ ((new.ticks ≡ plan.ticks) × IsWhole plan (journals_at new.workers.items)))
        by (inl all) = inl (hold_same plan new old (sym (ap (λ (r : Run S). r.due) d.0.0)) (sym d.0.1) all)
        by (inr (inl over)) = inr (inl (omega (arith, over, turns)))
        by (inr (inr c)) =
            let few = counted.few_ticks in
            let all = c.0 in inr (inr (
              omega (arith, few, all, ticks),
              subst (λ (ws : List (Working S)). IsWhole plan (journals_at ws)) (sym d.0.1) (whole_is fits plan m gives capacity old.workers.items g.stand c.1),
            ))

    goes_of : (rounds : ℕ) (old new : Run S) (tick : Option ℕ) → IsGoing fits plan m gives capacity (rounds + 1) old.ticks old
        → IsDecided plan (Goes tick) old new → MayGo fits plan m gives capacity tick new
    goes_of rounds old new None g d = record {
      rounds = rounds + 1;
      ticks = old.ticks;
      going = same_goes (rounds + 1) old.ticks old.ticks old new d.0 g;
      may = tt;
      first = λ is. refl;
      counted = (let t = ap (λ (r : Run S). r.ticks) d.0.0 in omega (arith, t));
    }
    goes_of rounds old new (Some floor) g d = record {
      rounds = rounds + 1;
      ticks = old.ticks;
      going = same_goes (rounds + 1) old.ticks (old.ticks + 1) old new d.0 g;
      may = subst (λ (ws : List (Working S)). MayTick fits plan gives capacity (journals_at ws) (Some floor)) (sym d.0.1) (record {
        whole = whole_is fits plan m gives capacity old.workers.items g.stand d.3;
        greatest = d.4 ∙ floor_of_all fits plan m gives capacity old g.manned g.stand;
        turns_left = subst (λ (t : ℕ). t < plan.turns) g.turns d.1;
        lacking = lacks_of fits plan m gives capacity old g.manned g.stand d.5;
      });
      first = λ is. absurd (omega (arith, is));
      counted = (let t = ap (λ (r : Run S). r.ticks) d.0.0 in omega (arith, t));
    }

  -- what was submitted, what the workers were informed of, a round, and what was then decided
  pub follows_on : (first old mid after new : Run S) (tick : Option ℕ) (next : Next) → Follows fits plan m first (Goes tick) old
      → HasHeard plan old.turns old mid → IsStep fits plan m tick mid after → IsManned plan after → IsCounted plan after
      → IsDecided plan next after new → Follows fits plan m first next new
  follows_on first old mid after new tick next f h s manned counted d = by next d
    where
      stepped : (gives : ℕ → Gives) (capacity : ℕ) → Begins fits plan m gives capacity first
          → (rounds : ℕ) × IsGoing fits plan m gives capacity (rounds + 1) after.ticks after
      stepped gives capacity b =
          let go = f gives capacity b in
          let heard = going_heard fits plan m gives capacity go.rounds go.ticks old.turns old mid (omega arith) go.going h in
          let same : mid.turns ≡ old.turns = ap (λ (r : Run S). r.turns) h.same in
          let ticks : go.ticks + ticks_of tick ≡ after.ticks = sym go.counted ∙ sym (ap (λ (r : Run S). r.ticks) h.same)
          ∙ sym (ap (λ (r : Run S). r.ticks) s.same) in (
            go.rounds,
            subst (λ (k : ℕ). IsGoing fits plan m gives capacity (go.rounds + 1) k after) ticks
                (going_step fits plan m gives capacity go.rounds go.ticks tick mid after heard s manned counted
                (subst (λ n. MayTick fits plan gives capacity n tick) (sym (journals_heard old.workers.items mid.workers.items h.workers)) go.may) go.first
                (λ taken at lt. subst (λ (t : ℕ). Rattle.round_rules.specs.Moments.Holds plan at t (64 * go.rounds)
                (Rattle.thread_run.specs.Standing.seen_at mid.workers.items at))
                (sym same) (holds_heard fits plan m gives capacity go.rounds go.ticks old.turns old mid (omega arith) go.going h taken at lt))),
          )

      by : (next : Next) → IsDecided plan next after new → Follows fits plan m first next new
      by Ends d = λ gives capacity b.
          let (rounds, g) = stepped gives capacity b in
          over_of gives capacity rounds after new g counted d
      by (Goes t) d = λ gives capacity b. (let (rounds, g) = stepped gives capacity b in goes_of gives capacity rounds after new t g d)
