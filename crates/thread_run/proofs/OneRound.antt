-- A round of a run.
use Rattle.std.proofs.Common.{◌≡◌, ℕ, zero, suc, ◌+◌, ◌*◌, ◌<◌, ◌≤◌, List, [], ◌∷◌, get_or, refl, ap, sym, subst, ◌∙◌, arith}
use Rattle.std.specs.Prelude.{All, Bool, Option, Some, None, true, false, max, slice_get, sum_by, if◌then◌else◌}
use Rattle.std.specs.List.{AllZip, fold, range_with_len}
use Rattle.std.proofs.lemmas.Option.{same_Some, slice_get-get_or, slice_get_within}
use Rattle.seq_base.specs.declared.tx.Tx.{Tx}
use Rattle.count_set.specs.Sets.{is_among}
use Rattle.locked_log.specs.History.{Opened as Log}
use Rattle.mailbox.specs.Boxes.{Opened as Box}
use Rattle.client_logs.specs.Clients.{OfClient}
use Rattle.client_logs.specs.declared.client.Client.{Client as ClientWorker}
use Rattle.plan_text.specs.declared.plan.Plan.{Plan}
use Rattle.plan_text.specs.Rules.{KeepsRules}
use Rattle.run_record.specs.Done.{hold_all}
use Rattle.node_core.specs.Rows.{Check}
use Rattle.node_core.specs.Reported.{Gives}
use Rattle.node_core.specs.declared.entry.Entry.{Entry}
use Rattle.replica_seat.specs.Seats.{Meaning, Replica as SeatedReplica, holds_due, replica_of}
use Rattle.replica_seat.specs.Showing.{batches_of}
use Rattle.round_rules.specs.Acts.{after_events}
use Rattle.round_rules.specs.Journals.{deliveries, events_of}
use Rattle.round_rules.specs.Moments.{Holds, LacksOne, Moment, batches_at, due_in, floor_at, turns_at, view_at}
use Rattle.round_rules.specs.Rounds.{HasGone, IsRound, MayTick, nothing, ticks_of}
use Rattle.round_rules.proofs.NextRound.{gone_first, gone_on}
use Rattle.thread_run.specs.declared.driver.Driver.{Driver}
use Rattle.thread_run.specs.declared.runs.Run.{Run}
use Rattle.thread_run.specs.Going.{AllTaken, HasGoneOn, IsGoing, IsManned}
use Rattle.thread_run.specs.Standing.{AllStand, NoneFailed, Stands, journals_at, seen_at}
use Rattle.thread_run.specs.Steps.{IsCounted, IsStep, SomeLacks, floor_by, turns_by}
use Rattle.thread_run.specs.Timely.{IsTimely}
use Rattle.thread_run.specs.Workers.{ClientWorked, Ready, Worked, Working}
use Rattle.thread_run.proofs.WorkerCounts.{fold_places}
use Rattle.thread_run.proofs.JournalRounds.{journal_is, round_gains, round_stands}
use Rattle.thread_run.proofs.MannedRuns.{Remains, Serves, manned_on, turns_within}
use Rattle.thread_run.proofs.WorkerInvariant.{replica_is}
use Rattle.thread_run.proofs.TimelyRuns.{timely_round}
use Rattle.thread_run.proofs.Zips.{all_places, zip_back, zip_map, zip_there}

module _ {S : Type 0} (fits : Check) (plan : Plan) (m : Meaning S) (logs : List Log) (boxes : List Box) (tick : Option ℕ) where
  abbrev WorkedHere : Working S → Working S → Type 0
  WorkedHere v w = Worked fits plan m logs boxes tick v w

  all_serve : (vs ws : List (Working S)) → AllZip WorkedHere vs ws → NoneFailed ws → AllZip Serves vs ws
  all_serve [] [] z ok = tt
  all_serve [] (w ∷ ws) z ok = absurd z
  all_serve (v ∷ vs) [] z ok = absurd z
  all_serve (v ∷ vs) (w ∷ ws) z ok = (
    (let works = (z.0 (ok 0 w refl)).0 in (works.did.at, works.did.log, λ was. ok 0 w refl)),
    all_serve vs ws z.1 (λ at x is. ok (suc at) x is),
  )

  all_ready : (vs ws : List (Working S)) → AllZip WorkedHere vs ws → NoneFailed ws → sum_by turns_by ws + 32 < 4294967296 → All (Ready logs boxes) ws
  all_ready vs ws z ok few i d lt =
      let w : Working S = get_or ws i d in
      let is = slice_get-get_or ws i d lt in
      let (v, there, k) = zip_back WorkedHere vs ws i w z is in
      let within = turns_within ws i w is in ((k (ok i w is)).1, omega (arith, within, few))

client_remains : (logs : List Log) (c d : ClientWorker) → ClientWorked logs c d → Remains c d
client_remains logs c d k = (k.1.same.0, k.1.same.1)

module _ {S : Type 0} (fits : Check) (plan : Plan) (m : Meaning S) (tick : Option ℕ) (old new : Run S) (s : IsStep fits plan m tick old new) where
  pub step_counted : IsCounted plan old → new.turns < plan.turns + 32 * plan.setting.n → IsCounted plan new
  step_counted counted few =
      record { turns = s.turns; few = few; few_ticks = subst (λ (k : ℕ). k ≤ plan.ticks) (sym (ap (λ (r : Run S). r.ticks) s.same)) counted.few_ticks }

  pub step_manned : KeepsRules plan → IsManned plan old → new.turns < plan.turns + 32 * plan.setting.n → IsManned plan new
  step_manned rules manned few =
      let most = rules.few_turns in
      let n = rules.setting.replicas.few in
      let sum = s.turns in
      manned_on plan old new.workers.items new.clients.items old.drivers.items manned
      (all_serve fits plan m old.world.logs.items old.world.boxes.items tick old.workers.items new.workers.items s.worked s.none)
      (zip_map (ClientWorked old.world.logs.items) Remains (client_remains old.world.logs.items) old.clients.items new.clients.items s.went)
      (all_ready fits plan m old.world.logs.items old.world.boxes.items tick old.workers.items new.workers.items s.worked s.none
      (omega (arith, most, n, sum, few)))
      (all_places (OfClient old.world.logs.items) new.clients.items
      (λ k d is. (let (c, there, went) = zip_back (ClientWorked old.world.logs.items) old.clients.items new.clients.items k d s.went is in went.0)))
      manned.drivers manned.parts manned.given new (ap (λ (r : Run S). r.world) s.same) (ap (λ (r : Run S). r.due) s.same) refl refl
      (ap (λ (r : Run S). r.drivers.items) s.same)

  pub step_taken : AllTaken new.drivers.items new.clients.items → AllTaken old.drivers.items old.clients.items
  step_taken t = record {
    drivers_took = subst (λ (ds : List Driver). (at : ℕ) (d : Driver) → slice_get ds at ≡ Some d → d.fault ≡ None)
        (ap (λ (r : Run S). r.drivers.items) s.same) t.drivers_took;
    clients_took = λ k c is.
        let (d, here, went) = zip_there (ClientWorked old.world.logs.items) old.clients.items new.clients.items k c s.went is in
        (went.1.next (t.clients_took k d here)).0;
  }

-- ---- counts and views over the places

module _ {S : Type 0} (fits : Check) (plan : Plan) (m : Meaning S) (gives : ℕ → Gives) (capacity : ℕ) (run : Run S)
    (manned : IsManned plan run) (stand : AllStand fits plan m gives capacity run.workers.items) where
  abbrev workers : List (Working S)
  workers = run.workers.items

  -- the worker at a place, which stands there
  stands_at : (i : ℕ) (w : Working S) → slice_get workers i ≡ Some w → (i < plan.setting.n) × Stands fits plan m (gives i) capacity i w
  stands_at i w is =
      let within = slice_get_within workers i w is in
      let len = manned.workers in
      let lt : i < plan.setting.n = omega (arith, within, len) in
      let (x, x_is, st) = stand i lt in (lt, subst (Stands fits plan m (gives i) capacity i) (same_Some x w (sym x_is ∙ is)) st)

  turns_are : (i : ℕ) (w : Working S) → slice_get workers i ≡ Some w → turns_by w ≡ deliveries (events_of (journals_at workers i))
  turns_are i w is =
      let st = (stands_at i w is).1 in
      let none = st.new.turns in
      let did = st.did.turns in
      let counted : w.turns ≡ deliveries (events_of w.seat.journal) = omega (arith, none, did) in
      counted ∙ ap (λ (j : List Entry). deliveries (events_of j)) (sym (journal_is workers i w is))

  pub counted_turns : sum_by turns_by workers ≡ turns_at plan (journals_at workers)
  counted_turns =
      fold_places (λ a w. a + turns_by w) (λ a at. a + deliveries (events_of (journals_at workers at))) workers 0 0
      (λ i w b is. (let at : 0 + i ≡ i = omega arith in
      ap (λ (k : ℕ). b + k) (turns_are i w is) ∙ ap (λ (k : ℕ). b + deliveries (events_of (journals_at workers k))) (sym at)))
      ∙ ap (λ (n : ℕ). fold (λ a at. a + deliveries (events_of (journals_at workers at))) 0 (range_with_len 0 n)) manned.workers

  abbrev lift : ℕ → ℕ → ℕ
  lift floor at = if is_among plan.faulty at then floor else max (view_at fits plan gives capacity (journals_at workers) at) floor

  floor_is : (i : ℕ) (w : Working S) (b : ℕ) → slice_get workers i ≡ Some w → floor_by plan.faulty b w ≡ lift b i
  floor_is i w b is =
      let st = (stands_at i w is).1 in
      let place : w.at ≡ i = st.did.at ∙ st.new.place in
      let replica = replica_is fits plan m (gives i) capacity i w st in
      let view : w.seat.node.state.known.view ≡ view_at fits plan gives capacity (journals_at workers) i =
      ap (λ (r : SeatedReplica). r.state.known.view) replica
      ∙ ap (λ (j : List Entry). (after_events fits plan (gives i) capacity i (events_of j)).replica.state.known.view) (sym (journal_is workers i w is)) in
      ap (λ (k : ℕ). if is_among plan.faulty k then b else max w.seat.node.state.known.view b) place
      ∙ ap (λ (v : ℕ). if is_among plan.faulty i then b else max v b) view

  pub floor_of_all : fold (floor_by plan.faulty) 0 workers ≡ floor_at fits plan gives capacity (journals_at workers)
  floor_of_all =
      fold_places (floor_by plan.faulty) lift workers 0 0 (λ i w b is. (let at : 0 + i ≡ i = omega arith in floor_is i w b is ∙ ap (lift b) (sym at)))
      ∙ ap (λ (n : ℕ). fold lift 0 (range_with_len 0 n)) manned.workers

  -- where one lacks something that is due, its replica is honest, and its node lacks it
  asked_of : (b h : Bool) → (if b then true else h) ≡ false → (b ≡ false) × (h ≡ false)
  asked_of true h is = absurd (cc)
  asked_of false h is = (refl, is)

  pub lacks_of : SomeLacks plan run → LacksOne fits plan gives capacity (due_in plan) (journals_at workers)
  unfolding holds_due
  lacks_of l =
      let w : Working S = l.worker in
      let (lt, stands) = stands_at l.at w l.there in
      let place : w.at ≡ l.at = stands.did.at ∙ stands.new.place in
      let both = asked_of (is_among plan.faulty w.at) (holds_due run.due w.seat.node.state.known) l.lacks in
      let node : replica_of m w.seat ≡ (after_events fits plan (gives l.at) capacity l.at (events_of (journals_at workers l.at))).replica =
      replica_is fits plan m (gives l.at) capacity l.at w stands
      ∙ ap (λ (j : List Entry). (after_events fits plan (gives l.at) capacity l.at (events_of j)).replica) (sym (journal_is workers l.at w l.there)) in
      let batches : batches_at fits plan gives capacity (journals_at workers) l.at ≡ batches_of (replica_of m w.seat) = ap batches_of (sym node) in
      record {
        replica = l.at;
        below = lt;
        honest = ap (is_among plan.faulty) (sym place) ∙ both.0;
        lacks = ap (λ (b : List (List Tx)). hold_all b (due_in plan)) batches
            ∙ ap (λ (l : List Tx). hold_all (batches_of (replica_of m w.seat)) l) (sym manned.due) ∙ both.1;
      }

-- ---- a round keeps what was so

module _ {S : Type 0} (fits : Check) (plan : Plan) (m : Meaning S) (gives : ℕ → Gives) (capacity : ℕ) where
  pub going_step : (rounds ticks : ℕ) (tick : Option ℕ) (old new : Run S) → IsGoing fits plan m gives capacity rounds ticks old
      → IsStep fits plan m tick old new → IsManned plan new → IsCounted plan new
      → MayTick fits plan gives capacity (journals_at old.workers.items) tick → (rounds ≡ 0 → tick ≡ None)
      → (AllTaken old.drivers.items old.clients.items → (at : ℕ) → at < plan.setting.n → Holds plan at old.turns (64 * rounds) (seen_at old.workers.items at))
      → IsGoing fits plan m gives capacity (rounds + 1) (ticks + ticks_of tick) new
  going_step rounds ticks tick old new g s manned counted may first holds = record {
    manned = manned;
    stand = stand;
    turns = counted.turns ∙ counted_turns fits plan m gives capacity new manned stand;
    few = counted.few;
    next = λ k d is none.
        let (c, there, went) = zip_back (ClientWorked logs) old.clients.items new.clients.items k d s.went is in
        let (was_none, next) = went.1.next none in
        let before = g.next k c there was_none in
        let count = went.1.same.1 in
        omega (arith, next, before, count);
    timely = timely_round plan before now tick (seen_at old.workers.items) ticks old.turns new.turns new.drivers.items round g.turns
        (counted.turns ∙ counted_turns fits plan m gives capacity new manned stand) manned.given
        (subst (IsTimely plan ticks old.turns before) (ap (λ (r : Run S). r.drivers.items) (sym s.same)) g.timely);
    gone = λ taken. (let was = step_taken fits plan m tick old new s taken in go rounds tick refl first (g.gone was) round may (holds was));
  }
    where
      logs : List Log
      logs = old.world.logs.items

      boxes : List Box
      boxes = old.world.boxes.items

      before : Moment
      before = journals_at old.workers.items

      now : Moment
      now = journals_at new.workers.items

      stand : AllStand fits plan m gives capacity new.workers.items
      stand = round_stands fits plan m gives capacity logs boxes tick old.workers.items new.workers.items g.stand s.worked s.none

      round : IsRound plan tick (seen_at old.workers.items) before now
      round = round_gains fits plan m gives capacity logs boxes tick old.workers.items new.workers.items g.stand s.worked s.none

      go : (r : ℕ) (t : Option ℕ) → rounds ≡ r → (r ≡ 0 → t ≡ None) → HasGoneOn fits plan m gives capacity r ticks before
          → IsRound plan t (seen_at old.workers.items) before now
          → MayTick fits plan gives capacity before t
          → ((at : ℕ) → at < plan.setting.n → Holds plan at old.turns (64 * rounds) (seen_at old.workers.items at))
          → HasGoneOn fits plan m gives capacity (r + 1) (ticks + ticks_of t) now
      go zero (Some floor) is one gone r may' h = absurd (let bad = one refl in cc (bad))
      go zero None is one gone r may' h =
          let none : ticks + 0 ≡ 0 = (let t = gone.0 in omega (arith, t)) in
          let opened : IsRound plan None (seen_at old.workers.items) nothing now =
          λ at lt. subst (λ (l : List Entry). Rattle.round_rules.specs.Rounds.Gains None (seen_at old.workers.items at) l (now at))
          (gone.1 at lt) (r at lt) in
          let less : (at : ℕ) → at < plan.setting.n → Holds plan at 0 0 (seen_at old.workers.items at) =
          λ at lt. Rattle.round_rules.proofs.GrownJournals.holds_less plan at old.turns 0 (64 * rounds) 0 (seen_at old.workers.items at)
          (omega arith) (omega arith) (h at lt) in (
            0,
            subst (λ (k : ℕ). HasGone fits plan gives capacity 1 k 0 now) (sym none)
                (gone_first fits plan gives capacity now (seen_at old.workers.items) opened less),
          )
      go (suc k) t is one gone r may' h =
          let next : suc k + 1 ≡ suc (suc k) = omega arith in
          let held : (at : ℕ) → at < plan.setting.n → Holds plan at (turns_at plan before) (64 * suc k) (seen_at old.workers.items at) =
          λ at lt. subst (λ (n : ℕ). Holds plan at n (64 * suc k) (seen_at old.workers.items at)) g.turns
          (subst (λ (n : ℕ). Holds plan at old.turns (64 * n) (seen_at old.workers.items at)) is (h at lt)) in
          let more : HasGone fits plan gives capacity (suc k + 1) (ticks + ticks_of t) (turns_at plan before) now =
          gone_on fits plan gives capacity before now t (seen_at old.workers.items) (suc k) ticks gone.0 gone.1 r may' held in
          subst (λ (n : ℕ). HasGoneOn fits plan m gives capacity n (ticks + ticks_of t) now) (sym next)
          (turns_at plan before, subst (λ (n : ℕ). HasGone fits plan gives capacity n (ticks + ticks_of t) (turns_at plan before) now) next more)
