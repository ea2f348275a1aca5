-- What the workers are informed of before a round, and what a run preserves meanwhile.
use Rattle.std.proofs.Common.{◌≡◌, ℕ, zero, suc, ◌+◌, ◌*◌, ◌<◌, ◌≤◌, List, [], ◌∷◌, ◌++◌, get_or, take, drop, map, min, refl, ap, sym, subst, ◌∙◌, arith}
use Rattle.std.proofs.lemmas.Bool.{and_parts}
use Rattle.std.specs.Prelude.{All, Some, None, true, nat_le, slice_get}
use Rattle.std.specs.List.{AllByRecursion, AllZip, list_all, range_with_len}
use Rattle.std.proofs.lemmas.Option.{get_or_from_slice_get, slice_get-get_or}
use Rattle.std.proofs.lemmas.List.Elements.{All-from_recursion}
use Rattle.seq_base.specs.declared.tx.Tx.{Tx}
use Rattle.seq_base.specs.Lists.{holds}
use Rattle.locked_log.specs.History.{Opened as Log}
use Rattle.mailbox.specs.Boxes.{Opened as Box}
use Rattle.client_logs.specs.Clients.{numbered, numbered_tx}
use Rattle.client_logs.specs.Submitted.{HoldsEach}
use Rattle.client_logs.specs.declared.client.Client.{Client as ClientWorker}
use Rattle.plan_text.specs.declared.plan.Client.{Client as Sender}
use Rattle.plan_text.specs.declared.plan.Plan.{Plan}
use Rattle.node_core.specs.Rows.{Check}
use Rattle.node_core.specs.Reported.{Gives}
use Rattle.replica_seat.specs.Feed.{Fed, arrivals_for, count_by_now, txs_of}
use Rattle.replica_seat.specs.Seats.{Meaning}
use Rattle.replica_seat.specs.declared.arrivals.TimedTx.{TimedTx}
use Rattle.round_rules.specs.Moments.{Holds, Moment, turns_at}
use Rattle.round_rules.specs.Submissions.{client_list}
use Rattle.round_rules.proofs.Places.{all_at, found_at}
use Rattle.thread_run.specs.declared.driver.Driver.{Driver}
use Rattle.thread_run.specs.declared.runs.Run.{Run}
use Rattle.thread_run.specs.Going.{AllTaken, HasGoneOn, IsClientOf, IsGoing}
use Rattle.thread_run.specs.Standing.{AllStand, journals_at, seen_at}
use Rattle.thread_run.specs.Steps.{HasHeard, Submits}
use Rattle.thread_run.specs.Exchange.{DriverHears, HoldsOf, IsDriverOf, IsReportedAll, ReportedClient, ReportedWorker}
use Rattle.thread_run.specs.Timely.{IsTimely}
use Rattle.thread_run.specs.Workers.{Ready, Working}
use Rattle.thread_run.proofs.ArrivalTurns.{IsLate, later_left}
use Rattle.thread_run.proofs.JournalRounds.{hears_stands, seen_is}
use Rattle.thread_run.proofs.LogNews.{held_longer}
use Rattle.thread_run.proofs.TimelyRuns.{early_after, given_heard, known_within}
use Rattle.client_logs.proofs.Zips.{zip_length}
use Rattle.thread_run.proofs.Zips.{same_at_each, zip_back, zip_there}

module _ {S : Type 0} where
  -- ---- journals

  place_heard : (vs ws : List (Working S)) (at : ℕ) → AllZip ReportedWorker vs ws → journals_at ws at ≡ journals_at vs at
  place_heard [] [] at z = refl
  place_heard [] (w ∷ ws) at z = absurd z
  place_heard (v ∷ vs) [] at z = absurd z
  place_heard (v ∷ vs) (w ∷ ws) zero z = ap (λ (x : Working S). x.seat.journal) z.0.rest
  place_heard (v ∷ vs) (w ∷ ws) (suc at) z = place_heard vs ws at z.1

  pub journals_heard : (vs ws : List (Working S)) → AllZip ReportedWorker vs ws → journals_at ws ≡ journals_at vs
  journals_heard vs ws z = same_at_each (journals_at ws) (journals_at vs) (λ at. place_heard vs ws at z)

  -- ---- workers

  pub taken_heard : (plan : Plan) (turns : ℕ) (old new : Run S) → HasHeard plan turns old new → AllTaken new.drivers.items new.clients.items
      → AllTaken old.drivers.items old.clients.items
  taken_heard plan turns old new h t = record {
    drivers_took = λ at a is.
        let (b, there, sub) = zip_there (Submits turns) old.drivers.items h.between at a h.submitted is in
        let (e, here, heard) = zip_there DriverHears h.between new.drivers.items at b h.heard there in
        sub.0 (sym heard.fault ∙ t.drivers_took at e here);
    clients_took = λ k c is.
        let (d, here, heard) = zip_there ReportedClient old.clients.items new.clients.items k c h.clients is in
        sym heard.same.3 ∙ t.clients_took k d here;
  }

  module _ (fits : Check) (plan : Plan) (m : Meaning S) (gives : ℕ → Gives) (capacity : ℕ) where
    pub stands_heard : (logs : List Log) (boxes : List Box) (vs ws : List (Working S)) → All (Ready logs boxes) vs
        → AllZip ReportedWorker vs ws → AllStand fits plan m gives capacity vs → AllStand fits plan m gives capacity ws
    stands_heard logs boxes vs ws ready z stand at lt =
        let (v, is, s) = stand at lt in
        let (w, here, reported) = zip_there ReportedWorker vs ws at v z is in
        let own : Ready logs boxes v = all_at (Ready logs boxes) vs at v ready is in
        (w, here, hears_stands fits plan m gives capacity at v w own.0.known reported s)

    pub timely_heard : (rounds ticks turns : ℕ) (old new : Run S) → turns ≤ old.turns → IsGoing fits plan m gives capacity rounds ticks old
        → HasHeard plan turns old new → IsTimely plan ticks old.turns (journals_at old.workers.items) new.drivers.items
    timely_heard rounds ticks turns old new le g h = record {
      ticked = g.timely.ticked;
      early = early_after plan ticks old.turns (journals_at old.workers.items) old.workers.items old.drivers.items new.drivers.items
          (known_within fits plan m gives capacity old.workers.items g.stand) h.after g.timely;
      given = given_heard plan turns old.turns old new le h g.timely.given;
    }

    pub going_heard : (rounds ticks turns : ℕ) (old new : Run S) → turns ≤ old.turns → IsGoing fits plan m gives capacity rounds ticks old
        → HasHeard plan turns old new → IsGoing fits plan m gives capacity rounds ticks new
    going_heard rounds ticks turns old new le g h =
        let journals = journals_heard old.workers.items new.workers.items h.workers in
        let same : new.turns ≡ old.turns = ap (λ (r : Run S). r.turns) h.same in record {
          manned = h.manned;
          stand = stands_heard old.world.logs.items old.world.boxes.items old.workers.items new.workers.items g.manned.ready h.workers g.stand;
          turns = same ∙ g.turns ∙ ap (turns_at plan) (sym journals);
          few = subst (λ (t : ℕ). t < plan.turns + 32 * plan.setting.n) (sym same) g.few;
          next = λ k d is none.
              let (c, there, heard) = zip_back ReportedClient old.clients.items new.clients.items k d h.clients is in
              heard.same.2 ∙ g.next k c there (sym heard.same.3 ∙ none) ∙ ap (λ (n : ℕ). min n (64 * rounds)) (sym heard.same.1);
          timely = subst (λ (t : ℕ). IsTimely plan ticks t (journals_at new.workers.items) new.drivers.items) (sym same)
              (subst (λ (n : Moment). IsTimely plan ticks old.turns n new.drivers.items) (sym journals) (timely_heard rounds ticks turns old new le g h));
          gone = λ taken. subst (HasGoneOn fits plan m gives capacity rounds ticks) (sym journals) (g.gone (taken_heard plan turns old new h taken));
        }

-- ---- what is known of the arrivals

abbrev KnownBy : ℕ → List Tx → TimedTx → Type 0
KnownBy turns seen t = nat_le t.turn turns ≡ true → holds t.tx seen ≡ true

all_known : (turns : ℕ) (seen : List Tx) (given left : List TimedTx) → HoldsEach seen (txs_of given) → AllByRecursion (IsLate turns) left
    → AllByRecursion (KnownBy turns seen) (given ++ left)
all_known turns seen [] [] held late = tt
all_known turns seen [] (t ∷ left) held late = (λ so. absurd (let no = late.0 in cc (so, no)), all_known turns seen [] left held late.1)
all_known turns seen (t ∷ given) left held late =
    let both = and_parts (holds t.tx seen) (list_all (λ x. holds x seen) (txs_of given)) held in (λ so. both.0, all_known turns seen given left both.1 late)

numbered_first : (f : ℕ → Tx) (a m n : ℕ) → take m (map f (range_with_len a n)) ≡ map f (range_with_len a (min n m))
numbered_first f a zero zero = refl
numbered_first f a (suc m) zero = (let none : 0 ≡ min 0 (suc m) = omega arith in ap (λ (k : ℕ). map f (range_with_len a k)) none)
numbered_first f a zero (suc n) = (let none : 0 ≡ min (suc n) 0 = omega arith in ap (λ (k : ℕ). map f (range_with_len a k)) none)
numbered_first f a (suc m) (suc n) =
    let one : suc (min n m) ≡ min (suc n) (suc m) = omega arith in
    ap (λ (l : List Tx). f a ∷ l) (numbered_first f (a + 1) m n) ∙ ap (λ (k : ℕ). map f (range_with_len a k)) one

all_hold : (seen : List Tx) (txs : List Tx) → HoldsEach seen txs → AllByRecursion (λ t. holds t seen ≡ true) txs
all_hold seen [] h = tt
all_hold seen (t ∷ txs) h = (let both = and_parts (holds t seen) (list_all (λ x. holds x seen) txs) h in (both.0, all_hold seen txs both.1))

module _ {S : Type 0} (fits : Check) (plan : Plan) (m : Meaning S) (gives : ℕ → Gives) (capacity rounds ticks turns : ℕ) (old new : Run S)
    (le : turns ≤ old.turns) (g : IsGoing fits plan m gives capacity rounds ticks old) (h : HasHeard plan turns old new)
    (taken : AllTaken new.drivers.items new.clients.items) where
  client_known : (seen : List Tx) → ((i : ℕ) (c : ClientWorker) → slice_get new.clients.items i ≡ Some c → HoldsOf seen c)
      → (k : ℕ) (p : Sender) → slice_get plan.clients k ≡ Some p
      → All (λ t. holds t seen ≡ true) (take (64 * rounds) (client_list p))
  client_known seen held k p is =
      let (c, found, of) = zip_there IsClientOf plan.clients new.clients.items k p h.manned.clients is in
      let none = taken.clients_took k c found in
      let next = (going_heard fits plan m gives capacity rounds ticks turns old new le g h).next k c found none in
      let first : numbered c.id c.next ≡ take (64 * rounds) (client_list p) =
      ap (λ (i : ℕ). numbered i c.next) of.0 ∙ ap (numbered p.id) (next ∙ ap (λ (n : ℕ). min n (64 * rounds)) of.1)
      ∙ sym (numbered_first (numbered_tx p.id) 1 (64 * rounds) p.count) in
      All-from_recursion (λ t. holds t seen ≡ true) (take (64 * rounds) (client_list p))
      (all_hold seen (take (64 * rounds) (client_list p)) (subst (HoldsEach seen) first (held k c found none)))

  -- before a round each replica's worker has seen what arrives by the turns, and what the clients have submitted
  pub holds_heard : (at : ℕ) → at < plan.setting.n → Holds plan at turns (64 * rounds) (seen_at new.workers.items at)
  holds_heard at lt =
      let (w, is, fresh, ok) = h.manned.replicas at lt in
      let drivers = zip_length IsDriverOf new.world.logs.items new.drivers.items h.manned.drivers in
      let logs = h.manned.logs in
      let (e, e_is) = found_at new.drivers.items at (omega (arith, lt, drivers, logs)) in
      let (b, b_is, heard) = zip_back DriverHears h.between new.drivers.items at e h.heard e_is in
      let (a, a_is, sub) = zip_back (Submits turns) old.drivers.items h.between at b h.submitted b_is in
      let none : b.fault ≡ None = sym heard.fault ∙ taken.drivers_took at e e_is in
      let workers = new.workers.items in
      let clients = new.clients.items in
      let reported : IsReportedAll b.pass.seen clients w =
      subst (IsReportedAll b.pass.seen clients) (get_or_from_slice_get workers at w w is)
      (subst (λ (y : Driver). IsReportedAll y.pass.seen clients (get_or workers at w)) (get_or_from_slice_get h.between at b b b_is) (h.reported at b lt w)) in
      let given = h.given at b b_is in
      let before = g.manned.given at a a_is in
      let left : b.feed.left ≡ drop (count_by_now turns a.feed.left) a.feed.left = ap (λ (f : Fed). f.left) sub.1 in
      let late : AllByRecursion (IsLate turns) b.feed.left =
      subst (AllByRecursion (IsLate turns)) (sym left) (later_left turns plan.arrivals at before.given a.feed.left before.all_is) in
      let held = held_longer b.pass.seen w.log.seen (txs_of given.given) reported.0 (given.tried.held none) in
      subst (Holds plan at turns (64 * rounds)) (sym (seen_is workers at w is)) (record {
        arrivals = All-from_recursion (KnownBy turns w.log.seen) (arrivals_for plan.arrivals at)
            (subst (AllByRecursion (KnownBy turns w.log.seen)) (sym given.all_is) (all_known turns w.log.seen given.given b.feed.left held late));
        clients = λ k p within. client_known w.log.seen reported.1 k (get_or plan.clients k p) (slice_get-get_or plan.clients k p within);
      })
