-- What the driver submits, and what the workers are then informed of.
use Rattle.std.proofs.Common.{◌≡◌, ℕ, ◌+◌, ◌<◌, ◌≤◌, ◌==◌, List, [], ◌∷◌, length, get_or, refl, ap, sym, subst, ◌∙◌, inl, inr, arith}
use Rattle.std.specs.Prelude.{All, Some, slice_get, slice_set}
use Rattle.std.specs.List.{AllZip}
use Rattle.std.proofs.lemmas.Bool.{cases_Bool}
use Rattle.std.proofs.lemmas.Bool.Decides.{nat_tests}
use Rattle.std.proofs.lemmas.List.{length-set}
use Rattle.std.proofs.lemmas.Option.{get_or_from_slice_get, same_Some, slice_get-get_or, slice_get_within}
use mathlib.Core.List.{IsPrefix}
use Rattle.locked_log.specs.History.{Opened as Log}
use Rattle.locked_log.proofs.Lists.{prefix_length}
use Rattle.client_logs.specs.Clients.{OfClient}
use Rattle.client_logs.specs.declared.client.Client.{Client as ClientWorker}
use Rattle.plan_text.specs.declared.plan.Plan.{Plan}
use Rattle.replica_seat.specs.Feed.{after_giving, arrivals_for}
use Rattle.replica_seat.specs.declared.arrivals.TimedTx.{TimedTx}
use Rattle.thread_run.specs.declared.driver.Driver.{Driver}
use Rattle.thread_run.specs.declared.runs.Run.{Run}
use Rattle.thread_run.specs.Going.{DriverGoes, HasGiven, IsManned}
use Rattle.thread_run.specs.Standing.{seen_at}
use Rattle.thread_run.specs.Steps.{HasHeard, HasSubmitted, HasReported, Submits}
use Rattle.thread_run.specs.Exchange.{DriverHears, HeardFirst, IsDriverOf, ReportedClient, ReportedFirst, ReportedWorker}
use Rattle.thread_run.specs.Workers.{Ready, Working}
use Rattle.thread_run.proofs.WorkDone.{looked_self}
use Rattle.thread_run.proofs.DriverLog.{given_looked, own_on}
use Rattle.thread_run.proofs.LogNews.{clients_hear, workers_hear}
use Rattle.thread_run.proofs.MannedRuns.{PartsAddUp, Remains, Serves, client_remains, manned_on, serves_heard}
use Rattle.thread_run.proofs.Timeliness.{goes_from_on, goes_looked, goes_lower, goes_of}
use Rattle.client_logs.proofs.Zips.{zip_at, zip_length, zip_set}
use Rattle.thread_run.proofs.Zips.{or_other, or_set, zip_back, zip_map, zip_of, zip_self}
use Rattle.round_rules.proofs.Places.{get_other, get_set}

-- the driver submitted what arrives at the first logs
pub record SoManySubmit {S : Type 0} (plan : Plan) (turns k : ℕ) (old new : Run S) : Type 0 where
  pub submitted : (at : ℕ) (d : Driver) → at < k → Submits turns (get_or old.drivers.items at d) (get_or new.drivers.items at d)
  pub others : (at : ℕ) (d : Driver) → k ≤ at → get_or new.drivers.items at d ≡ get_or old.drivers.items at d
  pub count : length new.drivers.items ≡ length old.drivers.items
  pub manned : IsManned plan new
  pub same : new ≡ record old { drivers = new.drivers }

-- what was submitted once the driver had heard something was submitted from where it was before
submits_looked : (turns : ℕ) (a b c : Driver) → DriverHears a b → Submits turns b c → Submits turns a c
submits_looked turns a b c h s = (
  λ none. sym h.fault ∙ s.0 none,
  s.1 ∙ ap (after_giving turns) h.feed,
  goes_from_on (length a.pass.seen) (length b.pass.seen) a.pass b.pass c.pass (prefix_length a.pass.seen b.pass.seen h.looked.later)
      (goes_looked (length a.pass.seen) a.pass b.pass h.looked) s.2,
)

submits_heard : (turns : ℕ) (ds fs bs : List Driver) → AllZip DriverHears ds fs → AllZip (Submits turns) fs bs → AllZip (Submits turns) ds bs
submits_heard turns [] [] [] h s = tt
submits_heard turns [] [] (b ∷ bs) h s = absurd s
submits_heard turns [] (f ∷ fs) bs h s = absurd h
submits_heard turns (d ∷ ds) [] bs h s = absurd h
submits_heard turns (d ∷ ds) (f ∷ fs) [] h s = absurd s
submits_heard turns (d ∷ ds) (f ∷ fs) (b ∷ bs) h s = (submits_looked turns d f b h.0 s.0, submits_heard turns ds fs bs h.1 s.1)

parts_heard : (plan : Plan) (logs : List Log) (ds es : List Driver) → AllZip (PartsAddUp plan) logs ds → AllZip DriverHears ds es
    → AllZip (PartsAddUp plan) logs es
parts_heard plan [] [] [] z h = tt
parts_heard plan [] [] (e ∷ es) z h = absurd h
parts_heard plan [] (d ∷ ds) es z h = absurd z
parts_heard plan (l ∷ logs) [] es z h = absurd z
parts_heard plan (l ∷ logs) (d ∷ ds) [] z h = absurd h
parts_heard plan (l ∷ logs) (d ∷ ds) (e ∷ es) z h = (
  z.0
      ∙ ap (λ (n : ℕ). n + 1 + length plan.clients)
      (sym (ap (λ (p : Rattle.locked_log.specs.History.Known Rattle.seq_base.specs.declared.tx.Tx.Tx). p.parts) h.0.looked.same)),
  parts_heard plan logs ds es z.1 h.1,
)

pub remain_self : (cs : List ClientWorker) → AllZip Remains cs cs
remain_self cs = zip_self Remains (λ c. (refl, refl)) cs

module _ {S : Type 0} where
  pub serve_self : (ws : List (Working S)) → AllZip Serves ws ws
  serve_self ws = zip_self Serves (λ w. (refl, looked_self w.log, λ ok. ok)) ws

  -- the workers were informed of what was submitted, and the driver of what they had seen
  pub reported_of : (plan : Plan) (old new : Run S) → IsManned plan old
      → All (Ready old.world.logs.items old.world.boxes.items) new.workers.items → All (OfClient old.world.logs.items) new.clients.items
      → AllZip ReportedWorker old.workers.items new.workers.items → AllZip ReportedClient old.clients.items new.clients.items
      → AllZip DriverHears old.drivers.items new.drivers.items
      → AllZip IsDriverOf old.world.logs.items new.drivers.items
      → ReportedFirst (length new.drivers.items) old.drivers.items new.workers.items new.clients.items
      → HeardFirst (length new.drivers.items) old.workers.items new.drivers.items
      → new ≡ record old { workers = new.workers; clients = new.clients; drivers = new.drivers } → HasReported plan old new
  reported_of plan old new m ready of hears clients heard own reported back rest =
      let count = zip_length IsDriverOf old.world.logs.items new.drivers.items own in
      let logs = m.logs in record {
        drivers = heard;
        workers = hears;
        clients = clients;
        reported = λ j d lt. reported j d (omega (arith, lt, count, logs));
        heard = λ j d lt. back j d (omega (arith, lt, count, logs));
        manned = manned_on plan old new.workers.items new.clients.items new.drivers.items m
            (zip_map ReportedWorker Serves serves_heard old.workers.items new.workers.items hears)
            (zip_map ReportedClient Remains client_remains old.clients.items new.clients.items clients) ready of own
            (parts_heard plan old.world.logs.items old.drivers.items new.drivers.items m.parts heard)
            (λ at e is. (let (b, b_is, hd) = zip_back DriverHears old.drivers.items new.drivers.items at e heard is in
            given_looked (arrivals_for plan.arrivals at) b e hd (m.given at b b_is)))
            new (ap (λ (x : Run S). x.world) rest) (ap (λ (x : Run S). x.due) rest) refl refl refl;
        same = rest;
      }

  module _ (plan : Plan) (turns : ℕ) where
    pub submits_none : (run : Run S) → IsManned plan run → SoManySubmit plan turns 0 run run
    submits_none run m = record { submitted = λ at d lt. absurd (omega (arith, lt)); others = λ at d le. refl; count = refl; manned = m; same = refl }

    -- one log more
    pub submits_more : (k : ℕ) (old mid : Run S) (r d : Driver) (log : Log) → SoManySubmit plan turns k old mid
        → k < length mid.drivers.items → r ≡ get_or mid.drivers.items k r
        → DriverGoes r d → d.feed ≡ after_giving turns r.feed → ((all : List TimedTx) → HasGiven all r → HasGiven all d)
        → (new : Run S) → new ≡ record mid { drivers = new.drivers } → new.drivers.items ≡ slice_set mid.drivers.items k d
        → SoManySubmit plan turns (k + 1) old new
    submits_more k old mid r d log so lt value goes feed given new rest items = record {
      submitted = λ at e below. subst (λ (ds : List Driver). Submits turns (get_or old.drivers.items at e) (get_or ds at e)) (sym items) (one at e below);
      others = λ at e le.
          let other : k ≡ at → ⊥ = λ is. absurd (omega (arith, is, le)) in
          ap (λ (ds : List Driver). get_or ds at e) items ∙ or_other drivers k at d e other ∙ so.others at e (omega (arith, le));
      count = ap length items ∙ length-set drivers k d ∙ so.count;
      manned = manned_on plan mid mid.workers.items mid.clients.items (slice_set drivers k d) m (serve_self mid.workers.items)
          (remain_self mid.clients.items) m.ready m.of
          (zip_set IsDriverOf logs drivers k log d m.drivers (own_on (get_or logs k log) r d own goes))
          (zip_set (PartsAddUp plan) logs drivers k log d m.parts (parts ∙ ap (λ (n : ℕ). n + 1 + length plan.clients) (sym goes.parts)))
          had new (ap (λ (x : Run S). x.world) rest) (ap (λ (x : Run S). x.due) rest) (ap (λ (x : Run S). x.workers.items) rest)
          (ap (λ (x : Run S). x.clients.items) rest) items;
      same = rest ∙ ap (λ (x : Run S). record x { drivers = new.drivers }) so.same;
    }
      where
        m : IsManned plan mid
        m = so.manned

        drivers : List Driver
        drivers = mid.drivers.items

        logs : List Log
        logs = mid.world.logs.items

        there : slice_get drivers k ≡ Some r
        there = slice_get-get_or drivers k r lt ∙ ap Some (sym value)

        own : IsDriverOf (get_or logs k log) r
        own = subst (IsDriverOf (get_or logs k log)) (sym value) (zip_at IsDriverOf logs drivers k log r m.drivers lt)

        parts : (get_or logs k log).parts ≡ r.pass.parts + 1 + length plan.clients
        parts = subst (PartsAddUp plan (get_or logs k log)) (sym value) (zip_at (PartsAddUp plan) logs drivers k log r m.parts lt)

        one : (at : ℕ) (e : Driver) → at < k + 1 → Submits turns (get_or old.drivers.items at e) (get_or (slice_set drivers k d) at e)
        one at e below = elim (cases_Bool (k == at)) [
          | inl yes_so ↦ (
              let same : k ≡ at = grind (arith, nat_tests) in
              let was : r ≡ get_or old.drivers.items k e = sym (get_or_from_slice_get drivers k r e there) ∙ so.others k e (omega arith) in
              let here : Submits turns (get_or old.drivers.items k e) d = subst (λ (x : Driver). Submits turns x d) was (goes.fault, feed, goes_of r d goes) in
              subst (λ (j : ℕ). Submits turns (get_or old.drivers.items j e) (get_or (slice_set drivers k d) j e)) same
              (subst (Submits turns (get_or old.drivers.items k e)) (sym (or_set drivers k d e lt)) here))
          | inr not_so ↦ (
              let other : k ≡ at → ⊥ = λ is. absurd (grind (arith, nat_tests)) in
              let less : at < k = grind (arith, nat_tests) in
              subst (Submits turns (get_or old.drivers.items at e)) (sym (or_other drivers k at d e other)) (so.submitted at e less))
        ]

        had : (at : ℕ) (e : Driver) → slice_get (slice_set drivers k d) at ≡ Some e → HasGiven (arrivals_for plan.arrivals at) e
        had at e is = elim (cases_Bool (k == at)) [
          | inl yes_so ↦ (
              let same : k ≡ at = grind (arith, nat_tests) in
              let here : d ≡ e = same_Some d e (sym (get_set drivers k d r there) ∙ ap (slice_get (slice_set drivers k d)) same ∙ is) in
              subst (λ (j : ℕ). HasGiven (arrivals_for plan.arrivals j) e) same
              (subst (HasGiven (arrivals_for plan.arrivals k)) here (given (arrivals_for plan.arrivals k) (m.given k r there))))
          | inr not_so ↦ (
              let other : k ≡ at → ⊥ = λ e'. absurd (grind (arith, nat_tests)) in
              m.given at e (sym (get_other drivers k at d other) ∙ is))
        ]

    pub submits_all : (k : ℕ) (old new : Run S) → k ≡ length old.drivers.items → SoManySubmit plan turns k old new → HasSubmitted plan turns old new
    submits_all k old new is so = record {
      submitted = zip_of (Submits turns) old.drivers.items new.drivers.items (sym so.count) (λ i d lt. so.submitted i d (omega (arith, is, lt)));
      manned = so.manned;
      same = so.same;
    }

    -- The workers are informed, the driver submits, and the workers are informed of what it submitted.
    pub heard_of : (old first mid new : Run S) → HasReported plan old first → HasSubmitted plan turns first mid → HasReported plan mid new
        → HasHeard plan turns old new
    heard_of old first mid new before s reported = record {
      between = mid.drivers.items;
      submitted = submits_heard turns old.drivers.items first.drivers.items mid.drivers.items before.drivers s.submitted;
      after = λ at e is. (
          let (b, b_is, last) = zip_back DriverHears mid.drivers.items new.drivers.items at e reported.drivers is in
          let (a, a_is, sub) = zip_back (Submits turns) first.drivers.items mid.drivers.items at b s.submitted b_is in
          let (d, d_is, heard) = zip_back DriverHears old.drivers.items first.drivers.items at a before.drivers a_is in
          let within = slice_get_within first.drivers.items at a a_is in
          let count = zip_length IsDriverOf first.world.logs.items first.drivers.items before.manned.drivers in
          let logs = before.manned.logs in
          let seen : IsPrefix (seen_at old.workers.items at) a.pass.seen =
          subst (λ (x : Driver). IsPrefix (seen_at old.workers.items at) x.pass.seen)
          (get_or_from_slice_get first.drivers.items at a a a_is) (before.heard at a (omega (arith, within, count, logs))) in
          let low : ℕ = length (seen_at old.workers.items at) in (
            d,
            d_is,
            goes_from_on low low d.pass a.pass e.pass (omega arith) (goes_looked low d.pass a.pass heard.looked)
                (goes_from_on low low a.pass b.pass e.pass (omega arith)
                (goes_lower low (length a.pass.seen) a.pass b.pass (prefix_length (seen_at old.workers.items at) a.pass.seen seen) sub.2)
                (goes_looked low b.pass e.pass last.looked)),
          ));
      given = s.manned.given;
      heard = reported.drivers;
      reported = reported.reported;
      workers = workers_hear old.workers.items first.workers.items new.workers.items before.workers
          (subst (λ (r : Run S). AllZip ReportedWorker r.workers.items new.workers.items) s.same reported.workers);
      clients = clients_hear old.clients.items first.clients.items new.clients.items before.clients
          (subst (λ (r : Run S). AllZip ReportedClient r.clients.items new.clients.items) s.same reported.clients);
      manned = reported.manned;
      same = reported.same
          ∙ ap (λ (x : Run S). record x { workers = new.workers; clients = new.clients; drivers = new.drivers })
          (s.same ∙ ap (λ (x : Run S). record x { drivers = mid.drivers }) before.same);
    }
