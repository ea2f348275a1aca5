-- A round of all workers is a round of their journals. What comparisons of mailboxes with senders prove holds of the
-- journals.
use Rattle.std.proofs.Common.{◌≡◌, ℕ, ◌≤◌, Bool, true, Option, List, [], ◌++◌, length, take, refl, ap, sym, subst, ◌∙◌}
use Rattle.std.specs.Prelude.{Some, slice_get}
use Rattle.std.specs.List.{AllZip}
use Rattle.std.specs.Option.{option_map_or}
use Rattle.locked_log.specs.History.{Opened as Log}
use Rattle.mailbox.specs.Boxes.{Opened as Box, Receiver}
use Rattle.plan_text.specs.declared.plan.Plan.{Plan}
use Rattle.node_core.specs.Rows.{Check}
use Rattle.node_core.specs.Reported.{Gives}
use Rattle.replica_seat.specs.Seats.{Meaning, Seated, replica_of}
use Rattle.round_rules.specs.Journals.{events_of}
use Rattle.round_rules.specs.Moments.{IsWhole}
use Rattle.round_rules.specs.Ran.{AreLinked}
use Rattle.round_rules.specs.Rounds.{IsRound, tick_of}
use Rattle.thread_run.specs.Pairs.{AllCompared, Compared}
use Rattle.thread_run.specs.Standing.{AllStand, NoneFailed, Stands, journal_of, journals_at, seen_at, seen_by}
use Rattle.thread_run.specs.Exchange.{ReportedWorker}
use Rattle.thread_run.specs.Workers.{Did, Worked, Working, knows, taken_with}
use Rattle.thread_run.proofs.WorkDone.{looked_on, take_prefix}
use Rattle.thread_run.proofs.WorkerInvariant.{all_given, gains, linked, stands_on}
use Rattle.thread_run.proofs.Zips.{zip_there}

pub journal_is : {S : Type 0} (workers : List (Working S)) (at : ℕ) (w : Working S) → slice_get workers at ≡ Some w → journals_at workers at ≡ w.seat.journal
journal_is workers at w is = ap (λ (o : Option (Working _)). option_map_or journal_of o []) is

pub seen_is : {S : Type 0} (workers : List (Working S)) (at : ℕ) (w : Working S) → slice_get workers at ≡ Some w → seen_at workers at ≡ w.log.seen
seen_is workers at w is = ap (λ (o : Option (Working _)). option_map_or seen_by o []) is

module _ {S : Type 0} (fits : Check) (plan : Plan) (m : Meaning S) (gives : ℕ → Gives) (capacity : ℕ) where
  abbrev StandsAt : ℕ → Working S → Type 0
  StandsAt at w = Stands fits plan m (gives at) capacity at w

  -- ---- a round

  pub round_stands : (logs : List Log) (boxes : List Box) (tick : Option ℕ) (old new : List (Working S)) → AllStand fits plan m gives capacity old
      → AllZip (Worked fits plan m logs boxes tick) old new → NoneFailed new → AllStand fits plan m gives capacity new
  round_stands logs boxes tick old new all z ok at below =
      let (v, is, s) = all at below in
      let (w, here, k) = zip_there (Worked fits plan m logs boxes tick) old new at v z is in
      let works = (k (ok at w here)).0 in
      (w, here, stands_on fits plan m (gives at) capacity at (tick_of tick ++ works.events) v w s works.did)

  pub round_gains : (logs : List Log) (boxes : List Box) (tick : Option ℕ) (old new : List (Working S)) → AllStand fits plan m gives capacity old
      → AllZip (Worked fits plan m logs boxes tick) old new → NoneFailed new → IsRound plan tick (seen_at old) (journals_at old) (journals_at new)
  round_gains logs boxes tick old new all z ok at below =
      let (v, is, s) = all at below in
      let (w, here, k) = zip_there (Worked fits plan m logs boxes tick) old new at v z is in
      rw (seen_is old at v is, journal_is old at v is, journal_is new at w here) (gains fits plan m (gives at) capacity at tick v w s (k (ok at w here)).0)

  -- ---- links

  -- where the answer is true, all links are whole
  pub whole_is : (workers : List (Working S)) → AllStand fits plan m gives capacity workers → AllCompared true workers → IsWhole plan (journals_at workers)
  whole_is workers all c from to f t =
      let (v, v_is, sv) = all from f in
      let (w, w_is, sw) = all to t in
      let look : Compared true w.at w.take.taken v.sends = c.all.0 refl to from w v w_is v_is in
      rw (journal_is workers from v v_is, journal_is workers to w w_is) (all_given fits plan m gives capacity from to v w t sv sw look)

  -- whatever the answer, what was delivered begins what the links give
  pub links_are : (whole : Bool) (workers : List (Working S)) → AllStand fits plan m gives capacity workers → AllCompared whole workers
      → AreLinked plan (journals_at workers)
  links_are whole workers all c from to f t =
      let (v, v_is, sv) = all from f in
      let (w, w_is, sw) = all to t in
      let look = c.each to from w v w_is v_is in
      rw (journal_is workers from v v_is, journal_is workers to w w_is) (linked fits plan m gives capacity from to v w t sv sw look.0 look.1)

  -- ---- what the workers are informed of between rounds

  pub hears_stands : (at : ℕ) (v w : Working S) → v.known ≤ length v.log.seen → ReportedWorker v w → StandsAt at v → StandsAt at w
  hears_stands at v w within h s =
      let same : knows w ≡ knows v = ap (λ (x : Working S). take x.known w.log.seen) h.rest ∙ take_prefix v.known v.log.seen w.log.seen within h.looked.later in
      let seat_is : w.seat ≡ v.seat = ap (λ (x : Working S). x.seat) h.rest in
      record {
        first = s.first;
        new = s.new;
        did = subst (λ (j : Seated S). Did fits plan m (events_of j.journal) s.first w) (sym seat_is) (record {
          at = ap (λ (x : Working S). x.at) h.rest ∙ s.did.at;
          replica = ap (replica_of m) seat_is ∙ s.did.replica;
          sends = ap (λ (x : Working S). x.sends) h.rest ∙ s.did.sends;
          take = subst (λ (p : Receiver). p ≡ taken_with s.first.take (events_of v.seat.journal) p.heard)
              (sym (ap (λ (x : Working S). x.take) h.rest)) s.did.take;
          turns = ap (λ (x : Working S). x.turns) h.rest ∙ s.did.turns;
          log = looked_on s.first.log v.log w.log s.did.log h.looked;
          knows = same ∙ s.did.knows;
        });
      }
