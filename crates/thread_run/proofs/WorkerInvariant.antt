-- A worker's journal is a run of its replica. Its passes have sent and received what the journal says.
use Rattle.std.proofs.Common.{◌≡◌, ℕ, ◌<◌, List, ◌++◌, refl, ap, sym, subst, ◌∙◌, arith}
use Rattle.std.specs.Prelude.{Bool, Option, true, slice_get, Some, take}
use Rattle.std.proofs.lemmas.Option.{same_Some}
use mathlib.Core.List.{IsPrefix}
use Rattle.seq_base.specs.declared.tx.Tx.{Tx}
use Rattle.std.specs.List.{range_with_len}
use Rattle.std.specs.Option.{option_map}
use Rattle.std.proofs.lemmas.Option.{slice_get-map}
use Rattle.std.proofs.lemmas.List.{map-append}
use Rattle.fault_script.specs.Sealing.{signer}
use Rattle.fault_script.specs.Passing.{given_in_all, opening}
use Rattle.mailbox.specs.Boxes.{Sender, Receiver, of}
use Rattle.mailbox.specs.declared.envelope.Envelope.{Envelope as Letter}
use Rattle.plan_text.specs.declared.plan.Plan.{Plan}
use Rattle.node_core.specs.Rows.{Check}
use Rattle.node_core.specs.Reported.{Gives}
use Rattle.node_core.specs.declared.event.Event.{Event}
use Rattle.node_core.specs.declared.entry.Entry.{Entry}
use Rattle.replica_seat.specs.Seats.{Meaning, Replica, replica_of}
use Rattle.replica_seat.specs.Acting.{After}
use Rattle.replica_seat.specs.Opening.{fresh_replica, links_from}
use Rattle.round_rules.specs.Journals.{delivered_from, events_of, known_in, sent_to}
use Rattle.round_rules.specs.Rounds.{Gains, IsFed, tick_of}
use Rattle.round_rules.specs.Acts.{acts, after_events, on_way_to}
use Rattle.round_rules.proofs.Places.{range_at}
use Rattle.thread_run.specs.Pairs.{Compared}
use Rattle.thread_run.specs.Standing.{Stands}
use Rattle.thread_run.specs.Workers.{Did, Working, Works, knows, letters_in, posted}
use Rattle.thread_run.proofs.ReplicaEvents.{begin}
use Rattle.thread_run.proofs.WorkDone.{did_more}
use Rattle.thread_run.proofs.LinkedSends.{entries, entries_events, given_on, journal_is, posted_to, taken_of}

link_at : (plan : Plan) (from to : ℕ) → to < plan.setting.n → slice_get (links_from plan from) to ≡ Some (opening plan.links from to)
link_at plan from to lt = slice_get-map (opening plan.links from) (range_with_len 0 plan.setting.n) to
    ∙ ap (option_map (opening plan.links from)) (range_at 0 plan.setting.n to lt)
    ∙ ap (λ (k : ℕ). Some (opening plan.links from k)) (omega arith)

module _ {S : Type 0} (fits : Check) (plan : Plan) (m : Meaning S) (gives : Gives) (capacity at : ℕ) (w : Working S)
    (s : Stands fits plan m gives capacity at w) where
  abbrev fresh : Replica
  fresh = fresh_replica plan (signer at capacity gives 0)

  abbrev events : List Event
  events = events_of w.seat.journal

  abbrev all : After
  all = acts fits plan at (begin fits plan at fresh) events

  from_fresh : acts fits plan s.first.at (begin fits plan s.first.at (replica_of m s.first.seat)) events ≡ all
  from_fresh = ap (λ (k : ℕ). acts fits plan k (begin fits plan k (replica_of m s.first.seat)) events) s.new.place
      ∙ ap (λ (r : Replica). acts fits plan at (begin fits plan at r) events) s.new.replica

  pub replica_is : replica_of m w.seat ≡ (after_events fits plan gives capacity at events).replica
  unfolding after_events
  replica_is = s.did.replica ∙ ap (λ (x : After). x.replica) from_fresh

  -- clause 2: the journal is a run of the replica's turns, with its deeds
  pub turned : w.seat.journal ≡ (after_events fits plan gives capacity at events).replica.journal
  turned = ap (λ (r : Replica). r.journal) replica_is

  journal_is_entries : w.seat.journal ≡ entries fits plan at fresh events
  journal_is_entries = ap (λ (r : Replica). r.journal) (s.did.replica ∙ ap (λ (x : After). x.replica) from_fresh) ∙ journal_is fits plan at fresh events

  -- clause 4, the sender: what its pass to a replica has sent is what the link gives for what the journal sends there
  pub sent_is : (to : ℕ) → to < plan.setting.n → (p : Sender) × (slice_get w.sends to ≡ Some p) × (p.from ≡ at)
      × (p.sent ≡ given_in_all (opening plan.links at to) (sent_to to w.seat.journal))
  sent_is to lt =
      let (p, found, number, none) = s.new.sent to lt in
      let gave : on_way_to to all.queue ≡ given_in_all (opening plan.links at to) (sent_to to w.seat.journal) =
      given_on fits plan at fresh events to (opening plan.links at to) (link_at plan at to lt)
      ∙ ap (λ (l : List Entry). given_in_all (opening plan.links at to) (sent_to to l)) (sym journal_is_entries) in (
        record p { sent = p.sent ++ on_way_to to all.queue },
        ap (λ (l : List Sender). slice_get l to) (s.did.sends ∙ ap (λ (x : After). posted s.first.sends x.queue) from_fresh)
            ∙ posted_to s.first.sends all.queue to p found,
        number,
        ap (λ (l : List (List ℕ)). l ++ on_way_to to all.queue) none ∙ gave,
      )

  -- clause 4, the receiver: what was taken of a sender is what the journal was delivered from it
  pub taken_is : (from : ℕ) → of from w.take.taken ≡ delivered_from from events
  taken_is from = ap (λ (p : Receiver). of from p.taken) s.did.take
      ∙ ap (λ (l : List Letter). of from (l ++ letters_in events)) s.new.taken ∙ taken_of from events

-- a journal grows by the events that its replica was given
pub grown : {S : Type 0} (fits : Check) (plan : Plan) (m : Meaning S) (events : List Event) (old new : Working S)
    → Did fits plan m events old new → events_of new.seat.journal ≡ events_of old.seat.journal ++ events
grown fits plan m events old new d =
    let r : Replica = replica_of m old.seat in
    ap (λ (x : Replica). events_of x.journal) d.replica
    ∙ ap events_of (journal_is fits plan old.at r events)
    ∙ map-append (λ (e : Entry). e.event) old.seat.journal (entries fits plan old.at r events)
    ∙ ap (λ (l : List Event). events_of old.seat.journal ++ l) (entries_events fits plan old.at r events)

-- a round more: a worker that stood so does
pub stands_on : {S : Type 0}
    (fits : Check) (plan : Plan) (m : Meaning S) (gives : Gives) (capacity at : ℕ) (events : List Event) (old new : Working S)
    → Stands fits plan m gives capacity at old → Did fits plan m events old new → Stands fits plan m gives capacity at new
stands_on fits plan m gives capacity at events old new s d = record {
  first = s.first;
  new = s.new;
  did = subst (λ (es : List Event). Did fits plan m es s.first new) (sym (grown fits plan m events old new d))
      (did_more fits plan m (events_of old.seat.journal) events s.first old new s.did d);
}

-- what a worker's node knows are the arrivals in its journal
pub known_is : {S : Type 0} (fits : Check) (plan : Plan) (m : Meaning S) (gives : Gives) (capacity at : ℕ) (w : Working S)
    → Stands fits plan m gives capacity at w → knows w ≡ known_in (events_of w.seat.journal)
known_is fits plan m gives capacity at w s =
    s.did.knows ∙ ap (λ (k : ℕ). take k s.first.log.seen ++ known_in (events_of w.seat.journal)) s.new.known

-- a round of a worker is one of its journal
pub gains : {S : Type 0} (fits : Check) (plan : Plan) (m : Meaning S) (gives : Gives) (capacity at : ℕ) (tick : Option ℕ) (old new : Working S)
    → Stands fits plan m gives capacity at old → Works fits plan m tick old new → Gains tick old.log.seen old.seat.journal new.seat.journal
gains fits plan m gives capacity at tick old new s k =
    let r : Replica = replica_of m old.seat in
    let events : List Event = tick_of tick ++ k.events in
    let later = stands_on fits plan m gives capacity at events old new s k.did in record {
      more = entries fits plan old.at r events;
      events = k.events;
      grown = ap (λ (x : Replica). x.journal) k.did.replica ∙ journal_is fits plan old.at r events;
      reported = entries_events fits plan old.at r events;
      fed = subst (λ (l : List Tx). IsFed old.log.seen l 32 k.events) (known_is fits plan m gives capacity at old s) k.fed;
      knows = subst (IsPrefix old.log.seen) (known_is fits plan m gives capacity at new later) k.reported;
    }

-- what was delivered from a replica begins what its link gives, and is all of it where all was taken
module _ {S : Type 0} (fits : Check) (plan : Plan) (m : Meaning S) (gives : ℕ → Gives) (capacity from to : ℕ) (s t : Working S) (below : to < plan.setting.n)
    (sender : Stands fits plan m (gives from) capacity from s) (receiver : Stands fits plan m (gives to) capacity to t) where
  abbrev given : List (List ℕ)
  given = given_in_all (opening plan.links from to) (sent_to to s.seat.journal)

  place_is : t.at ≡ to
  place_is = receiver.did.at ∙ receiver.new.place

  pass_is : (whole : Bool) (c : Compared whole t.at t.take.taken s.sends)
      → (of c.pass.from t.take.taken ≡ delivered_from from (events_of t.seat.journal)) × (c.pass.sent ≡ given)
  pass_is whole c =
      let (p, found, number, sent) = sent_is fits plan m (gives from) capacity from s sender to below in
      let same : c.pass ≡ p = same_Some c.pass p (sym c.there ∙ ap (slice_get s.sends) place_is ∙ found) in (
        ap (λ (q : Sender). of q.from t.take.taken) same ∙ ap (λ (k : ℕ). of k t.take.taken) number
            ∙ taken_is fits plan m (gives to) capacity to t receiver from,
        ap (λ (q : Sender). q.sent) same ∙ sent,
      )

  pub linked : (whole : Bool) → Compared whole t.at t.take.taken s.sends → IsPrefix (delivered_from from (events_of t.seat.journal)) given
  linked whole c =
      let is = pass_is whole c in
      subst (λ (l : List (List ℕ)). IsPrefix l given) is.0 (subst (IsPrefix (of c.pass.from t.take.taken)) is.1 c.prefix)

  pub all_given : Compared true t.at t.take.taken s.sends → delivered_from from (events_of t.seat.journal) ≡ given
  all_given c = let is = pass_is true c in sym is.0 ∙ c.all.0 refl ∙ is.1
