-- What a worker did, one part after another.
use Rattle.std.proofs.Common.{◌≡◌, ℕ, zero, suc, ◌+◌, ◌<◌, ◌≤◌, List, [], ◌∷◌, ◌++◌, true, Option, Some, None, length, take, drop, refl, ap, sym, subst, ◌∙◌, append_assoc, append-nil, arith}
use Rattle.std.proofs.lemmas.Grind.{flat_map-append}
use Rattle.std.proofs.lemmas.List.{take-append-drop, take-append-le}
use mathlib.Core.List.{IsPrefix}
use Rattle.seq_base.specs.declared.tx.Tx.{Tx}
use Rattle.locked_log.specs.History.{HasLooked, Known, known}
use Rattle.locked_log.proofs.Lists.{prefix_self, prefix_trans, prefix_length}
use Rattle.mailbox.specs.Boxes.{Sender, Receiver}
use Rattle.mailbox.specs.declared.envelope.Envelope.{Envelope as Letter}
use Rattle.mailbox.specs.declared.rule.News.{News}
use Rattle.plan_text.specs.declared.plan.Plan.{Plan}
use Rattle.node_core.specs.Rows.{Check}
use Rattle.node_core.specs.declared.event.Event.{Event}
use Rattle.node_core.specs.declared.event.Event.TheVariants.{Arrived, Deliver, Tick}
use Rattle.replica_seat.specs.Seats.{Meaning, Replica, replica_of}
use Rattle.replica_seat.specs.Acting.{After}
use Rattle.round_rules.specs.Journals.{carried_by, deliveries, known_in, ticks_in}
use Rattle.round_rules.specs.Acts.{acts}
use Rattle.round_rules.specs.Rounds.{FedEach, IsFed, tick_of}
use Rattle.thread_run.specs.Workers.{Did, Heard, Takes, Reported, Working, arrived_event, knows, letters_in, letters_of, posted, taken_with}
use Rattle.round_rules.proofs.ReplicaSums.{deliveries-append, known-append, ticks-append}
use Rattle.thread_run.proofs.ReplicaEvents.{acts_more, begin}
use Rattle.thread_run.proofs.Posts.{posted-append, posted_nil}

pub looked_self : (p : Known Tx) → HasLooked p p
looked_self p = record { same = refl; later = prefix_self p.seen }

pub looked_on : (p q r : Known Tx) → HasLooked p q → HasLooked q r → HasLooked p r
looked_on p q r a b = record {
  same = b.same ∙ ap (λ (x : Known Tx). known x.log x.parts r.seen x.own) a.same;
  later = prefix_trans p.seen q.seen r.seen a.later b.later;
}

taken_on : (p : Receiver) (xs ys : List Event) (g h : List News) → taken_with (taken_with p xs g) ys h ≡ taken_with p (xs ++ ys) h
taken_on p xs ys g h =
    ap (λ (l : List Letter). record p { taken = l; heard = h })
    (append_assoc p.taken (letters_in xs) (letters_in ys) ∙ ap (λ (l : List Letter). p.taken ++ l) (sym (flat_map-append letters_of xs ys)))

-- a pass that took nothing
not_taken : (es : List Event) (p q : Receiver) → letters_in es ≡ [] → q ≡ p → q ≡ taken_with p es q.heard
not_taken es p q unread same =
    subst (λ (x : Receiver). x ≡ taken_with p es x.heard) (sym same)
    (ap (λ (l : List Letter). record p { taken = l }) (sym (append-nil p.taken)) ∙ ap (λ (l : List Letter). record p { taken = p.taken ++ l }) (sym unread))

module _ {S : Type 0} (fits : Check) (plan : Plan) (m : Meaning S) where
  pub did_nothing : (w : Working S) → Did fits plan m [] w w
  did_nothing w = record {
    at = refl;
    replica = refl;
    sends = sym (posted_nil w.sends);
    take = not_taken [] w.take w.take refl refl;
    turns = omega arith;
    log = looked_self w.log;
    knows = sym (append-nil (knows w));
  }

  -- one part after another
  pub did_more : (xs ys : List Event) (a b c : Working S) → Did fits plan m xs a b → Did fits plan m ys b c → Did fits plan m (xs ++ ys) a c
  did_more xs ys a b c one two =
      let first : After = acts fits plan a.at (begin fits plan a.at (replica_of m a.seat)) xs in
      let then : After = acts fits plan a.at (begin fits plan a.at first.replica) ys in
      let more = acts_more fits plan a.at (replica_of m a.seat) xs ys in
      let second : acts fits plan b.at (begin fits plan b.at (replica_of m b.seat)) ys ≡ then =
      ap (λ (r : Replica). acts fits plan b.at (begin fits plan b.at r) ys) one.replica
      ∙ ap (λ (k : ℕ). acts fits plan k (begin fits plan k first.replica) ys) one.at in
      record {
        at = two.at ∙ one.at;
        replica = two.replica ∙ ap (λ (x : After). x.replica) second ∙ sym (ap (λ (x : After). x.replica) more);
        sends = two.sends
            ∙ ap (λ (x : After). posted b.sends x.queue) second
            ∙ ap (λ (ps : List Sender). posted ps then.queue) one.sends
            ∙ sym (posted-append a.sends first.queue then.queue)
            ∙ ap (λ (x : After). posted a.sends x.queue) (sym more);
        take = two.take ∙ ap (λ (p : Receiver). taken_with p ys c.take.heard) one.take ∙ taken_on a.take xs ys b.take.heard c.take.heard;
        turns = (let t = two.turns in let o = one.turns in let d = deliveries-append xs ys in omega (arith, t, o, d));
        log = looked_on a.log b.log c.log one.log two.log;
        knows = two.knows ∙ ap (λ (l : List Tx). l ++ known_in ys) one.knows ∙ append_assoc (knows a) (known_in xs) (known_in ys)
            ∙ ap (λ (l : List Tx). knows a ++ l) (sym (known-append xs ys));
      }

-- ---- before each delivery

pub fed-append : (base known : List Tx) (xs ys : List Event) → FedEach base known xs → FedEach base (known ++ known_in xs) ys → FedEach base known (xs ++ ys)
fed-append base known [] ys one two = subst (λ (l : List Tx). FedEach base l ys) (append-nil known) two
fed-append base known (x ∷ xs) ys one two = (
  one.0,
  fed-append base (known ++ carried_by x) xs ys one.1 (subst (λ (l : List Tx). FedEach base l ys) (sym (append_assoc known (carried_by x) (known_in xs))) two),
)

pub fed_arrived : (base known list : List Tx) → FedEach base known (arrived_event list)
fed_arrived base known [] = tt
fed_arrived base known (t ∷ ts) = (λ is. absurd (cc), tt)

arrived_quiet : (list : List Tx) → (ticks_in (arrived_event list) ≡ 0) × (deliveries (arrived_event list) ≡ 0)
arrived_quiet [] = (refl, refl)
arrived_quiet (t ∷ ts) = (refl, refl)

pub fed_nothing : (base known : List Tx) → IsFed base known 0 []
fed_nothing base known = record { quiet = refl; few = omega arith; fed = tt }

-- a look at the log more
pub fed_heard : (base known : List Tx) (most : ℕ) (events : List Event) (list : List Tx) → IsFed base known most events
    → IsFed base known most (events ++ arrived_event list)
fed_heard base known most events list f =
    let q = arrived_quiet list in record {
      quiet = (let t = ticks-append events (arrived_event list) in let a = q.0 in let b = f.quiet in omega (arith, t, a, b));
      few = (let t = deliveries-append events (arrived_event list) in let a = q.1 in let b = f.few in omega (arith, t, a, b));
      fed = fed-append base known events (arrived_event list) f.fed (fed_arrived base (known ++ known_in events) list);
    }

-- a delivery more, where the node knows all of the list
pub fed_taken : (base known : List Tx) (most : ℕ) (events : List Event) (from : ℕ) (bytes : List ℕ) → IsFed base known most events
    → IsPrefix base (known ++ known_in events)
    → IsFed base known (most + 1) (events ++ Deliver from bytes ∷ [])
fed_taken base known most events from bytes f pre = record {
  quiet = (let t = ticks-append events (Deliver from bytes ∷ []) in let b = f.quiet in omega (arith, t, b));
  few = (let t = deliveries-append events (Deliver from bytes ∷ []) in let b = f.few in omega (arith, t, b));
  fed = fed-append base known events (Deliver from bytes ∷ []) f.fed (λ is. pre, tt);
}

-- ---- a look at the log

pub take_prefix : {X : Type 0} (k : ℕ) (xs ys : List X) → k ≤ length xs → IsPrefix xs ys → take k ys ≡ take k xs
take_prefix k xs ys le p = ap (take k) (sym p.1) ∙ take-append-le k xs p.0 le

pub take_all : {X : Type 0} (k : ℕ) (xs : List X) → k ≡ length xs → take k xs ≡ xs
take_all zero [] e = refl
take_all zero (x ∷ xs) e = absurd (omega (arith, e))
take_all (suc k) [] e = absurd (omega (arith, e))
take_all (suc k) (x ∷ xs) e = ap (λ (l : List _). x ∷ l) (take_all k xs (omega (arith, e)))

length_dropped : {X : Type 0} (k : ℕ) (xs : List X) → k ≤ length xs → k + length (drop k xs) ≡ length xs
length_dropped zero xs le = omega arith
length_dropped (suc k) [] le = absurd (omega (arith, le))
length_dropped (suc k) (x ∷ xs) le = (let rest = length_dropped k xs (omega (arith, le)) in omega (arith, rest))

module _ {S : Type 0} (fits : Check) (plan : Plan) (m : Meaning S) where
  pub heard_none : (old : Working S) (log : Known Tx) → HasLooked old.log log → old.known ≤ length old.log.seen → length (drop old.known log.seen) ≡ 0
      → Heard fits plan m old (record old { log = log })
  heard_none old log looked within none =
      let longer = prefix_length old.log.seen log.seen looked.later in
      let whole = length_dropped old.known log.seen (omega (arith, within, longer)) in
      let nothing = did_nothing fits plan m old in record {
        list = [];
        did = record {
          at = refl;
          replica = refl;
          sends = nothing.sends;
          take = nothing.take;
          turns = nothing.turns;
          log = looked;
          knows = take_prefix old.known old.log.seen log.seen within looked.later ∙ sym (append-nil (knows old));
        };
        all = take_all old.known log.seen (omega (arith, whole, none));
        news = refl;
      }

  -- an event that changes nothing but its seat and what is sent
  did_reported : (e : Event) (old mid : Working S) → Reported fits plan m e old mid → (deliveries (e ∷ []) ≡ 0) → (known_in (e ∷ []) ≡ [])
      → (letters_in (e ∷ []) ≡ []) → Did fits plan m (e ∷ []) old mid
  did_reported e old mid reported quiet silent unread = record {
    at = ap (λ (w : Working S). w.at) reported.rest;
    replica = reported.replica;
    sends = ap (λ (w : Working S). w.sends) reported.rest;
    take = not_taken (e ∷ []) old.take mid.take unread (ap (λ (w : Working S). w.take) reported.rest);
    turns = (let t = ap (λ (w : Working S). w.turns) reported.rest in omega (arith, t, quiet));
    log = subst (HasLooked old.log) (sym (ap (λ (w : Working S). w.log) reported.rest)) (looked_self old.log);
    knows = ap (λ (w : Working S). knows w) reported.rest ∙ sym (append-nil (knows old)) ∙ ap (λ (l : List Tx). knows old ++ l) (sym silent);
  }

  pub did_tick : (floor : ℕ) (old mid : Working S) → Reported fits plan m (Tick floor) old mid → Did fits plan m (Tick floor ∷ []) old mid
  did_tick floor old mid reported = did_reported (Tick floor) old mid reported refl refl refl

  pub heard_some : (old mid : Working S) (log : Known Tx) (list : List Tx) (count : ℕ) → HasLooked old.log log
      → old.known ≤ length old.log.seen → list ≡ drop old.known log.seen → 0 < length list → count ≡ length list
      → Reported fits plan m (Arrived list) (record old { log = log }) mid
      → Heard fits plan m old (record mid { known = mid.known + count })
  heard_some old mid log [] count looked within is some counted reported = absurd (omega (arith, some))
  heard_some old mid log (t ∷ ts) count looked within is some counted reported =
      let longer = prefix_length old.log.seen log.seen looked.later in
      let whole = length_dropped old.known log.seen (omega (arith, within, longer)) in
      let len : length (t ∷ ts) ≡ length (drop old.known log.seen) = ap length is in
      let known_is : mid.known ≡ old.known = ap (λ (w : Working S). w.known) reported.rest in
      let log_is : mid.log ≡ log = ap (λ (w : Working S). w.log) reported.rest in
      let all : take (mid.known + count) mid.log.seen ≡ mid.log.seen =
      take_all (mid.known + count) mid.log.seen
      (let n = ap (λ (p : Known Tx). length p.seen) log_is in omega (arith, whole, len, known_is, n, counted)) in
      record {
        list = t ∷ ts;
        did = record {
          at = ap (λ (w : Working S). w.at) reported.rest;
          replica = reported.replica;
          sends = ap (λ (w : Working S). w.sends) reported.rest;
          take = not_taken (Arrived (t ∷ ts) ∷ []) old.take mid.take refl (ap (λ (w : Working S). w.take) reported.rest);
          turns = (let n = ap (λ (w : Working S). w.turns) reported.rest in omega (arith, n));
          log = subst (HasLooked old.log) (sym log_is) looked;
          knows = all
              ∙ ap (λ (p : Known Tx). p.seen) log_is
              ∙ sym (take-append-drop old.known log.seen)
              ∙ ap (λ (l : List Tx). l ++ drop old.known log.seen) (take_prefix old.known old.log.seen log.seen within looked.later)
              ∙ ap (λ (l : List Tx). knows old ++ l) (sym is ∙ sym (append-nil (t ∷ ts)));
        };
        all = all;
        news = ap (λ (w : Working S). w.take.heard) reported.rest;
      }

  -- ---- a round so far

  -- After the tick, a look at the log, and that many deliveries with a look at the log after each.
  pub record SoFar (tick : Option ℕ) (k : ℕ) (first w : Working S) : Type 0 where
    pub events : List Event
    pub did : Did fits plan m (tick_of tick ++ events) first w
    pub fed : IsFed first.log.seen (knows first) k events
    pub reported : IsPrefix first.log.seen (knows w)
    pub count : w.turns ≡ first.turns + k
    pub news : w.take.heard ≡ first.take.heard

  tick_silent : (tick : Option ℕ) (events : List Event)
      → (known_in (tick_of tick ++ events) ≡ known_in events) × (deliveries (tick_of tick ++ events) ≡ deliveries events)
  tick_silent None events = (refl, refl)
  tick_silent (Some floor) events = (refl, omega arith)

  heard_on : (xs : List Event) (tick : Option ℕ) (first w h : Working S) → Did fits plan m (tick_of tick ++ xs) first w
      → (d : Heard fits plan m w h) → Did fits plan m (tick_of tick ++ (xs ++ arrived_event d.list)) first h
  heard_on xs tick first w h did d =
      subst (λ (es : List Event). Did fits plan m es first h) (append_assoc (tick_of tick) xs (arrived_event d.list))
      (did_more fits plan m (tick_of tick ++ xs) (arrived_event d.list) first w h did d.did)

  all_known : (es : List Event) (first w h : Working S) → Did fits plan m es first h → Heard fits plan m w h → IsPrefix first.log.seen (knows h)
  all_known es first w h did d = subst (IsPrefix first.log.seen) (sym d.all) did.log.later

  pub begun : (tick : Option ℕ) (first w h : Working S) → Did fits plan m (tick_of tick) first w → w.take.heard ≡ first.take.heard
      → Heard fits plan m w h → SoFar tick 0 first h
  begun tick first w h did same d =
      let began : Did fits plan m (tick_of tick ++ []) first w =
      subst (λ (es : List Event). Did fits plan m es first w) (sym (append-nil (tick_of tick))) did in
      let heard = heard_on [] tick first w h began d in record {
        events = arrived_event d.list;
        did = heard;
        fed = fed_heard first.log.seen (knows first) 0 [] d.list (fed_nothing first.log.seen (knows first));
        reported = all_known (tick_of tick ++ arrived_event d.list) first w h heard d;
        count = (let all = heard.turns in let a = (tick_silent tick (arrived_event d.list)).1 in let b = (arrived_quiet d.list).1 in omega (arith, all, a, b));
        news = d.news ∙ same;
      }

  pub went_on : (tick : Option ℕ) (k : ℕ) (first w n h : Working S) → SoFar tick k first w → Takes fits plan m true w n
      → Heard fits plan m n h → SoFar tick (k + 1) first h
  went_on tick k first w n h s t d =
      let more : List Event = s.events ++ Deliver t.0 t.1 ∷ [] in
      let took : Did fits plan m (tick_of tick ++ more) first n =
      subst (λ (es : List Event). Did fits plan m es first n) (append_assoc (tick_of tick) s.events (Deliver t.0 t.1 ∷ []))
      (did_more fits plan m (tick_of tick ++ s.events) (Deliver t.0 t.1 ∷ []) first w n s.did t.2) in
      let heard = heard_on more tick first n h took d in
      let knows_is : knows w ≡ knows first ++ known_in s.events = s.did.knows ∙ ap (λ (l : List Tx). knows first ++ l) (tick_silent tick s.events).0 in record {
        events = more ++ arrived_event d.list;
        did = heard;
        fed = fed_heard first.log.seen (knows first) (k + 1) more d.list
            (fed_taken first.log.seen (knows first) k s.events t.0 t.1 s.fed (subst (IsPrefix first.log.seen) knows_is s.reported));
        reported = all_known (tick_of tick ++ (more ++ arrived_event d.list)) first n h heard d;
        count =
            (let before = s.count in let one = t.2.turns in let last = d.did.turns in let quiet = (arrived_quiet d.list).1 in
            omega (arith, before, one, last, quiet));
        news = d.news ∙ t.3 ∙ s.news;
      }
