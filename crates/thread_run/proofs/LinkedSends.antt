-- What is put in transit to a replica is what the link gives for what the journal sends it.
use Rattle.std.proofs.Common.{◌≡◌, ℕ, ◌==◌, Bool, true, false, List, [], ◌∷◌, ◌++◌, if◌then◌else◌, refl, ap, sym, subst, ◌∙◌, inl, inr, append_assoc, append-nil, arith}
use Rattle.std.specs.Prelude.{slice_get, slice_set, Option, Some, None}
use Rattle.std.specs.List.{fold}
use Rattle.std.proofs.lemmas.Bool.{cases_Bool}
use Rattle.std.proofs.lemmas.Bool.Decides.{nat_tests}
use Rattle.seq_base.specs.declared.message.Outgoing.{Outgoing}
use Rattle.count_set.specs.Sets.{is_among}
use Rattle.fault_script.specs.Passing.{Link, given_by, given_in_all, passed}
use Rattle.mailbox.specs.Boxes.{Sender, of, sent_more}
use Rattle.plan_text.specs.declared.plan.Plan.{Plan}
use Rattle.node_core.specs.Rows.{Check}
use Rattle.node_core.specs.Reported.{Outcome}
use Rattle.node_core.specs.Turn.{turn_of}
use Rattle.node_core.specs.declared.event.Event.{Event}
use Rattle.node_core.specs.declared.event.Event.TheVariants.{Arrived, Deliver, Tick}
use Rattle.node_core.specs.declared.entry.Entry.{Entry}
use Rattle.replica_seat.specs.Seats.{Replica}
use Rattle.replica_seat.specs.Acting.{Acted, After, Way, acted, after_event, enveloped, sent, sent_all, sent_over, reported_after, way}
use Rattle.replica_seat.specs.declared.seat.Envelope.{Envelope}
use Rattle.round_rules.specs.Journals.{bytes_to, delivered_from, events_of, sent_to}
use Rattle.round_rules.specs.Acts.{acts, on_way_to}
use Rattle.round_rules.proofs.Places.{get_other, get_set}
use Rattle.thread_run.specs.Workers.{letters_in, posted, posted_for, posted_one}
use Rattle.thread_run.proofs.ReplicaEvents.{acts_after, begin, following}

-- ---- one link over several sends

abbrev passed_all : Link → List (List ℕ) → Link
passed_all link [] = link
passed_all link (s ∷ ss) = passed_all (passed link s) ss

given-append : (link : Link) (xs ys : List (List ℕ)) → given_in_all link (xs ++ ys) ≡ given_in_all link xs ++ given_in_all (passed_all link xs) ys
given-append link [] ys = refl
given-append link (x ∷ xs) ys = ap (λ (l : List (List ℕ)). given_by link x ++ l) (given-append (passed link x) xs ys)
    ∙ sym (append_assoc (given_by link x) (given_in_all (passed link x) xs) (given_in_all (passed_all (passed link x) xs) ys))

passed-append : (link : Link) (xs ys : List (List ℕ)) → passed_all link (xs ++ ys) ≡ passed_all (passed_all link xs) ys
passed-append link [] ys = refl
passed-append link (x ∷ xs) ys = passed-append (passed link x) xs ys

-- ---- envelopes to one replica

way-append : (j : ℕ) (xs ys : List Envelope) → on_way_to j (xs ++ ys) ≡ on_way_to j xs ++ on_way_to j ys
way-append j [] ys = refl
way-append j (x ∷ xs) ys = elim (cases_Bool (x.to == j)) [
  | inl so ↦ rw so (ap (λ (l : List (List ℕ)). x.bytes ∷ l) (way-append j xs ys))
  | inr not_so ↦ rw not_so (way-append j xs ys)
]

way_here : (j from to : ℕ) (given : List (List ℕ)) → (to == j) ≡ true → on_way_to j (enveloped from to given) ≡ given
way_here j from to [] so = refl
way_here j from to (g ∷ given) so = rw so (ap (λ (l : List (List ℕ)). g ∷ l) (way_here j from to given so))

way_there : (j from to : ℕ) (given : List (List ℕ)) → (to == j) ≡ false → on_way_to j (enveloped from to given) ≡ []
way_there j from to [] so = refl
way_there j from to (g ∷ given) so = rw so (way_there j from to given so)

-- the link to a replica, and what is in transit to it, after some sends
record Gave (j : ℕ) (link : Link) (bytes : List (List ℕ)) (before after : Way) : Type 0 where
  link_is : slice_get after.links j ≡ Some (passed_all link bytes)
  way_is : on_way_to j after.queue ≡ on_way_to j before.queue ++ given_in_all link bytes

gave_one : (from j : ℕ) (link : Link) (w : Way) (s : Outgoing) → slice_get w.links j ≡ Some link → Gave j link (bytes_to j (s ∷ [])) w (sent from w s)
gave_one from j link w s found = elim (cases_Bool (s.to == j)) [
  | inl so ↦ (
      let here : s.to ≡ j = grind (arith, nat_tests) in
      let at : slice_get w.links s.to ≡ Some link = ap (slice_get w.links) here ∙ found in
      rw (so, at) (record {
        link_is = subst (λ (k : ℕ). slice_get (slice_set w.links s.to (passed link s.bytes)) k ≡ Some (passed link s.bytes)) here
            (get_set w.links s.to (passed link s.bytes) link at);
        way_is = way-append j w.queue (enveloped from s.to (given_by link s.bytes))
            ∙ ap (λ (l : List (List ℕ)). on_way_to j w.queue ++ l)
            (way_here j from s.to (given_by link s.bytes) so ∙ sym (append-nil (given_by link s.bytes)));
      }))
  | inr not_so ↦ (
      let other : s.to ≡ j → ⊥ = λ e. absurd (grind (arith, nat_tests)) in
      rw not_so (there not_so other (slice_get w.links s.to)))
]
  where
    there : (s.to == j) ≡ false → (s.to ≡ j → ⊥) → (o : Option Link) → Gave j link [] w (sent_over from w s o)
    there not_so other None = record { link_is = found; way_is = sym (append-nil (on_way_to j w.queue)) }
    there not_so other (Some l) = record {
      link_is = get_other w.links s.to j (passed l s.bytes) other ∙ found;
      way_is = way-append j w.queue (enveloped from s.to (given_by l s.bytes))
          ∙ ap (λ (x : List (List ℕ)). on_way_to j w.queue ++ x) (way_there j from s.to (given_by l s.bytes) not_so);
    }

gave_more : (j : ℕ) (link : Link) (xs ys : List (List ℕ)) (a b c : Way) → Gave j link xs a b → Gave j (passed_all link xs) ys b c → Gave j link (xs ++ ys) a c
gave_more j link xs ys a b c one two = record {
  link_is = two.link_is ∙ ap Some (sym (passed-append link xs ys));
  way_is = two.way_is ∙ ap (λ (l : List (List ℕ)). l ++ given_in_all (passed_all link xs) ys) one.way_is
      ∙ append_assoc (on_way_to j a.queue) (given_in_all link xs) (given_in_all (passed_all link xs) ys)
      ∙ ap (λ (l : List (List ℕ)). on_way_to j a.queue ++ l) (sym (given-append link xs ys));
}

to-cons : (j : ℕ) (s : Outgoing) (sends : List Outgoing) → bytes_to j (s ∷ sends) ≡ bytes_to j (s ∷ []) ++ bytes_to j sends
to-cons j s sends = elim (cases_Bool (s.to == j)) [
  | inl so ↦ rw so refl
  | inr not_so ↦ rw not_so refl
]

gave_all : (from j : ℕ) (link : Link) (sends : List Outgoing) (w : Way) → slice_get w.links j ≡ Some link
    → Gave j link (bytes_to j sends) w (fold (sent from) w sends)
gave_all from j link [] w found = record { link_is = found; way_is = sym (append-nil (on_way_to j w.queue)) }
gave_all from j link (s ∷ sends) w found =
    let first = gave_one from j link w s found in
    subst (λ (bs : List (List ℕ)). Gave j link bs w (fold (sent from) (sent from w s) sends)) (sym (to-cons j s sends))
    (gave_more j link (bytes_to j (s ∷ [])) (bytes_to j sends) w (sent from w s) (fold (sent from) (sent from w s) sends) first
    (gave_all from j (passed_all link (bytes_to j (s ∷ []))) sends (sent from w s) first.link_is))

-- ---- a replica that is given events

module _ (fits : Check) (plan : Plan) (at : ℕ) where
  links_stay : (r : Replica) (o : Outcome) → (reported_after plan at r o).replica.links ≡ r.links
  links_stay r o = by (is_among plan.faulty at)
    where
      by : (b : Bool)
          → (if b then Rattle.replica_seat.specs.Acting.deeds_acted plan r o else Rattle.replica_seat.specs.Acting.node_acted r o).replica.links ≡ r.links
      by true = refl
      by false = refl

  journal_stays : (r : Replica) (o : Outcome) → (reported_after plan at r o).replica.journal ≡ r.journal
  journal_stays r o = by (is_among plan.faulty at)
    where
      by : (b : Bool)
          → (if b then Rattle.replica_seat.specs.Acting.deeds_acted plan r o else Rattle.replica_seat.specs.Acting.node_acted r o).replica.journal ≡ r.journal
      by true = refl
      by false = refl

  abbrev entry_of : Replica → Event → Entry
  entry_of r e = record { event = e; turned = (acted fits plan at r e).reported }

  -- the entries of events
  abbrev pub entries : Replica → List Event → List Entry
  entries r [] = []
  entries r (e ∷ es) = entry_of r e ∷ entries (after_event fits plan at r [] e).replica es

  pub entries_events : (r : Replica) (events : List Event) → events_of (entries r events) ≡ events
  entries_events r [] = refl
  entries_events r (e ∷ es) = ap (λ (l : List Event). e ∷ l) (entries_events (after_event fits plan at r [] e).replica es)

  journal_one : (r : Replica) (e : Event) → (after_event fits plan at r [] e).replica.journal ≡ r.journal ++ entry_of r e ∷ []
  unfolding after_event
  journal_one r e = ap (λ (l : List Entry). l ++ entry_of r e ∷ []) (journal_stays r (turn_of fits r.gives r.state e))

  one_on : (r : Replica) (e : Event) (es : List Event) → acts fits plan at (begin fits plan at r) (e ∷ es)
      ≡ following (after_event fits plan at r [] e).queue (acts fits plan at (begin fits plan at (after_event fits plan at r [] e).replica) es)
  one_on r e es =
      let a : After = after_event fits plan at r [] e in
      ap (λ (q : List Envelope). acts fits plan at (record { replica = a.replica; queue = q }) es) (sym (append-nil a.queue))
      ∙ acts_after fits plan at a.queue (begin fits plan at a.replica) es

  pub journal_is : (r : Replica) (events : List Event) → (acts fits plan at (begin fits plan at r) events).replica.journal ≡ r.journal ++ entries r events
  journal_is r [] = sym (append-nil r.journal)
  journal_is r (e ∷ es) =
      ap (λ (a : After). a.replica.journal) (one_on r e es)
      ∙ journal_is (after_event fits plan at r [] e).replica es
      ∙ ap (λ (l : List Entry). l ++ entries (after_event fits plan at r [] e).replica es) (journal_one r e)
      ∙ append_assoc r.journal (entry_of r e ∷ []) (entries (after_event fits plan at r [] e).replica es)

  gave_event : (r : Replica) (e : Event) (j : ℕ) (link : Link) → slice_get r.links j ≡ Some link
      → Gave j link (bytes_to j (acted fits plan at r e).reported.sends) (way r.links [])
      (way (after_event fits plan at r [] e).replica.links (after_event fits plan at r [] e).queue)
  unfolding after_event sent_all
  gave_event r e j link found =
      let a : Acted = acted fits plan at r e in
      let same : a.replica.links ≡ r.links = links_stay r (turn_of fits r.gives r.state e) in
      let g = gave_all at j link a.reported.sends (way a.replica.links []) (ap (λ (ls : List Link). slice_get ls j) same ∙ found) in
      record { link_is = g.link_is; way_is = g.way_is }

  -- what is on its way to a replica is what the link gives for what the entries send it
  pub given_on : (r : Replica) (events : List Event) (j : ℕ) (link : Link) → slice_get r.links j ≡ Some link
      → on_way_to j (acts fits plan at (begin fits plan at r) events).queue ≡ given_in_all link (sent_to j (entries r events))
  given_on r [] j link found = refl
  given_on r (e ∷ es) j link found =
      let a : After = after_event fits plan at r [] e in
      let g = gave_event r e j link found in
      let sends : List (List ℕ) = bytes_to j (acted fits plan at r e).reported.sends in
      ap (λ (x : After). on_way_to j x.queue) (one_on r e es)
      ∙ way-append j a.queue (acts fits plan at (begin fits plan at a.replica) es).queue
      ∙ ap (λ (l : List (List ℕ)). l ++ on_way_to j (acts fits plan at (begin fits plan at a.replica) es).queue) g.way_is
      ∙ ap (λ (l : List (List ℕ)). given_in_all link sends ++ l) (given_on a.replica es j (passed_all link sends) g.link_is)
      ∙ sym (given-append link sends (sent_to j (entries a.replica es)))

-- ---- passes

-- what a pass has sent, after these envelopes
pub posted_to : (sends : List Sender) (queue : List Envelope) (j : ℕ) (p : Sender) → slice_get sends j ≡ Some p
    → slice_get (posted sends queue) j ≡ Some (record p { sent = p.sent ++ on_way_to j queue })
unfolding posted
posted_to sends [] j p found = found ∙ ap (λ (l : List (List ℕ)). Some (record p { sent = l })) (sym (append-nil p.sent))
posted_to sends (e ∷ es) j p found = elim (cases_Bool (e.to == j)) [
  | inl so ↦ (
      let here : e.to ≡ j = grind (arith, nat_tests) in
      let at : slice_get sends e.to ≡ Some p = ap (slice_get sends) here ∙ found in
      let one : slice_get (posted_one sends e) j ≡ Some (sent_more p e.bytes) =
      ap (λ (o : Option Sender). slice_get (posted_for sends e o) j) at
      ∙ subst (λ (k : ℕ). slice_get (slice_set sends e.to (sent_more p e.bytes)) k ≡ Some (sent_more p e.bytes)) here
      (get_set sends e.to (sent_more p e.bytes) p at) in
      rw so (posted_to (posted_one sends e) es j (sent_more p e.bytes) one
      ∙ ap (λ (l : List (List ℕ)). Some (record p { sent = l })) (append_assoc p.sent (e.bytes ∷ []) (on_way_to j es))))
  | inr not_so ↦ (
      let other : e.to ≡ j → ⊥ = λ is. absurd (grind (arith, nat_tests)) in
      rw not_so (posted_to (posted_one sends e) es j p (elsewhere other (slice_get sends e.to))))
]
  where
    elsewhere : (e.to ≡ j → ⊥) → (o : Option Sender) → slice_get (posted_for sends e o) j ≡ Some p
    elsewhere other None = found
    elsewhere other (Some q) = get_other sends e.to j (sent_more q e.bytes) other ∙ found

-- what was taken of a sender is what was delivered from it
pub taken_of : (from : ℕ) (events : List Event) → of from (letters_in events) ≡ delivered_from from events
taken_of from [] = refl
taken_of from (Arrived list ∷ events) = taken_of from events
taken_of from (Tick floor ∷ events) = taken_of from events
taken_of from (Deliver sender bytes ∷ events) = elim (cases_Bool (sender == from)) [
  | inl so ↦ rw so (ap (λ (l : List (List ℕ)). bytes ∷ l) (taken_of from events))
  | inr not_so ↦ rw not_so (taken_of from events)
]
