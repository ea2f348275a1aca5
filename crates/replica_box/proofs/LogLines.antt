-- The records of prepared events, one after another.
use Rattle.std.proofs.Common.{◌≡◌, ℕ, List, [], ◌∷◌, ◌++◌, Bool, true, false, refl, sym, ap, subst, ◌∙◌}
use Rattle.std.specs.List.{flat_map}
use Rattle.node_core.specs.declared.event.Event.{Event}
use Rattle.durable_node.specs.Check.{header_digest}
use Rattle.durable_node.specs.Log.{digest_after, log_digest, record_of, records_of}
use Rattle.durable_node.proofs.Logs.{digest_append}
use Rattle.replica_box.specs.Hosting.{AreInLine, ContinuesLog, Prepared, digest_past, front_digest, record_for, recorded}
use Rattle.replica_box.specs.Seats.{HasPrepared, Seat}

pub opened : (header : List ℕ) (events : List Event) → ContinuesLog header events [] (log_digest header events)
opened header events = record { line = tt; front = refl }

-- ---- one event more

front_more : (ready : List Prepared) (p : Prepared) (digest : List ℕ) → p.digest ≡ digest
    → front_digest (ready ++ p ∷ []) (digest_past p) ≡ front_digest ready digest
front_more [] p digest after = after
front_more (q ∷ ready) p digest after = refl

line_more : (ready : List Prepared) (p : Prepared) (digest : List ℕ) → AreInLine ready digest → p.digest ≡ digest → AreInLine (ready ++ p ∷ []) (digest_past p)
line_more [] p digest line after = (refl, tt)
line_more (q ∷ ready) p digest line after = (line.0 ∙ sym (front_more ready p digest after), line_more ready p digest line.1 after)

pub lined : (header : List ℕ) (events : List Event) (old new : Seat) (event : Event) → ContinuesLog header events old.ready old.digest
    → HasPrepared event old new
    → ContinuesLog header events new.ready new.digest
lined header events old new event log prepared =
    let p = prepared.ready in
    subst (λ (s : Seat). ContinuesLog header events s.ready s.digest) (sym prepared.is) (record {
      line = line_more old.ready p old.digest log.line prepared.prepared.after;
      front = front_more old.ready p old.digest prepared.prepared.after ∙ log.front;
    })

-- ---- the first event is taken out

past_is : (e : Event) (has : Bool) (d : List ℕ)
    → digest_past (record { event = e; has_record = has; digest = d }) ≡ digest_after d (recorded (record { event = e; has_record = has; digest = d } ∷ []))
past_is e true d = refl
past_is e false d = refl

pub taken : (header : List ℕ) (events : List Event) (first : Prepared) (more : List Prepared) (digest : List ℕ)
    → ContinuesLog header events (first ∷ more) digest
    → ContinuesLog header (events ++ recorded (first ∷ [])) more digest
taken header events first more digest log = record {
  line = log.line.1;
  front = sym log.line.0 ∙ past_is first.event first.has_record first.digest ∙ ap (λ (d : List ℕ). digest_after d (recorded (first ∷ []))) log.front
      ∙ sym (digest_append (header_digest header) events (recorded (first ∷ [])));
}

-- ---- all records

records_with : (e : Event) (has : Bool) (d : List ℕ) (ready : List Prepared) (digest : List ℕ)
    → digest_past (record { event = e; has_record = has; digest = d }) ≡ front_digest ready digest
    → flat_map record_for ready ≡ records_of (front_digest ready digest) (recorded ready)
    → flat_map record_for (record { event = e; has_record = has; digest = d } ∷ ready)
    ≡ records_of d (recorded (record { event = e; has_record = has; digest = d } ∷ ready))
records_with e true d ready digest past rest =
    ap (λ (t : List ℕ). record_of d e ++ t) (rest ∙ ap (λ (x : List ℕ). records_of x (recorded ready)) (sym past))
records_with e false d ready digest past rest = rest ∙ ap (λ (x : List ℕ). records_of x (recorded ready)) (sym past)

records_are : (ready : List Prepared) (digest : List ℕ) → AreInLine ready digest
    → flat_map record_for ready ≡ records_of (front_digest ready digest) (recorded ready)
records_are [] digest line = refl
records_are (p ∷ ready) digest line = records_with p.event p.has_record p.digest ready digest line.0 (records_are ready digest line.1)

pub records : (header : List ℕ) (events : List Event) (ready : List Prepared) (digest : List ℕ) → ContinuesLog header events ready digest
    → flat_map record_for ready ≡ records_of (log_digest header events) (recorded ready)
records header events ready digest log = records_are ready digest log.line ∙ ap (λ (x : List ℕ). records_of x (recorded ready)) log.front
