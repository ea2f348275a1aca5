-- The log of a host between two steps, by the laws of the layers below.
use Rattle.std.proofs.Common.{◌≡◌, ◌≤◌, ℕ, List, [], ◌∷◌, ◌++◌, length, take, true, false, refl, sym, ap, subst, ◌∙◌, append_assoc, arith}
use Rattle.std.specs.Prelude.{All}
use Rattle.std.specs.List.{flat_map}
use Rattle.node_core.specs.declared.event.Event.{Event}
use Rattle.node_core.specs.declared.entry.Entry.{Entry}
use Rattle.node_core.specs.declared.turned.Turned.{Turned}
use Rattle.node_core.specs.Rows.{Check}
use Rattle.node_core.specs.Runs.{state_after}
use Rattle.node_core.specs.State.{State}
use Rattle.node_core.specs.Reported.{Gives}
use Rattle.node_core.specs.Turn.{turn_of}
use Rattle.durable_node.specs.Header.{HasHeader}
use Rattle.durable_node.specs.Keeping.{Stays}
use Rattle.durable_node.specs.Incarnations.{IsPrefixOf, Lifetime, answered, logged}
use Rattle.durable_node.specs.Log.{CanBeKept, LogOf, log_digest, records_of}
use Rattle.durable_node.specs.Check.{header_digest}
use Rattle.durable_node.proofs.Logs.{records_append}
use Rattle.replica_box.specs.Hosting.{Continues, ContinuesLog, HasLogged, Prepared, record_for, recorded}
use Rattle.host_laws.specs.Below.{IsRead, LogLaws}
use Rattle.host_laws.specs.Hosts.{events_in, log_of}

-- A lifetime over the log: the turns of the journal are its turns, after those on what it found. They led to the state
-- `now`. The bytes are its log and a prefix of the records of the prepared events.
pub record Logs (fits : Check) (gives : Gives) (opening : State) (header : List ℕ) (now : State)
    (ready : List Prepared) (journal : List Entry) (bytes : List ℕ) (durable : ℕ) : Type 0 where
  pub lifetime : Lifetime
  pub holds : HasLogged fits gives opening header now (recorded ready) bytes durable lifetime
  pub events : logged lifetime ≡ events_in journal

-- the records of prepared events are those that follow the log: a law of the layer below
abbrev pub RecordsFollow : Type 0
RecordsFollow =
    (header : List ℕ) (events : List Event) (ready : List Prepared)
    (digest : List ℕ) → ContinuesLog header events ready digest → flat_map record_for ready ≡ records_of (log_digest header events) (recorded ready)

-- the log of some events, followed by the records of those that are prepared
pub whole_log : RecordsFollow → (header : List ℕ) (events : List Event) (ready : List Prepared) (digest : List ℕ) → ContinuesLog header events ready digest
    → log_of header events ++ flat_map record_for ready ≡ log_of header (events ++ recorded ready)
whole_log records header events ready digest line =
    ap (λ (t : List ℕ). log_of header events ++ t) (records header events ready digest line)
    ∙ append_assoc header (LogOf header events) (records_of (log_digest header events) (recorded ready))
    ∙ ap (λ (t : List ℕ). header ++ t) (sym (records_append (header_digest header) events (recorded ready)))

-- the entry of the turn on an event
abbrev pub entry_of : Check → Gives → State → Event → Entry
entry_of fits gives now event = record { event = event; turned = (turn_of fits gives now event).reported }

pub events_append : (xs ys : List Entry) → events_in (xs ++ ys) ≡ events_in xs ++ events_in ys
events_append [] ys = refl
events_append (x ∷ xs) ys = ap (λ (es : List Event). x.event ∷ es) (events_append xs ys)

module _ (laws : LogLaws) (fits : Check) (gives : Gives) (opening : State) (header : List ℕ) (now : State) (journal : List Entry) (bytes : List ℕ)
    (durable : ℕ) where
  abbrev L : List Prepared → Type 0
  L ready = Logs fits gives opening header now ready journal bytes durable

  pub prepares : (ready : List Prepared) (next : Prepared) → L ready → (next.has_record ≡ true → CanBeKept next.event) → L (ready ++ next ∷ [])
  prepares ready next l can = record {
    lifetime = l.lifetime;
    holds = laws.prepared fits gives opening header now ready bytes durable l.lifetime next l.holds can;
    events = l.events;
  }

  pub drops : (first : Prepared) (more : List Prepared) → L (first ∷ more) → first.has_record ≡ false → L more
  drops first more l lacks = record {
    lifetime = l.lifetime;
    holds = laws.dropped fits gives opening header now first more bytes durable l.lifetime l.holds lacks;
    events = l.events;
  }

  -- the turn on an event without a record
  pub idles : (new : State) (first : Prepared) (more : List Prepared) → Continues fits gives now first more new → L (first ∷ more) → first.has_record ≡ false
      → Logs fits gives opening header new more journal bytes durable
  idles new first more goes l lacks = record {
    lifetime = l.lifetime;
    holds = goes.same lacks opening header bytes durable l.lifetime l.holds;
    events = l.events;
  }

  -- the turn on an event with a record
  pub acts : (new : State) (first : Prepared) (more : List Prepared) → Continues fits gives now first more new → L (first ∷ more) → first.has_record ≡ true
      → length (log_of header (events_in journal ++ first.event ∷ [])) ≤ durable → durable ≤ length bytes
      → Logs fits gives opening header new more (journal ++ entry_of fits gives now first.event ∷ []) bytes durable
  acts new first more goes l has enough within =
      let turned : Turned = (turn_of fits gives now first.event).reported in
      let size : length (log_of header (logged l.lifetime ++ first.event ∷ [])) ≡ length (log_of header (events_in journal ++ first.event ∷ [])) =
      ap (λ (es : List Event). length (log_of header (es ++ first.event ∷ []))) l.events in
      record {
        lifetime = answered l.lifetime first.event turned;
        holds = goes.lived has opening header bytes durable l.lifetime l.holds (omega (arith, enough, size)) within;
        events =
            answered_events l.lifetime first.event turned ∙ ap (λ (es : List Event). es ++ first.event ∷ []) l.events
            ∙ sym (events_append journal (entry_of fits gives now first.event ∷ []));
      }
    where
      answered_events : (lifetime : Lifetime) (e : Event) (t : Turned) → logged (answered lifetime e t) ≡ logged lifetime ++ e ∷ []
      answered_events lifetime e t =
          ap (λ (es : List Event). lifetime.found ++ es) (events_append lifetime.turns (record { event = e; turned = t } ∷ []))
          ∙ sym (append_assoc lifetime.found (events_in lifetime.turns) (e ∷ []))

  pub writes : (ready : List Prepared) (more : List ℕ) (more_durable : ℕ) → L ready → IsPrefixOf bytes more
      → IsPrefixOf more (log_of header (events_in journal ++ recorded ready)) → durable ≤ more_durable
      → Logs fits gives opening header now ready journal more more_durable
  writes ready more more_durable l grown within enough = record {
    lifetime = l.lifetime;
    holds = laws.appended fits gives opening header now (recorded ready) bytes more durable more_durable l.lifetime l.holds grown
        (subst (λ (es : List Event). IsPrefixOf more (log_of header (es ++ recorded ready))) (sym l.events) within) enough;
    events = l.events;
  }

  -- more of the bytes is durable
  pub firmer : (ready : List Prepared) (more : ℕ) → L ready → durable ≤ more → Logs fits gives opening header now ready journal bytes more
  firmer ready more l grown =
      let h = l.holds in
      record {
        lifetime = l.lifetime;
        holds = record {
          lived = record {
            sized = h.lived.sized;
            answers = h.lived.answers;
            stands = h.lived.stands;
            held = h.lived.held;
            kept = omega
                (arith, h.lived.kept, grown);
            each = h.lived.each;
          };
          tail = h.tail;
          follows = h.follows;
          written = h.written;
          each = h.each;
        };
        events = l.events;
      }

  pub leaves_header : (ready : List Prepared) (new : List ℕ) → L ready → Stays durable bytes new → HasHeader header new
  leaves_header ready new l stays = laws.headed fits gives opening header now (recorded ready) bytes new durable l.lifetime l.holds stays

  pub leaves_events : (ready : List Prepared) (new : List ℕ) → L ready → Stays durable bytes new → (events : List Event) (end : ℕ)
      → IsRead header new events end → IsPrefixOf (events_in journal) events
  leaves_events ready new l stays events end whole =
      let left = laws.crashed fits gives opening header now (recorded ready) bytes new durable l.lifetime l.holds stays events end whole in
      record { more = take left.count (recorded ready); is = left.are ∙ ap (λ (es : List Event). es ++ take left.count (recorded ready)) l.events }

  -- the state to which the journal's events lead
  pub state_is : (ready : List Prepared) → L ready → now ≡ state_after fits gives opening (events_in journal)
  state_is ready l = (l.holds.lived.stands refl).1 ∙ ap (λ (es : List Event). state_after fits gives opening es) l.events

  pub all_kept : (ready : List Prepared) → L ready → All CanBeKept (events_in journal)
  all_kept ready l = subst (λ (es : List Event). All CanBeKept es) l.events l.holds.lived.each
