-- The log of a host: what it holds of a replica's lifetime, and of the events that are prepared.
use Rattle.std.specs.Prelude.{◌≡◌, ◌≤◌, ℕ, List, [], ◌∷◌, ◌++◌, length, map, take, ⊤, All, Bool, true, false, Some, if◌then◌else◌}
use Rattle.std.specs.List.{filter}
use Rattle.node_core.specs.declared.event.Event.{Event}
use Rattle.node_core.specs.Rows.{Check}
use Rattle.node_core.specs.State.{State}
use Rattle.node_core.specs.Reported.{Gives}
use Rattle.node_core.specs.Turn.{turn_of}
use Rattle.durable_node.specs.Header.{IsOwn, records_in}
use Rattle.durable_node.specs.Incarnations.{HasLived, IsPrefixOf, Lifetime, answered, logged, tried}
use Rattle.durable_node.specs.Check.{header_digest, next_digest}
use Rattle.durable_node.specs.Log.{CanBeKept, IsWholePrefix, LogOf, body_of, log_digest, record_of, records_of}

-- An event that is prepared, and the running digest of the log before it. An event whose turn changes nothing needs no record.
pub record Prepared : Type 0 where
  pub event : Event
  pub has_record : Bool
  pub digest : List ℕ

-- its record, which is empty where it needs none
abbrev pub record_for : Prepared → List ℕ
record_for p = if p.has_record then record_of p.digest p.event else []

-- the running digest after it
abbrev pub digest_past : Prepared → List ℕ
digest_past p = if p.has_record then next_digest p.digest (body_of p.event) else p.digest

-- the running digest before the first of these events, where the last one leaves this digest
abbrev pub front_digest : List Prepared → List ℕ → List ℕ
front_digest [] digest = digest
front_digest (p ∷ ready) digest = p.digest

-- each event is prepared after the one before it, and the last one leaves this running digest
abbrev pub AreInLine : List Prepared → List ℕ → Type 0
AreInLine [] digest = ⊤
AreInLine (p ∷ ready) digest = (digest_past p ≡ front_digest ready digest) × AreInLine ready digest

-- Their records continue the log with this header and these events.
pub record ContinuesLog (header : List ℕ) (events : List Event) (ready : List Prepared) (digest : List ℕ) : Type 0 where
  pub line : AreInLine ready digest
  pub front : front_digest ready digest ≡ log_digest header events

-- the events that have a record, in their order
abbrev pub recorded : List Prepared → List Event
recorded ready = map (λ p. p.event) (filter (λ p. p.has_record) ready)

-- The bytes are the header, the records of the events that the lifetime logged, which led to the state `now`, and then a
-- prefix of the records of these prepared events. The first `durable_size` bytes are durable: at least the header and the
-- records of the lifetime.
pub record HasLogged (fits : Check) (gives : Gives) (opening : State) (header : List ℕ) (now : State) (events : List Event) (bytes : List ℕ)
    (durable_size : ℕ) (lifetime : Lifetime) : Type 0 where
  pub lived : HasLived fits gives opening header false now (header ++ LogOf header (logged lifetime)) durable_size lifetime
  pub tail : List ℕ
  pub follows : bytes ≡ (header ++ LogOf header (logged lifetime)) ++ tail
  pub written : IsPrefixOf tail (records_of (log_digest header (logged lifetime)) events)
  pub each : All CanBeKept events

-- How the host's log continues over the turn on the event that was prepared first.
pub record Continues (fits : Check) (gives : Gives) (old : State) (first : Prepared) (more : List Prepared) (new : State) : Type 0 where
  -- Where the event has a record, and the host has made it durable, the bytes are the log of the lifetime with this turn,
  -- followed by what the host has of the other records.
  pub lived : first.has_record ≡ true → (opening : State) (header bytes : List ℕ) (durable_size : ℕ) (lifetime : Lifetime)
      → HasLogged fits gives opening header old (recorded (first ∷ more)) bytes durable_size lifetime
      → length (header ++ LogOf header (logged lifetime ++ first.event ∷ [])) ≤ durable_size → durable_size ≤ length bytes
      → HasLogged fits gives opening header new (recorded more) bytes durable_size (answered lifetime first.event (turn_of fits gives old first.event).reported)
  -- Where it has none, the bytes stay the log of the same lifetime, and the turn seals nothing.
  pub same : first.has_record ≡ false → (opening : State) (header bytes : List ℕ) (durable_size : ℕ) (lifetime : Lifetime)
      → HasLogged fits gives opening header old (recorded (first ∷ more)) bytes durable_size lifetime
      → HasLogged fits gives opening header new (recorded more) bytes durable_size lifetime
  pub unsealed : first.has_record ≡ false → (turn_of fits gives old first.event).reported.sealed ≡ []

-- What a crash leaves of a new log before its header is durable: the owner's own log, without events.
pub record IsNewLog (header log : List ℕ) : Type 0 where
  pub own : IsOwn header log
  pub none : (events : List Event) (end : ℕ) → IsWholePrefix (header_digest header) (records_in log) events end → events ≡ []

-- What a crash leaves: the events that the lifetime logged, and the first of those that were prepared with a record.
pub record LeavesPrefix (lifetime : Lifetime) (ready events : List Event) : Type 0 where
  pub count : ℕ
  pub are : events ≡ logged lifetime ++ take count ready

-- Lifetimes that stand for the events that a crash left without a turn, one for each: it finds the events before its own,
-- makes no turn, and tries its own.
abbrev pub lifetimes_between : List Event → List Event → List Lifetime
lifetimes_between found [] = []
lifetimes_between found (e ∷ es) = record { found = found; turns = []; tried = Some e } ∷ lifetimes_between (found ++ e ∷ []) es

-- a lifetime that was about to act on the first of these events, if there is one
abbrev pub with_first : Lifetime → List Event → Lifetime
with_first lifetime [] = lifetime
with_first lifetime (e ∷ es) = tried lifetime e

-- the lifetimes that follow it, up to the next one
abbrev pub then_next : List Event → List Event → Lifetime → List Lifetime
then_next found [] next = next ∷ []
then_next found (e ∷ es) next = lifetimes_between (found ++ e ∷ []) es ++ next ∷ []
