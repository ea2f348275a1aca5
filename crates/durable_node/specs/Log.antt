-- The log of a node's events, and reading it back.
use Rattle.std.specs.Prelude.{◌≡◌, ◌≢◌, ◌⊎◌, ℕ, ◌+◌, ◌*◌, ◌^◌, ◌<◌, ◌≤◌, List, [], ◌∷◌, ◌++◌, length, take, drop, All, ⊤, Option, Some, None, ◌==◌, if◌then◌else◌}
use Rattle.std.specs.List.{flat_map, AllByRecursion}
use Rattle.std.specs.Int.{w8, w32, from_be_bytes, to_be_bytes}
use Rattle.seq_base.specs.Spelling.{tx_spelling}
use Rattle.seq_base.specs.Tx.{FitsTx}
use Rattle.wire_view.specs.Reading.{txs_in}
use Rattle.node_core.specs.declared.event.Event.{Event}
use Rattle.node_core.specs.declared.event.Event.TheVariants.{Arrived, Deliver, Tick}
use Rattle.durable_node.specs.Check.{check_of, header_digest, next_digest}

-- ---- writing

-- the body of an event's record
unfoldable pub body_of : Event → List ℕ
body_of (Arrived txs) = 1 ∷ to_be_bytes w32 (length txs) ++ flat_map tx_spelling txs
body_of (Deliver from bytes) = 2 ∷ to_be_bytes w8 from ++ bytes
body_of (Tick floor) = 3 ∷ to_be_bytes w32 floor

-- the check of the length of an event's body, after a running digest
abbrev pub size_check : List ℕ → Event → List ℕ
size_check digest e = check_of (digest ++ to_be_bytes w32 (length (body_of e)))

-- A body in its record, after this running digest: its length, a check of the digest and those four bytes, the body, and the
-- first bytes of the digest after it.
unfoldable pub framed : List ℕ → List ℕ → List ℕ
framed digest body = to_be_bytes w32 (length body) ++ check_of (digest ++ to_be_bytes w32 (length body)) ++ body ++ take 8 (next_digest digest body)

abbrev pub record_of : List ℕ → Event → List ℕ
record_of digest e = framed digest (body_of e)

-- the running digest after the records of events
abbrev pub digest_after : List ℕ → List Event → List ℕ
digest_after digest [] = digest
digest_after digest (e ∷ events) = digest_after (next_digest digest (body_of e)) events

-- their records
abbrev pub records_of : List ℕ → List Event → List ℕ
records_of digest [] = []
records_of digest (e ∷ events) = record_of digest e ++ records_of (next_digest digest (body_of e)) events

-- the records of events in a log with this header
abbrev pub LogOf : List ℕ → List Event → List ℕ
LogOf header events = records_of (header_digest header) events

-- the running digest of that log
abbrev pub log_digest : List ℕ → List Event → List ℕ
log_digest header events = digest_after (header_digest header) events

-- its numbers fit their fields
abbrev pub IsNarrow : Event → Type 0
IsNarrow (Arrived txs) = AllByRecursion FitsTx txs
IsNarrow (Deliver from bytes) = (from < 256) × All (λ b. b < 256) bytes
IsNarrow (Tick floor) = floor < 2 ^ 32

-- the length of its body fits the field before it, and its sender one byte
abbrev pub IsShort : Event → Type 0
IsShort (Arrived txs) = length (body_of (Arrived txs)) < 2 ^ 32
IsShort (Deliver from bytes) = (from < 256) × (length (body_of (Deliver from bytes)) < 2 ^ 32)
IsShort (Tick floor) = ⊤

-- it can be kept and read back
pub record CanBeKept (e : Event) : Type 0 where
  pub narrow : IsNarrow e
  pub small : IsShort e

-- ---- reading, after a running digest

abbrev pub arrived_in : List ℕ → Option Event
arrived_in rest =
    if length rest == 4 + 16 * from_be_bytes w32 (take 4 rest) then Some (Arrived (txs_in (from_be_bytes w32 (take 4 rest)) (drop 4 rest)))
    else None

abbrev pub delivered_in : List ℕ → Option Event
delivered_in [] = None
delivered_in (from ∷ bytes) = Some (Deliver from bytes)

abbrev pub tick_in : List ℕ → Option Event
tick_in rest = if length rest == 4 then Some (Tick (from_be_bytes w32 (take 4 rest))) else None

abbrev pub event_of_kind : ℕ → List ℕ → Option Event
event_of_kind kind rest =
    if kind == 1 then arrived_in rest
    else if kind == 2 then delivered_in rest
    else if kind == 3 then tick_in rest
    else None

-- the event whose body this is
unfoldable pub event_in : List ℕ → Option Event
event_in [] = None
event_in (kind ∷ rest) = event_of_kind kind rest

-- the length of a record's body, by the first four bytes
abbrev pub body_size : List ℕ → ℕ
body_size rest = from_be_bytes w32 (take 4 rest)

-- the length of the record
abbrev pub size_at : List ℕ → ℕ
size_at rest = 20 + body_size rest

-- the check of its length matches
abbrev pub HasSize : List ℕ → List ℕ → Type 0
HasSize digest rest = take 8 (drop 4 rest) ≡ check_of (digest ++ take 4 rest)

abbrev pub body_at : List ℕ → List ℕ
body_at rest = take (body_size rest) (drop 12 rest)

-- the check of its body matches
abbrev pub HasBody : List ℕ → List ℕ → Type 0
HasBody digest rest = take 8 (drop (body_size rest) (drop 12 rest)) ≡ take 8 (next_digest digest (body_at rest))

-- The bytes end within a record: within its length and the check of that; or, if this check matches, before the end
-- that the length gives. A length whose check does not match is corrupt, and never taken for that of a torn record.
abbrev pub IsCut : List ℕ → List ℕ → Type 0
IsCut digest rest = (length rest < 12) ⊎ (HasSize digest rest × (length rest < size_at rest))

-- the event of a whole record at the start of bytes, if it is one's
abbrev pub IsNext : List ℕ → List ℕ → Option Event → Type 0
IsNext digest rest (Some e) = CanBeKept e × (take (size_at rest) rest ≡ record_of digest e)
IsNext digest rest None = (e : Event) → CanBeKept e → take (size_at rest) rest ≢ record_of digest e

-- the body of the first record, both of whose checks match, and the running digest after it
pub record IsBodyOf (digest rest body now : List ℕ) : Type 0 where
  pub is : body ≡ body_at rest
  pub size : HasSize digest rest
  pub check : HasBody digest rest
  pub moved : now ≡ next_digest digest body

-- the first record is an event's, and this is the running digest after it
pub record Skips (digest rest now : List ℕ) : Type 0 where
  pub event : Event
  pub next : IsNext digest rest (Some event)
  pub moved : now ≡ next_digest digest (body_of event)

-- The bytes up to a place are the whole records of these events, after a running digest. Anything may follow.
pub record BeginsWith (digest log : List ℕ) (events : List Event) (end : ℕ) : Type 0 where
  pub prefix : take end log ≡ records_of digest events
  pub size : end ≡ length (records_of digest events)
  pub each : All CanBeKept events

-- The longest prefix of whole records: the records of these events, and no whole record after them.
pub record IsWholePrefix (digest log : List ℕ) (events : List Event) (end : ℕ) : Type 0 where
  pub prefix : take end log ≡ records_of digest events
  pub size : end ≡ length (records_of digest events)
  pub each : All CanBeKept events
  pub cut : IsCut (digest_after digest events) (drop end log)

-- The record at a place, after whole records of events, is corrupt: the bytes do not end within it, and it is no
-- event's.
pub record IsBadAt (digest log : List ℕ) (at : ℕ) : Type 0 where
  pub events : List Event
  pub prefix : take at log ≡ records_of digest events
  pub size : at ≡ length (records_of digest events)
  pub each : All CanBeKept events
  pub whole : IsCut (digest_after digest events) (drop at log) → ⊥
  pub bad : IsNext (digest_after digest events) (drop at log) None

-- no record is corrupt
abbrev pub NoneBad : List ℕ → List ℕ → Type 0
NoneBad digest log = (at : ℕ) → IsBadAt digest log at → ⊥

-- An existing check does not match: that of the length; or, if that one matches, that of the body.
abbrev pub IsWrong : List ℕ → List ℕ → Type 0
IsWrong digest rest = ((12 ≤ length rest) × (HasSize digest rest → ⊥)) ⊎ (HasSize digest rest × (size_at rest ≤ length rest) × (HasBody digest rest → ⊥))
