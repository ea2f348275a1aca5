-- The steps of a host that keeps the promises of `themis.h`. Each step that calls the replica rests on the clauses of the
-- call.
use Rattle.std.specs.Prelude.{◌≡◌, ◌⊎◌, ◌≤◌, ℕ, List, [], ◌∷◌, ◌++◌, length, take, drop, true, Some, IfSome, if◌then◌else◌}
use Rattle.std.specs.List.{flat_map}
use Rattle.intake.specs.Desk.{Desk}
use Rattle.node_core.specs.declared.event.Event.{Event}
use Rattle.node_core.specs.declared.event.Reason.{Reason}
use Rattle.node_core.specs.declared.entry.Entry.{Entry}
use Rattle.node_core.specs.Runs.{journal_of, state_after}
use Rattle.journal_rules.specs.Sealed.{sealed_in}
use Rattle.durable_node.specs.Incarnations.{IsPrefixOf}
use Rattle.durable_node.specs.Keeping.{Stays}
use Rattle.replica_box.specs.Hosting.{Prepared, record_for}
use Rattle.replica_box.specs.Opening.{HasOpened, IsDigestOf}
use Rattle.replica_box.specs.Owners.{AreToldApart, IsOwner}
use Rattle.replica_box.specs.Seats.{HasPrepared, HasTurned, IsAgain, Seat, finals_at, fits_of, gives_of, outcome_of}
use Rattle.host_laws.specs.Roles.{Role, Secret, fits_for, gives_for, header_for, opening_for, owner_of}
use Rattle.host_laws.specs.Hosts.{File, Found, Written, Phase, Closed, Running, Host, events_in, head_at, log_of, new_host, signed_from}

-- ---- opening

-- all turns on these events from the opening on
abbrev pub turns_on : Secret → Role → List Event → List Entry
turns_on secret role events = journal_of (fits_for role) (gives_for secret role) (opening_for role) events

-- the turns on the events of a log after those of the journal
abbrev pub recovered : Secret → Role → List Entry → List Event → List Entry
recovered secret role journal events =
    journal_of (fits_for role) (gives_for secret role) (state_after (fits_for role) (gives_for secret role) (opening_for role) (events_in journal))
    (drop (length journal) events)

-- The replica is opened from the durable bytes of its log: `Replica::open`, with its clauses. It makes the turns on all events
-- of the log, and seals their statements again.
pub record Opens (secret : Secret) (role : Role) (old new : Host) : Type 0 where
  pub log : List ℕ
  pub seat : Seat
  pub used : ℕ
  pub was : old.phase ≡ Closed log
  pub owner : IsOwner (owner_of secret role)
  -- Where the host passes another list of public keys than at the last opening, that has another digest.
  pub apart : IfSome old.role (λ last. AreToldApart (owner_of secret last) (owner_of secret role))
  pub opened : HasOpened (fits_for role) (gives_for secret role) (opening_for role) seat.header log used seat.node.state
  pub digest : IsDigestOf seat.header log seat.digest
  pub header : seat.header ≡ header_for role
  pub fits : fits_of seat ≡ fits_for role
  pub gives : gives_of seat ≡ gives_for secret role
  pub idle : seat.ready ≡ []
  pub within : used ≤ length log
  pub is : new ≡ record {
    phase = Running seat (Found log used);
    role = Some role;
    journal = old.journal ++ recovered secret role old.journal opened.events;
    seals = old.seals ++ signed_from 0 (sealed_in (turns_on secret role opened.events));
    head = head_at seat.node.state.known;
    batches = finals_at seat.node.state.known;
  }

-- ---- writing

-- The file is truncated to the used bytes.
pub record Truncates (old new : Host) : Type 0 where
  pub seat : Seat
  pub log : List ℕ
  pub used : ℕ
  pub was : old.phase ≡ Running seat (Found log used)
  pub is : new ≡ record old { phase = Running seat (Written (take used log) used) }

-- More of the header is appended, or of the records of the prepared events (`Replica::record`), in their order, after those of
-- the events that it acted on. The first record comes once the header is durable.
pub record Appends (old new : Host) : Type 0 where
  pub seat : Seat
  pub bytes : List ℕ
  pub durable : ℕ
  pub more : List ℕ
  pub was : old.phase ≡ Running seat (Written bytes durable)
  pub grown : IsPrefixOf bytes more
  pub within : IsPrefixOf more (log_of seat.header (events_in old.journal) ++ flat_map record_for seat.ready)
  pub header_first : (length more ≤ length seat.header) ⊎ (length seat.header ≤ durable)
  pub is : new ≡ record old { phase = Running seat (Written more durable) }

-- More of what was written is durable.
pub record Syncs (old new : Host) : Type 0 where
  pub seat : Seat
  pub bytes : List ℕ
  pub durable : ℕ
  pub more : ℕ
  pub was : old.phase ≡ Running seat (Written bytes durable)
  pub grown : durable ≤ more
  pub within : more ≤ length bytes
  pub is : new ≡ record old { phase = Running seat (Written bytes more) }

-- ---- calls

-- An event is prepared: `Replica::prepare`.
pub record Prepares (event : Event) (old new : Host) : Type 0 where
  pub seat : Seat
  pub file : File
  pub next : Seat
  pub was : old.phase ≡ Running seat file
  pub prepared : HasPrepared event seat next
  pub is : new ≡ record old { phase = Running next file }

-- this many bytes of the file are durable
abbrev pub AreDurable : File → ℕ → Type 0
AreDurable (Found log used) size = ⊥
AreDurable (Written bytes durable) size = size ≤ durable

-- the turn on the event that was prepared first, in the journal if the event has a record
abbrev pub acted : Seat → Prepared → List Entry
acted seat first = if first.has_record then record { event = first.event; turned = (outcome_of seat first.event).reported } ∷ [] else []

-- The turn on the event that was prepared first: `Replica::act`.
pub record Turns (first : Prepared) (reason : Reason) (old new : Host) : Type 0 where
  pub seat : Seat
  pub file : File
  pub next : Seat
  pub more : List Prepared
  pub was : old.phase ≡ Running seat file
  pub ready : seat.ready ≡ first ∷ more
  pub turned : HasTurned first more reason seat next
  pub header : next.header ≡ seat.header
  pub is : new ≡ record {
    phase = Running next file;
    role = old.role;
    journal = old.journal ++ acted seat first;
    seals = old.seals ++ signed_from seat.node.state.made next.sealed;
    head = head_at next.node.state.known;
    batches = finals_at next.node.state.known;
  }

-- If the event has a record, the log up to the end of that record is durable.
abbrev pub IsLogged : Phase → List Entry → Prepared → Type 0
IsLogged (Closed log) journal first = ⊥
IsLogged (Running seat file) journal first = first.has_record ≡ true → AreDurable file (length (log_of seat.header (events_in journal ++ first.event ∷ [])))

abbrev pub Acts : Prepared → Reason → Host → Host → Type 0
Acts first reason old new = Turns first reason old new × IsLogged old.phase old.journal first

-- The event that was prepared first has to be prepared again: `Replica::act` answers `Again`.
pub record TakesOut (old new : Host) : Type 0 where
  pub seat : Seat
  pub file : File
  pub next : Seat
  pub was : old.phase ≡ Running seat file
  pub again : IsAgain seat next
  pub is : new ≡ record old { phase = Running next file }

-- What it received or heard has changed: `Replica::submit`, `hear`, `arrive` and the other calls that make no turn.
pub record Receives (old new : Host) : Type 0 where
  pub seat : Seat
  pub file : File
  pub desk : Desk
  pub was : old.phase ≡ Running seat file
  pub is : new ≡ record old { phase = Running (record seat { desk = desk }) file }

-- ---- stopping

-- What a crash leaves: the file as it was found, or truncated; or a prefix of what was written, with all durable bytes.
abbrev pub Leaves : File → List ℕ → Type 0
Leaves (Found log used) left = (left ≡ log) ⊎ (left ≡ take used log)
Leaves (Written bytes durable) left = Stays durable bytes left

-- The host crashes, or frees the replica: after a turn that ran out of memory, or at any time.
pub record Stops (old new : Host) : Type 0 where
  pub seat : Seat
  pub file : File
  pub left : List ℕ
  pub was : old.phase ≡ Running seat file
  pub leaves : Leaves file left
  pub is : new ≡ record old { phase = Closed left }

-- ---- runs

pub data Deed : Type 0 where
  Opening : (role : Role) → Deed
  Truncating : Deed
  Appending : Deed
  Syncing : Deed
  Preparing : (event : Event) → Deed
  Acting : (first : Prepared) (reason : Reason) → Deed
  TakingOut : Deed
  Receiving : Deed
  -- a call that refuses, and changes nothing
  Refused : Deed
  Stopping : Deed

abbrev pub Does : Secret → Deed → Host → Host → Type 0
Does secret (Opening role) old new = Opens secret role old new
Does secret Truncating old new = Truncates old new
Does secret Appending old new = Appends old new
Does secret Syncing old new = Syncs old new
Does secret (Preparing event) old new = Prepares event old new
Does secret (Acting first reason) old new = Acts first reason old new
Does secret TakingOut old new = TakesOut old new
Does secret Receiving old new = Receives old new
Does secret Refused old new = new ≡ old
Does secret Stopping old new = Stops old new

-- These steps lead from one host to another, each by its deed.
abbrev pub LeadBy : (Deed → Host → Host → Type 0) → Host → List (Deed × Host) → Host → Type 0
LeadBy does old [] last = last ≡ old
LeadBy does old (step ∷ steps) last = does step.0 old step.1 × LeadBy does step.1 steps last

abbrev pub Lead : Secret → Host → List (Deed × Host) → Host → Type 0
Lead secret old steps last = LeadBy (Does secret) old steps last

-- a run of a host with this secret, from an empty log on
abbrev pub IsHostRun : Secret → List (Deed × Host) → Host → Type 0
IsHostRun secret steps last = Lead secret new_host steps last
