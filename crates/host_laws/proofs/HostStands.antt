-- What holds of a host after every step of its run.
use Rattle.std.proofs.Common.{◌≡◌, ◌≤◌, ◌⊎◌, ℕ, List, [], length, take, Some}
use Rattle.std.specs.Prelude.{All}
use Rattle.seq_base.specs.declared.tx.Tx.{Tx}
use Rattle.node_core.specs.declared.event.Event.{Event}
use Rattle.node_core.specs.declared.entry.Entry.{Entry}
use Rattle.node_core.specs.Runs.{state_after}
use Rattle.node_core.specs.State.{State}
use Rattle.run_record.specs.declared.record.Head.{Head}
use Rattle.journal_rules.specs.Sealed.{sealed_in}
use Rattle.durable_node.specs.Header.{HasHeader, IsOwn, IsTorn}
use Rattle.durable_node.specs.Incarnations.{IsPrefixOf}
use Rattle.durable_node.specs.Log.{CanBeKept}
use Rattle.replica_box.specs.Hosting.{ContinuesLog}
use Rattle.replica_box.specs.Owners.{IsOwner}
use Rattle.replica_box.specs.Seats.{Seat, finals_at, fits_of, gives_of}
use Rattle.host_laws.specs.Below.{IsRead}
use Rattle.host_laws.specs.Roles.{Role, Secret, fits_for, gives_for, header_for, opening_for, owner_of}
use Rattle.host_laws.specs.Hosts.{File, Found, Written, Phase, Closed, Running, Host, events_in, head_at, log_of, new_host}
use Rattle.host_laws.specs.Steps.{turns_on}
use Rattle.host_laws.proofs.HostLogs.{Logs}
use Rattle.host_laws.proofs.SignedLeaves.{IsAtLeaf}

-- the state to which the turns on these events lead
abbrev pub state_for : Secret → Role → List Event → State
state_for secret role events = state_after (fits_for role) (gives_for secret role) (opening_for role) events

-- The turns of the journal are those of a node in this role, and what it showed last is their outcome.
pub record IsOf (secret : Secret) (role : Role) (journal : List Entry) (head : Head) (batches : List (List Tx)) : Type 0 where
  pub owner : IsOwner (owner_of secret role)
  pub turns : journal ≡ turns_on secret role (events_in journal)
  pub each : All CanBeKept (events_in journal)
  pub head_is : head ≡ head_at (state_for secret role (events_in journal)).known
  pub batches_are : batches ≡ finals_at (state_for secret role (events_in journal)).known

-- the log of the replica in this role, in its state and with its prepared events
abbrev pub LogsFor : Secret → Role → Seat → List Entry → List ℕ → ℕ → Type 0
LogsFor secret role seat journal bytes durable =
    Logs (fits_for role) (gives_for secret role) (opening_for role) (header_for role) seat.node.state seat.ready journal bytes durable

-- The file is as the opening found it.
pub record IsFound (secret : Secret) (role : Role) (seat : Seat) (journal : List Entry) (log : List ℕ) (used : ℕ) : Type 0 where
  pub logs : LogsFor secret role seat journal (log_of (header_for role) (events_in journal)) (length (log_of (header_for role) (events_in journal)))
  pub own : IsOwn (header_for role) log
  pub end : ℕ
  pub whole : IsRead (header_for role) log (events_in journal) end
  pub headed : HasHeader (header_for role) log → take used log ≡ log_of (header_for role) (events_in journal)
  pub torn : IsTorn (header_for role) log → (used ≡ 0) × (journal ≡ [])
  pub within : used ≤ length log

-- The header is being written.
pub record IsHeading (secret : Secret) (role : Role) (seat : Seat) (journal : List Entry) (bytes : List ℕ) (durable : ℕ) : Type 0 where
  pub logs : LogsFor secret role seat journal (log_of (header_for role) []) (length (log_of (header_for role) []))
  pub none : journal ≡ []
  pub part : IsPrefixOf bytes (header_for role)
  pub within : durable ≤ length bytes

-- The header is durable.
pub record IsHeaded (secret : Secret) (role : Role) (seat : Seat) (journal : List Entry) (bytes : List ℕ) (durable : ℕ) : Type 0 where
  pub logs : LogsFor secret role seat journal bytes durable
  pub within : durable ≤ length bytes

abbrev pub FileIs : Secret → Role → Seat → List Entry → File → Type 0
FileIs secret role seat journal (Found log used) = IsFound secret role seat journal log used
FileIs secret role seat journal (Written bytes durable) = IsHeading secret role seat journal bytes durable ⊎ IsHeaded secret role seat journal bytes durable

pub record IsRunning (secret : Secret) (role : Role) (seat : Seat) (file : File) (journal : List Entry) : Type 0 where
  pub header : seat.header ≡ header_for role
  pub fits : fits_of seat ≡ fits_for role
  pub gives : gives_of seat ≡ gives_for secret role
  pub line : ContinuesLog (header_for role) (events_in journal) seat.ready seat.digest
  pub file_is : FileIs secret role seat journal file

-- No turn with a record was made so far; or the log has the header, and whole records, the first of which are those of the
-- journal.
abbrev pub IsClosed : Role → List ℕ → List Entry → Type 0
IsClosed role log journal =
    (journal ≡ []) ⊎ (HasHeader (header_for role) log ×
    ((events : List Event) (end : ℕ) → IsRead (header_for role) log events end → IsPrefixOf (events_in journal) events))

abbrev pub PhaseIs : Secret → Role → Phase → List Entry → Type 0
PhaseIs secret role (Closed log) journal = IsClosed role log journal
PhaseIs secret role (Running seat file) journal = IsRunning secret role seat file journal

pub record Stands (secret : Secret) (host : Host) : Type 0 where
  pub role : Role
  pub role_is : host.role ≡ Some role
  pub is_of : IsOf secret role host.journal host.head host.batches
  pub seals : All (IsAtLeaf (sealed_in host.journal)) host.seals
  pub phase : PhaseIs secret role host.phase host.journal

-- It was never opened, or stands so.
abbrev pub IsGood : Secret → Host → Type 0
IsGood secret host = (host ≡ new_host) ⊎ Stands secret host
