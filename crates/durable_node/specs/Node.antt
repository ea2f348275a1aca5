-- A node that logs its events.
use Rattle.std.specs.Prelude.{◌≡◌, ℕ, ◌+◌, ◌≤◌, ◌-◌, List, ◌++◌, Bool, ⊤, length, min, take}
use Rattle.seq_base.specs.Setting.{Parameters}
use Rattle.node_core.specs.declared.event.Event.{Event}
use Rattle.node_core.specs.Rows.{Check}
use Rattle.node_core.specs.Runs.{opening_state, state_after}
use Rattle.node_core.specs.State.{NodeValue, State}
use Rattle.node_core.specs.Reported.{Gives}
use Rattle.durable_node.specs.declared.keeper.KeepFault.{KeepFault}
use Rattle.durable_node.specs.declared.keeper.KeepFault.TheVariants as keeps
use Rattle.durable_node.specs.declared.kept.KeptFault.{KeptFault}
use Rattle.durable_node.specs.declared.kept.KeptFault.TheVariants as kepts
use Rattle.durable_node.specs.Check.{header_digest}
use Rattle.durable_node.specs.Header.{HasHeader, HasOwner, IsBadIn, IsOwn, IsTorn, header_of, records_in}
use Rattle.durable_node.specs.Log.{BeginsWith, IsBadAt, IsWholePrefix, LogOf, NoneBad, log_digest}

-- the node, its keeper, the running digest of its log, and whether an earlier turn was refused
pub record Kept (S K : Type 0) : Type 0 where
  pub node : NodeValue S
  pub keeper : K
  pub digest : List ℕ
  pub closed : Bool

-- The log was the owner's own. The node is in the state to which its turns on the logged events lead, and the keeper
-- holds the header and their records, and nothing else. This is the running digest after them.
pub record IsOpened (fits : Check) (gives : Gives) (s : Parameters) (views me height capacity : ℕ) (keys before after digest : List ℕ)
    (now : State) : Type 0 where
  pub events : List Event
  pub end : ℕ
  pub own : IsOwn (header_of s views me height keys) before
  pub prefix : IsWholePrefix (header_digest (header_of s views me height keys)) (records_in before) events end
  pub kept : after ≡ header_of s views me height keys ++ LogOf (header_of s views me height keys) events
  pub moved : digest ≡ log_digest (header_of s views me height keys) events
  pub state : now ≡ state_after fits gives (opening_state s views me capacity) events

-- What a refused start leaves of a log with the header: a prefix of the bytes, including the header. All whole records
-- that follow the header are in it, and those that were durable still are. They may be followed by another record, a
-- torn one, a corrupt one, or nothing.
pub record KeepsRecords (header old new : List ℕ) (durable_size now : ℕ) : Type 0 where
  pub size : ℕ
  pub prefix : new ≡ take size old
  pub whole : (events : List Event) (end : ℕ) → BeginsWith (header_digest header) (records_in old) events end
      → (76 + end ≤ size) × (min (76 + end) durable_size ≤ now)

-- What a refused start leaves. A torn header is still torn, or whole. Another owner's log is unchanged.
pub record IsHeldBack (header old new : List ℕ) (durable_size now : ℕ) : Type 0 where
  pub records : HasHeader header old → KeepsRecords header old new durable_size now
  pub torn : IsTorn header old → new ≡ take (length new) header
  pub other : ¬ IsOwn header old → new ≡ old

-- How often a keeper was opened after a refused start. It may have been opened once more, to write a header.
pub record IsUnopened (header log : List ℕ) (old new : ℕ) : Type 0 where
  pub same : ¬ IsTorn header log → new ≡ old
  pub once : (old ≤ new) × (new ≤ old + 1)

-- why a start is refused
abbrev pub IsRefusal : List ℕ → List ℕ → KeptFault → Type 0
IsRefusal header log kepts.NoHeader = (¬ IsOwn header log) × (¬ HasOwner log)
IsRefusal header log kepts.OtherLog = (¬ IsOwn header log) × HasOwner log
IsRefusal header log (kepts.BadLog at) = IsBadIn header log at
IsRefusal header log kepts.Closed = ⊥
IsRefusal header log kepts.Keep = ⊤
IsRefusal header log kepts.NoMemory = ⊤

-- why the records of an own log were not read, after the digest of its header; memory runs out only where none is corrupt
abbrev pub IsRecordsFault : List ℕ → List ℕ → KeptFault → Type 0
IsRecordsFault digest records (kepts.BadLog at) = (76 ≤ at) × IsBadAt digest records (at - 76)
IsRecordsFault digest records kepts.NoMemory = NoneBad digest records
IsRecordsFault digest records kepts.NoHeader = ⊥
IsRecordsFault digest records kepts.OtherLog = ⊥
IsRecordsFault digest records kepts.Closed = ⊥
IsRecordsFault digest records kepts.Keep = ⊥

-- the keeper failed, or memory ran out
abbrev pub IsDeviceFault : KeptFault → Type 0
IsDeviceFault kepts.NoHeader = ⊥
IsDeviceFault kepts.OtherLog = ⊥
IsDeviceFault (kepts.BadLog at) = ⊥
IsDeviceFault kepts.Closed = ⊥
IsDeviceFault kepts.Keep = ⊤
IsDeviceFault kepts.NoMemory = ⊤

abbrev pub fault_of : KeepFault → KeptFault
fault_of keeps.Failed = kepts.Keep
fault_of keeps.NoMemory = kepts.NoMemory
