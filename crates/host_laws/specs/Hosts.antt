-- A host: the log of one replica, the replica while it is open, and what it has done since its first opening.
use Rattle.std.specs.Prelude.{ℕ, ◌+◌, List, [], ◌∷◌, ◌++◌, map, Option, None}
use Rattle.seq_base.specs.declared.tx.Tx.{Tx}
use Rattle.hotstuff_core.specs.Rules.{view_at}
use Rattle.node_core.specs.declared.event.Event.{Event}
use Rattle.node_core.specs.declared.entry.Entry.{Entry}
use Rattle.node_core.specs.State.{Known}
use Rattle.run_record.specs.declared.record.Head.{Head}
use Rattle.durable_node.specs.Log.{LogOf}
use Rattle.replica_box.specs.Seats.{Seat}
use Rattle.host_laws.specs.Roles.{Role}

-- the file of the log, while the replica is open
pub data File : Type 0 where
  -- as the opening found it, which uses this many of its bytes
  Found : (log : List ℕ) (used : ℕ) → File
  -- what was written, of which this many bytes are durable
  Written : (bytes : List ℕ) (durable : ℕ) → File

pub data Phase : Type 0 where
  -- no replica is open, and these bytes of the log are durable
  Closed : (log : List ℕ) → Phase
  Running : (seat : Seat) (file : File) → Phase

-- a statement, and the leaf of the key that sealed it
pub record Signed : Type 0 where
  pub leaf : ℕ
  pub statement : List ℕ

pub record Host : Type 0 where
  pub phase : Phase
  -- the role in which the replica was opened last
  pub role : Option Role
  -- all turns on events with a record, each once
  pub journal : List Entry
  -- all that was sealed, also by the turns that an opening makes again
  pub seals : List Signed
  -- the views and the final batches of the replica as it was last open
  pub head : Head
  pub batches : List (List Tx)

-- a host before the first opening: its log is empty
abbrev pub new_host : Host
new_host = record { phase = Closed []; role = None; journal = []; seals = []; head = record { view = 0; commit = 0 }; batches = [] }

-- the events of these turns
abbrev pub events_in : List Entry → List Event
events_in journal = map (λ t. t.event) journal

-- the log with this header and the records of these events
abbrev pub log_of : List ℕ → List Event → List ℕ
log_of header events = header ++ LogOf header events

-- statements, each under its leaf, from this leaf on
abbrev pub signed_from : ℕ → List (List ℕ) → List Signed
signed_from leaf [] = []
signed_from leaf (statement ∷ statements) = record { leaf = leaf; statement = statement } ∷ signed_from (leaf + 1) statements

-- the views of a node
abbrev pub head_at : Known → Head
head_at known = record { view = known.view; commit = view_at known.store known.safety.committed }
