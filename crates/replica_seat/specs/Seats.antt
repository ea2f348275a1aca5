-- One replica of a run.
use Rattle.std.specs.Prelude.{ℕ, List, Bool, All}
use Rattle.seq_base.specs.declared.tx.Tx.{Tx}
use Rattle.fault_script.specs.Passing.{Link}
use Rattle.chain_state.specs.Standings.{finals}
use Rattle.run_record.specs.Done.{hold_all}
use Rattle.node_core.specs.Readable.{IsReadable}
use Rattle.node_core.specs.Rows.{chain_at}
use Rattle.node_core.specs.State.{Known, NodeValue, State}
use Rattle.node_core.specs.Reported.{Gives}
use Rattle.node_core.specs.declared.entry.Entry.{Entry}
use Rattle.replica_seat.specs.Feed.{Fed}

-- A replica: its number and the seals that its sealer makes, the state of its node, its arrivals, its journal, and its
-- links to each replica.
pub record Replica : Type 0 where
  pub number : ℕ
  pub gives : Gives
  pub state : State
  pub feed : Fed
  pub journal : List Entry
  pub links : List Link

-- the final batches of a node contain all that is due
unfoldable pub holds_due : List Tx → Known → Bool
holds_due due known = hold_all (finals (chain_at known known.safety.committed)) due

-- a replica with its node as a value of the program
pub record Seated (S : Type 0) : Type 0 where
  pub node : NodeValue S
  pub feed : Fed
  pub journal : List Entry
  pub links : List Link

-- what its sealers mean
pub record Meaning (S : Type 0) : Type 0 where
  pub number : S → ℕ
  pub gives : S → Gives

abbrev pub meaning : {S : Type 0} → (S → ℕ) → (S → Gives) → Meaning S
meaning number gives = record { number = number; gives = gives }

-- a seat as a replica of the definition
abbrev pub replica_of : {S : Type 0} → Meaning S → Seated S → Replica
replica_of m seat = record {
  number = m.number seat.node.sealer;
  gives = m.gives seat.node.sealer;
  state = seat.node.state;
  feed = seat.feed;
  journal = seat.journal;
  links = seat.links;
}

-- What was delivered to a node, whatever bytes, reads as something that can be written.
abbrev pub AreReadable : List Entry → Type 0
AreReadable journal = All (λ e. IsReadable e.event) journal
