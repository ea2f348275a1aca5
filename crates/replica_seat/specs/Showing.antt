-- What the record of a run shows of a replica.
use Rattle.std.specs.Prelude.{List}
use Rattle.chain_state.specs.Standings.{finals}
use Rattle.hotstuff_core.specs.Rules.{view_at}
use Rattle.node_core.specs.Rows.{chain_at}
use Rattle.run_record.specs.declared.record.Head.{Head}
use Rattle.run_record.specs.declared.record.Journal.{Journal}
use Rattle.seq_base.specs.declared.tx.Tx.{Tx}
use Rattle.replica_seat.specs.Seats.{Replica}

-- where a replica stands
abbrev pub head_of : Replica → Head
head_of r = record { view = r.state.known.view; commit = view_at r.state.known.store r.state.known.safety.committed }

-- the batches that are final for it
abbrev pub batches_of : Replica → List (List Tx)
batches_of r = finals (chain_at r.state.known r.state.known.safety.committed)

-- its journal: every event with the output of its turn
abbrev pub journal_of : Replica → Journal
journal_of r = record { entries = r.journal }
