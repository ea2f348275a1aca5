-- What a prefix of a journal, a list of entries, shows of what its replica knows.
use Rattle.std.specs.Prelude.{List, []}
use Rattle.std.specs.List.{flat_map}
use Rattle.seq_base.specs.declared.tx.Tx.{Tx}
use Rattle.node_core.specs.declared.event.Event.{Event}
use Rattle.node_core.specs.declared.event.Event.TheVariants.{Arrived, Deliver, Tick}
use Rattle.node_core.specs.declared.entry.Entry.{Entry}

-- the transactions that an event delivers
abbrev pub arrived_by : Event → List Tx
arrived_by (Arrived list) = list
arrived_by (Deliver from bytes) = []
arrived_by (Tick floor) = []

-- all transactions that arrived, in their order
abbrev pub arrived_in : List Entry → List Tx
arrived_in prefix = flat_map (λ e. arrived_by e.event) prefix
