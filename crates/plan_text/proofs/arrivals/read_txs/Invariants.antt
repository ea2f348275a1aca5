use Rattle.std.proofs.Common.{◌≡◌, [], List, map, drop}
use Rattle.toml.specs.View.{view}
use Rattle.plan_text.specs.declared.plan.Arrival.{Arrival}
use Rattle.plan_text.specs.Arrivals.{received, tx_after, HasReceived, HasReceivedMore}
use Rattle.plan_text.specs.Reads.{read_each}
use Rattle.plan_text.specs.Sections.{section_of}
use Rattle.plan_text.proofs.arrivals.read_txs.Given as goal

-- after any arrivals whose receipts the set had
abbrev pub invariant-loop-value : goal.invariant-loop-value
invariant-loop-value l = (earlier : List Arrival) → HasReceived l.initial.met earlier
    → (HasReceivedMore l.met earlier l.replica l.txs.items)
    × (read_each (tx_after l.clients (received l.replica earlier) (section_of l.fields)) [] (map view l.values)
    ≡ read_each (tx_after l.clients (received l.replica earlier) (section_of l.fields)) l.txs.items (map view (drop l.value-index l.values)))
