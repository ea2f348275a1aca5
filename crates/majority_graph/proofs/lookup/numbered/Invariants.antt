use Rattle.majority_graph.specs.Entries.{AreNumbered}
use Rattle.majority_graph.proofs.lookup.numbered.Given as goal

abbrev pub invariant-loop-place : goal.invariant-loop-place
invariant-loop-place l = AreNumbered l.list l.place l.entries.items
