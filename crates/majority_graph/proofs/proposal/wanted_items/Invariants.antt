use Rattle.std.proofs.Common.{◌≡◌, take}
use Rattle.majority_graph.specs.Graph.{wanted_of}
use Rattle.majority_graph.proofs.proposal.wanted_items.Given as goal

abbrev pub invariant-loop-at : goal.invariant-loop-at
invariant-loop-at g l = l.kept.items ≡ wanted_of (take l.at l.wanted) (take l.at l.items)
