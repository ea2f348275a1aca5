use Rattle.majority_graph.specs.Graph.{NoneMissingWithin}
use Rattle.majority_graph.proofs.proposal.Proposal.first_missing_from.Given as goal

abbrev pub invariant-loop-v : goal.invariant-loop-v
invariant-loop-v l = NoneMissingWithin l.self l.u l.v
