use Rattle.majority_graph.specs.Graph.{NoneMissingBelow}
use Rattle.majority_graph.proofs.proposal.Proposal.first_missing.Given as goal

abbrev pub invariant-loop-u : goal.invariant-loop-u
invariant-loop-u l = NoneMissingBelow l.self l.u
