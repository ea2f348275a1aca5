use Rattle.std.proofs.Common.{◌-◌, length}
use Rattle.majority_graph.specs.Entries.{AreBefore}
use Rattle.majority_graph.proofs.lookup.count_before.Given as goal

abbrev pub invariant-loop-at : goal.invariant-loop-at
invariant-loop-at l = AreBefore l.entries l.tx l.at

abbrev pub decreases-loop-at : goal.decreases-loop-at
decreases-loop-at l = length l.entries - l.at
