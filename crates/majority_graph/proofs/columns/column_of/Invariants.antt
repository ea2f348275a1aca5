use Rattle.std.proofs.Common.{◌≡◌, take}
use Rattle.majority_graph.specs.Ranks.{column_of}
use Rattle.majority_graph.proofs.columns.column_of.Given as goal

abbrev pub invariant-loop-one : goal.invariant-loop-one
invariant-loop-one l = l.column.items ≡ column_of (take l.one-index l.ranked) l.list
