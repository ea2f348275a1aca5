use Rattle.majority_graph.proofs.SortedLookup.{entries_sorted}
use Rattle.majority_graph.proofs.lookup.entries_of.Goals as goal

pub returns : goal.returns
returns c = entries_sorted c.args.list.now _ _ c.in_ok-entries.ensures c.in_ok-sort.ensures.permutation c.in_ok-sort.ensures.sorted
