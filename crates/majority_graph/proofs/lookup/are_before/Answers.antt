use Rattle.std.proofs.Common.{arith}
use Rattle.majority_graph.proofs.SortedLookup.{all_before}
use Rattle.majority_graph.proofs.lookup.are_before.Goals as goal

pub returns-then-at-entries : goal.returns-then-at-entries
returns-then-at-entries c = λ is.
    all_before c.args.entries.now c.args.tx.now c.args.at _ c.requires (omega arith) c.if-at-entries.true (rw (c.is_lt.ensures, c.cmp.ensures) at is)
