use Rattle.std.proofs.Common.{map, take}
use Rattle.intake.specs.Naming.{AreCounted}
use Rattle.intake.proofs.naming.counts_of.Given as goal

abbrev pub invariant-loop-list : goal.invariant-loop-list
invariant-loop-list l = AreCounted (map (λ list. list.txs.items) (take l.list-index l.lists)) l.counts.entries
