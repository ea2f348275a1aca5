use Rattle.std.proofs.Common.{◌≡◌, ◌≤◌, length, take}
use Rattle.std.specs.Prelude.{sum_by}
use Rattle.seq_base.specs.declared.tx.Tx.{Tx}
use Rattle.seq_base.specs.Lists.{listed}
use Rattle.tx_class.specs.Sorted.{times}
use Rattle.tx_class.proofs.sorted.joined.Given as goal

abbrev pub invariant-loop-list : goal.invariant-loop-list
invariant-loop-list l = ((t : Tx) → times t l.all.items ≡ listed (take l.list-index l.lists) t)
    × (length l.all.items ≤ sum_by length (take l.list-index l.lists))
