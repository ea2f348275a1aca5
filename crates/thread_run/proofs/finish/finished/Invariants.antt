use Rattle.std.proofs.Common.{◌≡◌, ◌+◌, ◌++◌, List, length}
use Rattle.seq_base.specs.declared.tx.Tx.{Tx}
use Rattle.thread_run.specs.Finishing.{AreFinished, CanFinish, rows_of}
use Rattle.thread_run.proofs.finish.finished.Given as goal

abbrev pub invariant-left : goal.invariant-left
invariant-left l = record {
  can : CanFinish l.logs.items l.drivers.items l.own.items (rows_of l.clients.items);
  done : (rest : List (List Tx)) → AreFinished l.drivers.items l.own.items (rows_of l.clients.items) rest
      → AreFinished l.fn.drivers.items l.fn.own.items (rows_of l.fn.clients.items) (l.lists.items ++ rest);
  count : length l.lists.items + length l.logs.items ≡ length l.fn.logs.items;
}

abbrev pub decreases-left : goal.decreases-left
decreases-left l = length l.logs.items
