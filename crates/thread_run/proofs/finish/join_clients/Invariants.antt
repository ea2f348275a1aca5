use Rattle.std.proofs.Common.{◌≡◌, length, take}
use Rattle.std.specs.Prelude.{remove}
use Rattle.thread_run.specs.Finishing.{HasJoined, column, rows_of}
use Rattle.thread_run.proofs.ListUpdates.{changed}
use Rattle.thread_run.proofs.finish.join_clients.Given as goal

abbrev pub invariant-loop-k : goal.invariant-loop-k
invariant-loop-k l = record {
  joined : HasJoined (column 0 (take l.k (rows_of l.fn.clients.items))) l.fn.pass l.pass;
  rest : rows_of l.clients.items ≡ changed (λ row. remove row 0) l.k (rows_of l.fn.clients.items);
  len : length l.clients.items ≡ length l.fn.clients.items;
  count : l.count ≡ length l.fn.clients.items;
}
