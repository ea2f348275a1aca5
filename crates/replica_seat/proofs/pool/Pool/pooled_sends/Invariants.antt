use Rattle.std.proofs.Common.{◌≡◌, ◌++◌, length}
use Rattle.std.specs.Vec.Iter.{into_iter_items, into_iter_len}
use Rattle.replica_seat.proofs.pool.Pool.pooled_sends.Given as goal

abbrev pub invariant-loop-send : goal.invariant-loop-send
invariant-loop-send l = record {
  so_far : l.fn.sends.items ≡ l.pooled.items ++ into_iter_items l.send-iterator;
  left : into_iter_len l.send-iterator ≡ length (into_iter_items l.send-iterator);
}
