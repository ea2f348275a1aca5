use Rattle.std.proofs.Common.{◌≡◌, ◌++◌, length}
use Rattle.std.specs.Vec.Iter.{into_iter_items, into_iter_len}
use Rattle.replica_seat.specs.Acting.{enveloped}
use Rattle.replica_seat.proofs.seat.put_all.Given as goal

abbrev pub invariant-loop-bytes : goal.invariant-loop-bytes
invariant-loop-bytes l = record {
  so_far : l.queue.items ++ enveloped l.from l.to (into_iter_items l.bytes-iterator) ≡ l.initial.queue.items ++ enveloped l.from l.to l.fn.given.items;
  left : into_iter_len l.bytes-iterator ≡ length (into_iter_items l.bytes-iterator);
}
