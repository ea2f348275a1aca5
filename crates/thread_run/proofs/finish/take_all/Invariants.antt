use Rattle.std.proofs.Common.{◌≡◌, ◌++◌, map, length}
use Rattle.std.specs.Vec.Iter.{into_iter_items, into_iter_len}
use Rattle.thread_run.proofs.finish.take_all.Given as goal

abbrev pub invariant-loop-worker : goal.invariant-loop-worker
invariant-loop-worker g l = record {
  seats : l.apart.seats.items ++ map (λ w. w.seat) (into_iter_items l.worker-iterator) ≡ l.fn.apart.seats.items ++ map (λ w. w.seat) l.fn.workers.items;
  own : l.apart.own.items ++ map (λ w. w.log) (into_iter_items l.worker-iterator) ≡ l.fn.apart.own.items ++ map (λ w. w.log) l.fn.workers.items;
  left : into_iter_len l.worker-iterator ≡ length (into_iter_items l.worker-iterator);
}
