use Rattle.std.proofs.Common.{◌≡◌, length, take}
use Rattle.std.specs.Prelude.{remove}
use Rattle.thread_run.specs.Finishing.{column}
use Rattle.thread_run.specs.Starting.{rows_in}
use Rattle.thread_run.proofs.ListUpdates.{changed}
use Rattle.thread_run.proofs.start.first_of_each.Given as goal

abbrev pub invariant-loop-k : goal.invariant-loop-k
invariant-loop-k l = record {
  first : l.first.items ≡ column 0 (take l.k (rows_in l.fn.passes.items));
  rest : rows_in l.passes.items ≡ changed (λ row. remove row 0) l.k (rows_in l.fn.passes.items);
  len : length l.passes.items ≡ length l.fn.passes.items;
  count : l.count ≡ length l.fn.passes.items;
}
