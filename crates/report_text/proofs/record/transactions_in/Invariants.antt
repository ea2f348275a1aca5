use Rattle.std.proofs.Common.{◌≡◌, ◌≤◌, ◌*◌, ◌^◌, length, take, sum_by}
use Rattle.report_text.proofs.record.transactions_in.Given as goal

abbrev pub invariant-loop-batch : goal.invariant-loop-batch
invariant-loop-batch l = record {
  sum : l.count ≡ sum_by length (take l.batch-index l.batch-items);
  small : l.count ≤ l.batch-index * 2 ^ 63;
}
