use Rattle.std.proofs.Common.{◌≡◌, take, drop, ◌++◌}
use Rattle.session_rules.specs.Cuts.{cut_at}
use Rattle.session_rules.proofs.cut.count_batches.Given as goal

abbrev pub invariant-loop-batch : goal.invariant-loop-batch
invariant-loop-batch l = record {
  count : l.count ≡ l.batch-index;
  rest : cut_at l.marker l.batches ≡ take l.batch-index l.batches ++ cut_at l.marker (drop l.batch-index l.batches);
}
