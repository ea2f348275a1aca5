use Rattle.std.proofs.Common.{◌≡◌, [], false, length}
use Rattle.std.specs.Prelude.{All}
use Rattle.tests_keep.proofs.runs.steady.Given as goal

abbrev pub invariant-loop-replica : goal.invariant-loop-replica
invariant-loop-replica l = record {
  count : length l.keepers.items ≡ l._replica;
  new : All (λ k. k ≡ record { bytes = []; durable_size = 0; openings = 0; begun = false }) l.keepers.items;
}
