use Rattle.std.proofs.Common.{◌≡◌, [], false, length}
use Rattle.std.specs.Prelude.{All}
use Rattle.tests_keep.proofs.runs.failing.Given as goal

abbrev pub invariant-loop-replica : goal.invariant-loop-replica
invariant-loop-replica l = record {
  count : length l.keepers.items ≡ l.replica;
  new : All (λ k. (k.bytes ≡ []) × (k.begun ≡ false) × (k.openings ≡ 0)) l.keepers.items;
}
