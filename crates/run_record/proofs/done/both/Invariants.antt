use Rattle.std.proofs.Common.{◌≡◌, take}
use Rattle.std.specs.List.{filter}
use Rattle.seq_base.specs.Lists.{holds}
use Rattle.run_record.proofs.done.both.Given as goal

abbrev pub invariant-loop-tx : goal.invariant-loop-tx
invariant-loop-tx l = l.found.items ≡ filter (λ tx. holds tx l.second) (take l.tx-index l.first)
