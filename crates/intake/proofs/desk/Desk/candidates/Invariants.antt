use Rattle.std.proofs.Common.{◌≡◌, ◌++◌, filter, map}
use Rattle.intake.specs.Desk.{waits}
use Rattle.intake.specs.Arriving.{candidates, is_known, keyed}
use Rattle.intake.proofs.desk.Desk.candidates.Given as goal

abbrev pub invariant-loop-tx : goal.invariant-loop-tx
invariant-loop-tx l = l.list.items ++ filter is_known (map (keyed l.k) (filter waits l.tx-iterator)) ≡ candidates l.self
