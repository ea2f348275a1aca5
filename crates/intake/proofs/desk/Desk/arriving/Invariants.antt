use Rattle.std.proofs.Common.{◌≡◌, ◌++◌, filter}
use Rattle.std.specs.Map.{keys_of}
use Rattle.intake.specs.Desk.{waits}
use Rattle.intake.specs.Arriving.{arriving, comes}
use Rattle.intake.proofs.desk.Desk.arriving.Given as goal

abbrev pub invariant-loop-tx : goal.invariant-loop-tx
invariant-loop-tx l =
    l.txs.items ++ keys_of (filter (comes l.k l.f l.bound l.extra) (filter waits l.tx-iterator)) ≡ arriving l.bound l.extra l.self
