use Rattle.std.proofs.Common.{◌≡◌, ◌++◌, filter}
use Rattle.std.specs.Map.{keys_of}
use Rattle.intake.specs.Desk.{arrived_list}
use Rattle.intake.proofs.desk.Desk.arrived_list.Given as goal

abbrev pub invariant-loop-tx : goal.invariant-loop-tx
invariant-loop-tx l = l.txs.items ++ keys_of (filter (λ e. e.1.arrived) l.tx-iterator) ≡ arrived_list l.self
