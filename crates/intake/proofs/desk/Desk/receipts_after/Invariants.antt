use Rattle.std.proofs.Common.{◌≡◌, ◌++◌, ◌-◌, filter, map, take, length, nat_lt}
use Rattle.intake.specs.Receiving.{receipts_after, receipt_of}
use Rattle.intake.specs.Desk.{own_stamp}
use Rattle.intake.proofs.desk.Desk.receipts_after.Given as goal

abbrev pub invariant-loop-tx : goal.invariant-loop-tx
invariant-loop-tx l =
    l.list.items ++ take (l.most - length l.list.items) (map (receipt_of l.me) (filter (λ e. nat_lt l.stamp (own_stamp l.me e)) l.tx-iterator))
    ≡ receipts_after l.stamp l.most l.self
