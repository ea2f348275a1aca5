use Rattle.std.proofs.Common.{◌≡◌, ◌+◌, map, drop}
use Rattle.run_verdict.specs.Forged.{forged_from}
use Rattle.run_verdict.specs.Parts.{order_part}
use Rattle.run_verdict.proofs.forgery.Search.in_orders.Given as goal

abbrev pub invariant-loop-k : goal.invariant-loop-k
invariant-loop-k g l =
    let search = forged_from (g.C.Checker.meaning l.self.checker.now) l.self.run.now l.place.receiver l.place.entry in
    search (l.first + l.k) (map order_part (drop l.k l.block.orders)) ≡ search l.first (map order_part l.block.orders)
