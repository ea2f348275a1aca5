use Rattle.std.proofs.Common.{◌+◌, ◌≤◌, length, sym, ◌∙◌, arith}
use Rattle.run_verdict.specs.Parts.{order_part}
use Rattle.run_verdict.specs.Forged.{forged_from}
use Rattle.run_verdict.proofs.PartSearch.{forged_stop, forged_go, forged_skip, forged_past}
use Rattle.run_verdict.proofs.forgery.Search.in_orders.Goals as goal
use Rattle.run_verdict.proofs.forgery.Search.in_orders.Goals.{in-Some+else-is_some, in_default}

pub returns-then-is_some : goal.returns-then-is_some
returns-then-is_some g c =
    let check = g.C.Checker.meaning c.args.self.now.checker.now in
    let run = c.args.self.now.run.now in
    forged_stop check run c.args.place.receiver c.args.place.entry order_part c.args.block.now.orders c.loop-k.k (c.args.first + c.loop-k.k)
    (forged_from check run c.args.place.receiver c.args.place.entry c.args.first _) c.loop-k.invariant
    c.in-Some.order c.in_order-forged.result (sym c.order.ensures ∙ c.in-Some.is) c.in_order-forged.ensures (sym c.if-is_some.ensures)

pub loop-k-preserved : goal.loop-k-preserved
loop-k-preserved g c =
    let check = g.C.Checker.meaning c.args.self.now.checker.now in
    let run = c.args.self.now.run.now in
    elim c.match-order.branch [
      | in-Some+else-is_some w ↦
          forged_go check run c.args.place.receiver c.args.place.entry order_part c.args.block.now.orders c.loop-k.k (c.args.first + c.loop-k.k)
          (forged_from check run c.args.place.receiver c.args.place.entry c.args.first _) c.loop-k.invariant
          (c.args.first + (c.loop-k.k + 1)) w.in-Some.order w.in_order-forged.result
          (sym c.order.ensures ∙ w.in-Some.is) w.in_order-forged.ensures (sym w.if-is_some.ensures) (omega arith)
      | in_default w ↦
          forged_skip check run c.args.place.receiver c.args.place.entry order_part c.args.block.now.orders c.loop-k.k (c.args.first + c.loop-k.k)
          (forged_from check run c.args.place.receiver c.args.place.entry c.args.first _) c.loop-k.invariant
          (c.args.first + (c.loop-k.k + 1)) (sym c.order.ensures ∙ w.in_default.is)
    ]

pub returns : goal.returns
returns g c =
    let check = g.C.Checker.meaning c.args.self.now.checker.now in
    let run = c.args.self.now.run.now in
    let past : length c.args.block.now.orders ≤ c.loop-k.k = rw c.len-k-end.ensures at c.loop-k-test.false in
    forged_past check run c.args.place.receiver c.args.place.entry order_part c.args.block.now.orders c.loop-k.k (c.args.first + c.loop-k.k)
    (forged_from check run c.args.place.receiver c.args.place.entry c.args.first _) c.loop-k.invariant past
