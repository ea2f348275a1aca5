use Rattle.std.proofs.lemmas.Result.{err_from_is_err_and}
use Rattle.wire_view.specs.Reading.{rest_of, tagged_at, orders_at}
use Rattle.wire_view.proofs.Steps.{rest_goes_on, rest_fails, rest_ends}
use Rattle.wire_view.proofs.orders.skip_orders.Goals as goal

pub returns-in_err-order : goal.returns-in_err-order
returns-in_err-order c =
    let p = err_from_is_err_and c.from_residual.result c.from_residual.ensures.1 in
    let h = c.in_err-order.ensures in
    rw (p.1, p.2)
    (rest_fails tagged_at (λ s. s.order.replica) c.args.count c.loop.counter c.loop.least c.loop.rest.now c.in_err-order.field-0.0
    (rest_of (orders_at c.args.count 0 c.args.bytes.now)) c.loop-test.true h c.loop.invariant)

pub loop-preserved : goal.loop-preserved
loop-preserved c =
    rw c.replica-least.ensures.value
    (rest_goes_on tagged_at (λ s. s.order.replica) c.args.count c.loop.counter c.loop.least c.loop.rest.now c.in_ok-order.order
    c.in_ok-order.after.now (rest_of (orders_at c.args.count 0 c.args.bytes.now)) c.loop-test.true c.in_ok-order.ensures c.loop.invariant)

pub returns : goal.returns
returns c = rest_ends tagged_at (λ s. s.order.replica) c.args.count c.loop.counter c.loop.least c.loop.rest.now
    (rest_of (orders_at c.args.count 0 c.args.bytes.now)) c.loop-test.false c.loop.invariant
