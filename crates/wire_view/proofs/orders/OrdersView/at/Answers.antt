use Rattle.std.proofs.Common.{◌≡◌, ◌<◌, Err, length, sym, ◌∙◌, arith}
use Rattle.wire_view.specs.Reading.{tagged_at}
use Rattle.wire_view.proofs.Steps.{opens, next_is, next_succeeds, not_both, ok_from}
use Rattle.wire_view.proofs.orders.OrdersView.at.Goals as goal

pub loop-init : goal.loop-init
loop-init c = opens tagged_at
    (λ s. s.order.replica) c.self.inside.count c.self.inside.bytes.now c.args.self.now c.self.invariant.2 c.self.invariant.1 c.self.view_is

pub unreachable-requires : goal.unreachable-requires
unreachable-requires c =
    let within : c.loop.counter < length c.args.self.now = omega (arith, c.loop-test.true, c.requires) in
    let h = next_succeeds tagged_at (λ s. s.order.replica) c.args.self.now c.loop.counter c.loop.least c.loop.rest.now within c.loop.invariant in
    let e : tagged_at c.loop.least c.loop.rest.now ≡ Err c.in_default.field-0 = c.in_default.ensures in
    absurd (not_both h.0 _ (sym h.1 ∙ e))

pub loop-preserved : goal.loop-preserved
loop-preserved c =
    let within : c.loop.counter < length c.args.self.now = omega (arith, c.loop-test.true, c.requires) in
    rw c.replica-least.ensures.value (next_is tagged_at (λ s. s.order.replica) c.args.self.now c.loop.counter c.loop.least c.loop.rest.now
    c.in-Ok.order c.in-Ok.after.now within c.in-Ok.ensures c.loop.invariant).1

pub unreachable-requires-in_default-read_tagged : goal.unreachable-requires-in_default-read_tagged
unreachable-requires-in_default-read_tagged c =
    let within : c.loop.counter < length c.args.self.now = omega (arith, c.loop-test.false, c.loop.auto.counter-end, c.requires) in
    let h = next_succeeds tagged_at (λ s. s.order.replica) c.args.self.now c.loop.counter c.loop.least c.loop.rest.now within c.loop.invariant in
    let e : tagged_at c.loop.least c.loop.rest.now ≡ Err c.in_default-read_tagged.field-0 = c.in_default-read_tagged.ensures in
    absurd (not_both h.0 _ (sym h.1 ∙ e))

pub returns : goal.returns
returns c =
    let at : c.loop.counter ≡ c.args.k = omega (arith, c.loop-test.false, c.loop.auto.counter-end) in
    let within : c.loop.counter < length c.args.self.now = omega (arith, at, c.requires) in
    rw (← at)
    ((next_is tagged_at (λ s. s.order.replica) c.args.self.now c.loop.counter c.loop.least c.loop.rest.now c.in-Ok-read_tagged.order
    c.in-Ok-read_tagged.field-0-1.now within c.in-Ok-read_tagged.ensures c.loop.invariant).0)

pub read_tagged-requires : goal.read_tagged-requires
read_tagged-requires c =
    let within : c.loop.counter < length c.args.self.now = omega (arith, c.loop-test.true, c.requires) in
    let h = next_succeeds tagged_at (λ s. s.order.replica) c.args.self.now c.loop.counter c.loop.least c.loop.rest.now within c.loop.invariant in
    λ checked. ok_from h.0 _ h.1

pub read_tagged-requires-2 : goal.read_tagged-requires-2
read_tagged-requires-2 c =
    let within : c.loop.counter < length c.args.self.now = omega (arith, c.loop-test.false, c.loop.auto.counter-end, c.requires) in
    let h = next_succeeds tagged_at (λ s. s.order.replica) c.args.self.now c.loop.counter c.loop.least c.loop.rest.now within c.loop.invariant in
    λ checked. ok_from h.0 _ h.1
