use Rattle.std.proofs.Common.{◌≡◌, ◌-◌}
use Rattle.wire_view.specs.Reading.{rest_of, orders_at}
use Rattle.wire_view.proofs.orders.skip_orders.Given as goal

abbrev pub invariant-loop : goal.invariant-loop
invariant-loop l = rest_of (orders_at (l.count - l.counter) l.least l.rest) ≡ rest_of (orders_at l.count 0 l.bytes)
