use Rattle.std.proofs.Common.{◌≡◌, ◌-◌, Ok, [], length, drop}
use Rattle.wire_view.specs.Reading.{orders_at}
use Rattle.wire_view.proofs.orders.OrdersView.at.Given as goal

abbrev pub invariant-loop : goal.invariant-loop
invariant-loop l = orders_at (length l.self - l.counter) l.least l.rest ≡ Ok (drop l.counter l.self, [])
