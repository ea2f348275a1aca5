use Rattle.std.proofs.Common.{◌≡◌, take}
use Rattle.std.specs.Prelude.{All}
use Rattle.seq_base.specs.Limits.{IsShort}
use Rattle.wire_view.proofs.orders.OrdersView.own.Given as goal

abbrev pub invariant-loop-k : goal.invariant-loop-k
invariant-loop-k l = record { items : l.orders.items ≡ take l.k l.self; short : All (λ sealed. IsShort sealed.order) l.orders.items }
