use Rattle.std.proofs.Common.{◌≡◌, ◌^◌, ◌-◌, min, sum_by, take}
use Rattle.plan_text.proofs.arrivals.sent_by.Given as goal

abbrev pub invariant-loop-client : goal.invariant-loop-client
invariant-loop-client l = l.count ≡ min (sum_by (λ client. client.count) (take l.client-index l.clients)) (2 ^ 64 - 1)
