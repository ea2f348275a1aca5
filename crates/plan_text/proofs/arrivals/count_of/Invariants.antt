use Rattle.std.proofs.Common.{◌≡◌, ◌^◌, ◌-◌, min, length, take}
use Rattle.plan_text.specs.Arrivals.{received}
use Rattle.plan_text.proofs.arrivals.count_of.Given as goal

abbrev pub invariant-loop-arrival : goal.invariant-loop-arrival
invariant-loop-arrival l = l.count ≡ min (length (received l.replica (take l.arrival-index l.arrivals))) (2 ^ 64 - 1)
