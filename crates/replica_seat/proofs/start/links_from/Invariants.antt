use Rattle.std.proofs.Common.{◌≡◌, map}
use Rattle.std.specs.List.{range_with_len}
use Rattle.fault_script.specs.Passing.{opening}
use Rattle.replica_seat.proofs.start.links_from.Given as goal

abbrev pub invariant-loop-to : goal.invariant-loop-to
invariant-loop-to l = l.links.items ≡ map (opening l.plan.links l.from) (range_with_len 0 l.to)
