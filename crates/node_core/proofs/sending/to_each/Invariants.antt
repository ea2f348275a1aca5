use Rattle.std.proofs.Common.{◌≡◌}
use Rattle.std.specs.List.{range_with_len}
use Rattle.node_core.specs.Reported.{to_each}
use Rattle.node_core.proofs.sending.to_each.Given as goal

abbrev pub invariant-loop-to : goal.invariant-loop-to
invariant-loop-to l = l.sends.items ≡ to_each (range_with_len 0 l.to) l.packet
