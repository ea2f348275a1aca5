use Rattle.std.proofs.Common.{length}
use Rattle.durable_node.proofs.Logs.{IsReadTo}
use Rattle.durable_node.proofs.reading.read_records.Given as goal

abbrev pub invariant-loop-alloc : goal.invariant-loop-alloc
invariant-loop-alloc l = IsReadTo l.start l.log l.events.items l.rest l.digest

abbrev pub decreases-loop-alloc : goal.decreases-loop-alloc
decreases-loop-alloc l = length l.rest
