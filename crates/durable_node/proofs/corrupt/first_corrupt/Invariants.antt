use Rattle.std.proofs.Common.{length}
use Rattle.durable_node.proofs.Scans.{IsScanned}
use Rattle.durable_node.proofs.corrupt.first_corrupt.Given as goal

abbrev pub invariant-loop-rest : goal.invariant-loop-rest
invariant-loop-rest l = IsScanned l.start l.log l.rest l.digest

abbrev pub decreases-loop-rest : goal.decreases-loop-rest
decreases-loop-rest l = length l.rest
