use Rattle.std.proofs.Common.{◌≡◌, length, take}
use Rattle.chain_state.specs.Proposals.{joined}
use Rattle.chain_state.specs.Standings.{at_most_usize}
use Rattle.chain_state.proofs.state.entries.Given as goal

abbrev pub invariant-loop-batch : goal.invariant-loop-batch
invariant-loop-batch l = l.count ≡ at_most_usize (length (joined (take l.batch-index l.batch-items)))
