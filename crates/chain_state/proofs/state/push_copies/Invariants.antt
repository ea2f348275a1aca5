use Rattle.std.proofs.Common.{◌≡◌, ◌++◌, take}
use Rattle.chain_state.proofs.state.push_copies.Given as goal

abbrev pub invariant-loop-batch : goal.invariant-loop-batch
invariant-loop-batch l = l.finals.items ≡ l.initial.finals.items ++ take l.batch-index l.batch-items
