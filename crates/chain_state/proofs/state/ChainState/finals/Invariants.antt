use Rattle.std.proofs.Common.{◌≡◌, ◌++◌, map, drop}
use Rattle.chain_state.specs.Shown.{shown}
use Rattle.chain_state.specs.Standings.{closed_batches}
use Rattle.chain_state.proofs.state.ChainState.finals.Given as goal

abbrev pub invariant-loop-standing : goal.invariant-loop-standing
invariant-loop-standing l = l.finals.items ++ closed_batches (map shown (drop l.standing-index l.standing-items)) ≡ closed_batches (map shown l.standing-items)
