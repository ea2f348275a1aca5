use Rattle.std.proofs.Common.{◌≡◌, ◌+◌, ◌<◌, length, map, drop}
use Rattle.chain_state.specs.Shown.{shown}
use Rattle.chain_state.specs.Standings.{at_most_usize, closed_batches}
use Rattle.chain_state.proofs.state.ChainState.batch_count.Given as goal

abbrev pub invariant-loop-standing : goal.invariant-loop-standing
invariant-loop-standing l = record {
  same : at_most_usize (l.count + length (closed_batches (map shown (drop l.standing-index l.standing-items))))
      ≡ at_most_usize (length (closed_batches (map shown l.standing-items)));
  small : l.count < 18446744073709551616;
}
