use Rattle.std.proofs.Common.{◌≡◌, slice_get, map, drop}
use Rattle.chain_state.specs.Shown.{shown}
use Rattle.chain_state.specs.Standings.{closed_batches}
use Rattle.chain_state.proofs.state.ChainState.batch.Given as goal

abbrev pub invariant-loop-standing : goal.invariant-loop-standing
invariant-loop-standing l = slice_get (closed_batches (map shown (drop l.standing-index l.standing-items))) l.left
    ≡ slice_get (closed_batches (map shown l.standing-items)) l.at
