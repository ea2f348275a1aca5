use Rattle.std.proofs.Common.{◌≡◌, length, map}
use Rattle.chain_state.specs.Places.{put_all, AreWithin}
use Rattle.chain_state.specs.Shown.{shown}
use Rattle.chain_state.specs.Stepping.{placed}
use Rattle.chain_state.proofs.stepping.put_back.Given as goal

abbrev pub invariant-loop-place : goal.invariant-loop-place
invariant-loop-place l = record {
  within : AreWithin (map placed l.stepped.items) (map shown l.proposals);
  same : put_all (map placed l.stepped.items) (map shown l.proposals) ≡ put_all (map placed l.initial.stepped.items) (map shown l.initial.proposals);
}

abbrev pub decreases-loop-place : goal.decreases-loop-place
decreases-loop-place l = length l.stepped.items
