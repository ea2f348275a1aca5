use Rattle.std.proofs.Common.{◌≡◌, map, take, slice_index_or, []}
use Rattle.chain_state.specs.Shown.{shown}
use Rattle.chain_state.specs.Standings.{next_stage}
use Rattle.chain_state.specs.Standings.Stage.{Closed}
use Rattle.chain_state.specs.Stepping.{placed}
use Rattle.chain_state.proofs.state.ChainState.stepped_by.Given as goal

abbrev pub invariant-loop-place : goal.invariant-loop-place
invariant-loop-place l = map placed l.stepped.items
    ≡ map (λ place. (place, next_stage l.self.setting l.late (slice_index_or (map shown l.self-inside.proposals.items) place (Closed []))))
    (take l.place-index l.place-items)
