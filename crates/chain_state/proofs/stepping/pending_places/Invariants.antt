use Rattle.std.proofs.Common.{◌≡◌, map, take}
use Rattle.chain_state.specs.Places.{still_pending}
use Rattle.chain_state.specs.Stepping.{placed}
use Rattle.chain_state.proofs.stepping.pending_places.Given as goal

abbrev pub invariant-loop-step : goal.invariant-loop-step
invariant-loop-step l = l.places.items ≡ still_pending (map placed (take l.step-index l.stepped))
