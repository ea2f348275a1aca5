use Rattle.std.proofs.Common.{◌≡◌, map, take}
use Rattle.std.specs.List.{list_any}
use Rattle.seq_base.specs.declared.tx.Tx.{Tx}
use Rattle.chain_state.specs.Keeping.{is_among}
use Rattle.chain_state.specs.Standings.{stage_waits}
use Rattle.chain_state.specs.Stepping.{placed}
use Rattle.chain_state.proofs.stepping.waiting_set.Given as goal

abbrev pub invariant-loop-step : goal.invariant-loop-step
invariant-loop-step l = (t : Tx) → is_among l.waiting.keys t ≡ list_any (λ step. stage_waits t step.1) (map placed (take l.step-index l.stepped))
