-- A proposal in the code's representation, seen as its stage.
use Rattle.chain_state.specs.declared.standing.Standing.{Standing}
use Rattle.chain_state.specs.declared.standing.Standing.TheVariants.{Closed, Pending}
use Rattle.chain_state.specs.Standings.{Stage}
use Rattle.chain_state.specs.Standings.Stage.{Closed as ClosedStage, Pending as PendingStage}

abbrev pub shown : Standing → Stage
shown (Closed batches) = ClosedStage batches.value
shown (Pending pending) = PendingStage pending.value
