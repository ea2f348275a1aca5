use Rattle.condense.specs.Steps.{SettledBelow}
use Rattle.condense.proofs.step.first_unsettled.Given as goal

abbrev pub invariant-loop-from : goal.invariant-loop-from
invariant-loop-from l = SettledBelow l.graph l.places l.top l.at l.from
