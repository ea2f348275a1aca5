use Rattle.condense.specs.Stacks.{IsStack}
use Rattle.condense.proofs.PassInvariant.{ArePassed}
use Rattle.condense.proofs.PathSteps.{IsPass, left}
use Rattle.condense.proofs.grouping.components.Given as goal

abbrev pub invariant-loop-step : goal.invariant-loop-step
invariant-loop-step l = record {
  pass : IsPass l.graph l.pass;
  passed : ArePassed l.graph l.pass.places.items l.resume.items;
  stack : IsStack l.pass.places.items l.pass.depth l.pass.path.items;
}

abbrev pub decreases-loop-step : goal.decreases-loop-step
decreases-loop-step l = left l.pass.places.items l.pass.depth
