use Rattle.std.proofs.Common.{length}
use Rattle.condense.proofs.Stacking.{IsClosing}
use Rattle.condense.proofs.pass.close.Given as goal

abbrev pub invariant-loop-at : goal.invariant-loop-at
invariant-loop-at l = IsClosing l.fn.places l.places l.fn.path.items l.path.items l.level l.number

abbrev pub decreases-loop-at : goal.decreases-loop-at
decreases-loop-at l = length l.path.items
