use Rattle.std.proofs.Common.{◌≡◌, map, take}
use Rattle.fair_propose.specs.Backward.{begun}
use Rattle.fair_propose.proofs.search.marks_of.Given as goal

abbrev pub invariant-loop-is_goal : goal.invariant-loop-is_goal
invariant-loop-is_goal l = l.marks.items ≡ map begun (take l.is_goal-index l.goals)
