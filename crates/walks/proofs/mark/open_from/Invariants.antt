use Rattle.std.proofs.Common.{◌≢◌, ℕ, ◌<◌, ◌≤◌, get_or}
use Rattle.walks.specs.declared.mark.Mark.TheVariants.{Unseen, Open}
use Rattle.walks.proofs.mark.open_from.Given as goal

abbrev pub invariant-loop-at : goal.invariant-loop-at
invariant-loop-at l = (v : ℕ) → l.start ≤ v → v < l.at → get_or l.marks v Unseen ≢ Open
