use Rattle.std.proofs.Common.{◌≡◌, ◌≢◌, ◌<◌, ℕ, get_or, false}
use Rattle.walks.specs.declared.mark.Mark.TheVariants.{Unseen}
use Rattle.fair_propose.proofs.search.has_unseen.Given as goal

abbrev pub invariant-loop-mark : goal.invariant-loop-mark
invariant-loop-mark l = l.unseen ≡ false → (v : ℕ) → v < l.mark-index → get_or l.marks v Unseen ≢ Unseen
