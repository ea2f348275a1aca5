use Rattle.std.proofs.Common.{◌≡◌, ℕ, ◌<◌, get_or, false}
use Rattle.line_up.specs.Paths.{has_edge}
use Rattle.line_up.proofs.lining.place_of.Given as goal

abbrev pub invariant-loop-at : goal.invariant-loop-at
invariant-loop-at l = (k : ℕ) → k < l.at → has_edge l.proposal l.member (get_or l.line k 0) ≡ false
