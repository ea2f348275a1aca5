use Rattle.std.specs.Prelude.{count_by, not}
use Rattle.walks.specs.Marks.{is_followed}
use Rattle.fair_propose.proofs.SearchResult.{IsSearch}
use Rattle.fair_propose.proofs.search.search.Given as goal

abbrev pub invariant-loop-at : goal.invariant-loop-at
invariant-loop-at l = IsSearch l.ranking l.goals l.marks.items

abbrev pub decreases-loop-at : goal.decreases-loop-at
decreases-loop-at l = count_by (λ mark. not (is_followed mark)) l.marks.items
