use Rattle.std.proofs.Common.{◌≡◌, map, take}
use Rattle.std.specs.Prelude.{All}
use Rattle.majority_graph.specs.Ranks.{IsRanked}
use Rattle.majority_graph.proofs.ranks.rank_all.Given as goal

abbrev pub invariant-loop-at : goal.invariant-loop-at
invariant-loop-at l = (map (λ r. r.tx) l.ranked.items ≡ take l.at l.txs) × All (IsRanked l.lists) l.ranked.items
