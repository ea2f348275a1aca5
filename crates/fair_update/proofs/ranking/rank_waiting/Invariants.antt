use Rattle.fair_update.specs.Ranks.{AreCounted}
use Rattle.fair_update.proofs.ranking.rank_waiting.Given as goal

abbrev pub invariant-loop-u : goal.invariant-loop-u
invariant-loop-u l = AreCounted l.proposal l.u l.txs.items l.ranks.items
