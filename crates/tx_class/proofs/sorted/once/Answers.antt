use Rattle.std.proofs.lemmas.List.Filters.{dedup_is}
use Rattle.tx_class.proofs.ListedTxs.{once_rises, once_holds}
use Rattle.tx_class.proofs.sorted.once.Goals as goal

pub returns-clause-ascending : goal.returns-clause-ascending
returns-clause-ascending c = once_rises _ _ c.in_ok-sort.ensures.sorted (dedup_is _ _ _ c.dedup.ensures.filtered)

pub returns-clause-same : goal.returns-clause-same
returns-clause-same c = λ t. rw (← c.in_ok-held.ensures.items) (once_holds _ _ _ t c.in_ok-sort.ensures.permutation (dedup_is _ _ _ c.dedup.ensures.filtered))
