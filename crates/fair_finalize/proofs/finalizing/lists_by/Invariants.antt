use Rattle.std.proofs.Common.{◌≡◌, map, take}
use Rattle.batch_laws.specs.Batches.{lists_of}
use Rattle.fair_finalize.proofs.finalizing.lists_by.Given as goal

abbrev pub invariant-loop-at : goal.invariant-loop-at
invariant-loop-at l = map (λ list. list.items) l.lists.items ≡ lists_of (take l.at l.numbers) l.count (take l.at l.txs)
