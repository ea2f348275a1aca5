use Rattle.std.proofs.Common.{◌≡◌, [], map}
use Rattle.batch_laws.specs.Batches.{lists_of}
use Rattle.fair_finalize.proofs.finalizing.empty_lists.Given as goal

abbrev pub invariant-loop : goal.invariant-loop
invariant-loop l = map (λ list. list.items) l.lists.items ≡ lists_of [] l.counter []
