use Rattle.std.proofs.Common.{[], ◌∷◌, refl}
use Rattle.majority_graph.proofs.examples.a_tie_may_close_a_cycle.Goals as goal

pub returns-clause-cycle : goal.returns-clause-cycle
returns-clause-cycle c = ((1 ∷ 2 ∷ [], (refl, (refl, refl))), (0 ∷ [], (refl, refl)))
