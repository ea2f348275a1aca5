use Rattle.std.proofs.Common.{[], ◌∷◌, refl}
use Rattle.majority_graph.proofs.examples.a_pair_below_the_threshold_is_missing.Goals as goal

pub returns-clause-walk : goal.returns-clause-walk
returns-clause-walk c = (2 ∷ [], (refl, refl))
