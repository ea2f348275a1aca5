use Rattle.seq_base.proofs.Thresholds.{threshold_at_most_solid, twice_threshold}
use Rattle.seq_base.proofs.laws.thresholds_are_low.Goals as goal

pub returns-clause-at_most_solid : goal.returns-clause-at_most_solid
returns-clause-at_most_solid c = threshold_at_most_solid

pub returns-clause-at_most_half : goal.returns-clause-at_most_half
returns-clause-at_most_half c = twice_threshold
