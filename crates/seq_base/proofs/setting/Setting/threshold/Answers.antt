use Rattle.seq_base.proofs.Thresholds.{twice_threshold, threshold_at_most_solid}
use Rattle.seq_base.proofs.setting.Setting.threshold.Goals as goal

pub returns-clause-at_most_solid : goal.returns-clause-at_most_solid
returns-clause-at_most_solid c = rw (← c.self.view_is) (threshold_at_most_solid _ c.self.invariant)

pub returns-clause-at_most_half : goal.returns-clause-at_most_half
returns-clause-at_most_half c = rw (← c.self.view_is) (twice_threshold _ c.self.invariant)
