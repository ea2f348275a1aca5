use Rattle.seq_base.proofs.Thresholds.{threshold_at_most_solid}
use Rattle.seq_base.proofs.setting.Setting.solid_at.Goals as goal

pub returns-clause-at_least_threshold : goal.returns-clause-at_least_threshold
returns-clause-at_least_threshold c = rw (← c.self.view_is) (threshold_at_most_solid _ c.self.invariant)
