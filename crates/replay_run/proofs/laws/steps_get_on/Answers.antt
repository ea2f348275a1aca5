use Rattle.replay_run.proofs.RunEnds.{step_gets_on}
use Rattle.replay_run.proofs.laws.steps_get_on.Goals as goal

pub returns : goal.returns
returns c = step_gets_on
