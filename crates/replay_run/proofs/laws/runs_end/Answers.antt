use Rattle.replay_run.proofs.RunEnds.{start_ends}
use Rattle.replay_run.proofs.laws.runs_end.Goals as goal

pub returns : goal.returns
returns c = start_ends
