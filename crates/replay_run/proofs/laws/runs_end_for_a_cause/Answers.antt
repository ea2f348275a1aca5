use Rattle.replay_run.proofs.StopCauses.{count_stays, due_stays, start_stops}
use Rattle.replay_run.proofs.laws.runs_end_for_a_cause.Goals as goal

pub returns-clause-over : goal.returns-clause-over
returns-clause-over c = start_stops

pub returns-clause-due : goal.returns-clause-due
returns-clause-due c = due_stays

pub returns-clause-count : goal.returns-clause-count
returns-clause-count c = count_stays
