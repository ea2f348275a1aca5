use Rattle.lawful_runs.proofs.Dues.{stalled_was_spent}
use Rattle.lawful_runs.proofs.spent.stalled_runs_were_spent.Goals as goal

pub returns : goal.returns
returns c fits plan sealers made stalled =
    let law = c.runs_end_for_a_cause.ensures in
    stalled_was_spent fits plan sealers made (law.over fits plan sealers) (law.due fits plan sealers) (law.count fits plan sealers) stalled
