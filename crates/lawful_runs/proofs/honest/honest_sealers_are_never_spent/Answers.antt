use Rattle.lawful_runs.proofs.SealCounts.{never_spent}
use Rattle.lawful_runs.proofs.honest.honest_sealers_are_never_spent.Goals as goal

pub returns : goal.returns
returns c = never_spent c.sealers_are_never_spent.ensures.same c.sealers_are_never_spent.ensures.few
