use Rattle.lawful_runs.proofs.RoundsSealCounts.{never_spent_in}
use Rattle.lawful_runs.proofs.rounds.honest_sealers_in_rounds_are_never_spent.Goals as goal

pub returns : goal.returns
returns c = never_spent_in c.sealers_are_never_spent.ensures.same c.sealers_are_never_spent.ensures.few
