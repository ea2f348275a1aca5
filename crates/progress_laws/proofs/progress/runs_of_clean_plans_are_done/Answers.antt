use Rattle.progress_laws.proofs.IdleRuns.{idles}
use Rattle.progress_laws.proofs.progress.runs_of_clean_plans_are_done.Goals as goal

pub returns-clause-clean : goal.returns-clause-clean
returns-clause-clean c = λ fits gives bytes plan read rules.
    c.clean_runs_are_done.ensures fits gives plan rules (λ r. c.plans_have_proper_arrival_lists.ensures bytes plan r read rules)

pub returns-clause-nothing : goal.returns-clause-nothing
returns-clause-nothing c = λ fits plan sealers made nothing. idles fits plan nothing sealers made (λ run. (c.collisions_are_found.ensures run).1)
