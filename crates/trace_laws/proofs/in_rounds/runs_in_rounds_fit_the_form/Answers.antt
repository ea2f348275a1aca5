use Rattle.trace_laws.proofs.Rounds.{rounds_fit}
use Rattle.trace_laws.proofs.in_rounds.runs_in_rounds_fit_the_form.Goals as goal

pub returns : goal.returns
returns c = rounds_fit
