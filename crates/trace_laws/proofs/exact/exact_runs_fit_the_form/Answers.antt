use Rattle.trace_laws.proofs.Exactly.{exact_fits}
use Rattle.trace_laws.proofs.exact.exact_runs_fit_the_form.Goals as goal

pub returns : goal.returns
returns c = exact_fits c.honest_replicas_run_their_nodes.ensures
