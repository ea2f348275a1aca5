use Rattle.trace_laws.proofs.Fitness.{spelled}
use Rattle.trace_laws.proofs.spelled.lawful_runs_are_spelled.Goals as goal

pub returns : goal.returns
returns c = spelled c.proposals_have_first_edges.ensures.graphs c.a_state_stands_for_its_chain.ensures.finals
