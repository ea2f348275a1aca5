use Rattle.chain_laws.proofs.ArrivedProposals.{proposed_arrived}
use Rattle.chain_laws.proofs.arrivals.proposed_transactions_arrived.Goals as goal

pub returns : goal.returns
returns c = proposed_arrived c.distinct_replicas_are_counted.ensures
