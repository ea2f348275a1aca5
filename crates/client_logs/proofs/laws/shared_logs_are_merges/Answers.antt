use Rattle.client_logs.proofs.Merges.{stands_at_own}
use Rattle.client_logs.proofs.laws.shared_logs_are_merges.Goals as goal

pub returns-clause-places : goal.returns-clause-places
returns-clause-places c = λ log claims k x t shared apart held found is. stands_at_own log claims shared apart held k x t found is
