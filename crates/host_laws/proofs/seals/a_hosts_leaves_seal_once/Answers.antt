use Rattle.host_laws.proofs.HostRuns.{one_statement}
use Rattle.host_laws.proofs.seals.a_hosts_leaves_seal_once.Goals as goal

pub returns : goal.returns
returns c = one_statement c.log_laws.ensures
