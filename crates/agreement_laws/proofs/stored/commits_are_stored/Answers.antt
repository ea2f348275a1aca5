use Rattle.agreement_laws.proofs.Chains.{commit_stored}
use Rattle.agreement_laws.proofs.stored.commits_are_stored.Goals as goal

pub returns : goal.returns
returns c = commit_stored
