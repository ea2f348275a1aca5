use Rattle.agreement_laws.proofs.Chains.{chains_on_one_line}
use Rattle.agreement_laws.proofs.laws.committed_chains_agree.Goals as goal

pub returns : goal.returns
returns c = λ s x prefix other valid sound t u.
    chains_on_one_line s x sound prefix other t u (c.commits_of_prefixes_agree.ensures s x prefix other valid sound t u)
