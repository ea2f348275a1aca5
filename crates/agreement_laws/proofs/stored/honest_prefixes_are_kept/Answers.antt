use Rattle.agreement_laws.proofs.StoredPrefixes.{kept_prefix}
use Rattle.agreement_laws.proofs.stored.honest_prefixes_are_kept.Goals as goal

pub returns : goal.returns
returns c = kept_prefix
