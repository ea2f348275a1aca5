use Rattle.audit_laws.proofs.Heard.{listed_done, listed_unlawful}
use Rattle.audit_laws.proofs.examples.a_verdict_does_not_see_lists_without_chains.Goals as goal

pub returns : goal.returns
returns c = record { verdict = listed_done; audit = listed_unlawful }
