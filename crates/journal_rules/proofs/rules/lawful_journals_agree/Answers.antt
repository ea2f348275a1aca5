use Rattle.journal_rules.proofs.AgreementPremises.{agrees_of}
use Rattle.journal_rules.proofs.Kept.{kept_of}
use Rattle.journal_rules.proofs.rules.lawful_journals_agree.Goals as goal

pub returns-clause-agrees : goal.returns-clause-agrees
returns-clause-agrees c = agrees_of

pub returns-clause-kept : goal.returns-clause-kept
returns-clause-kept c = kept_of
