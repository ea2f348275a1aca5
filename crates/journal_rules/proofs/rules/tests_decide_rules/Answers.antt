use Rattle.journal_rules.proofs.Law.{none_found, some_found}
use Rattle.journal_rules.proofs.rules.tests_decide_rules.Goals as goal

pub returns-clause-none : goal.returns-clause-none
returns-clause-none c = none_found c.good_certificates_have_quorums.ensures

pub returns-clause-some : goal.returns-clause-some
returns-clause-some c = some_found c.good_certificates_have_quorums.ensures
