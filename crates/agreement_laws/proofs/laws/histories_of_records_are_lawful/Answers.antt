use Rattle.agreement_laws.proofs.Lawfulness.{lawful_history}
use Rattle.agreement_laws.proofs.laws.histories_of_records_are_lawful.Goals as goal

pub returns : goal.returns
returns c = lawful_history
