use Rattle.intake_laws.proofs.Logs.{turned_by_late, turned_by_given}
use Rattle.intake_laws.proofs.examples.few_late_and_none_given_is_needed.Goals as goal

pub returns : goal.returns
returns c = record { late = turned_by_late; given = turned_by_given }
