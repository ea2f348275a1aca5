use Rattle.round_rules.proofs.NextRound.{gone_fed, gone_ticked}
use Rattle.round_rules.proofs.laws.rounds_are_what_a_record_says.Goals as goal

pub returns-clause-ticks : goal.returns-clause-ticks
returns-clause-ticks c = gone_ticked

pub returns-clause-fed : goal.returns-clause-fed
returns-clause-fed c = gone_fed
