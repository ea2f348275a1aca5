use Rattle.round_rules.proofs.NextRound.{gone_first, gone_on}
use Rattle.round_rules.proofs.laws.rounds_keep_what_was_so.Goals as goal

pub returns-clause-first : goal.returns-clause-first
returns-clause-first c = gone_first

pub returns-clause-more : goal.returns-clause-more
returns-clause-more c = gone_on
