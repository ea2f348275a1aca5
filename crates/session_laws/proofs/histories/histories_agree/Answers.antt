use Rattle.session_laws.proofs.OneHistory.{agreed, continue}
use Rattle.session_laws.proofs.histories.histories_agree.Goals as goal

pub returns-clause-agree : goal.returns-clause-agree
returns-clause-agree c fits sessions starts many service = agreed fits sessions starts many service c.the_headline_holds.ensures.agree

pub returns-clause-later : goal.returns-clause-later
returns-clause-later c fits sessions starts many service = continue fits sessions starts many service c.the_headline_holds.ensures.agree
