use Rattle.session_laws.proofs.FairHistories.{nothing_left}
use Rattle.session_laws.proofs.histories.nothing_earlier_is_left.Goals as goal

pub returns : goal.returns
returns c fits sessions starts many service = nothing_left sessions starts many (c.histories_are_fair.ensures fits sessions starts many service)
