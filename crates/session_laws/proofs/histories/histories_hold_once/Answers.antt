use Rattle.session_laws.proofs.OnceHistories.{hold_once}
use Rattle.session_laws.proofs.histories.histories_hold_once.Goals as goal

pub returns : goal.returns
returns c fits sessions starts many service =
    hold_once fits sessions starts many service c.the_headline_holds.ensures.agree c.the_headline_holds.ensures.once c.final_transactions_arrived.ensures
