use Rattle.session_laws.proofs.OneSession.{cuts}
use Rattle.session_laws.proofs.session.cuts_agree.Goals as goal

pub returns : goal.returns
returns c = cuts c.the_headline_holds.ensures.agree
