use Rattle.session_laws.proofs.CutLists.{cuts_grow_with}
use Rattle.session_laws.proofs.session.cuts_grow.Goals as goal

pub returns : goal.returns
returns c = cuts_grow_with
