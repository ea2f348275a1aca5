use Rattle.batch_laws.proofs.Reachability.{reaches_show}
use Rattle.batch_laws.proofs.reached.reaches_shows_walks.Goals as goal

pub returns : goal.returns
returns c = reaches_show
