use Rattle.replica_box.proofs.Places.{read_none, read_same}
use Rattle.replica_box.proofs.opening.is_at.Goals as goal

pub returns-in-Some : goal.returns-in-Some
returns-in-Some c = read_same _ _ _ _ _ c.in-Some.ensures.lookup.3 c.is_same.ensures

pub returns-in-None : goal.returns-in-None
returns-in-None c = read_none _ _ _ c.in-None.ensures.lookup.3
