use Rattle.replica_box.proofs.Keys.{public_is}
use Rattle.replica_box.proofs.opening.public_of.Goals as goal

pub returns : goal.returns
returns c = λ id seed height me is. public_is id seed height me _ _ c.public.ensures is
