use Rattle.count_set.proofs.Bits.{none-members_of}
use Rattle.count_set.proofs.replica_set.ReplicaSet.empty.Goals as goal

pub returns : goal.returns
returns c = none-members_of
