use Rattle.std.proofs.Common.{sym}
use Rattle.count_set.proofs.Bits.{filter-members_of}
use Rattle.count_set.proofs.replica_set.ReplicaSet.meet.Goals as goal

pub returns : goal.returns
returns c = rw (← c.self.view_is, ← c.other.view_is) (sym (filter-members_of c.self.inside.word c.other.inside.word))
