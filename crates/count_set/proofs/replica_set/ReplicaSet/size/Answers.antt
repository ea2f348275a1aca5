use Rattle.std.proofs.Common.{sym}
use Rattle.count_set.proofs.Bits.{length-members_of, ascending-members_of, below-members_of}
use Rattle.count_set.proofs.replica_set.ReplicaSet.size.Goals as goal

pub returns-clause-value : goal.returns-clause-value
returns-clause-value c = rw (← c.self.view_is) (sym (length-members_of c.self.inside.word c.self.invariant))

pub returns-clause-ascending : goal.returns-clause-ascending
returns-clause-ascending c = rw (← c.self.view_is) (ascending-members_of c.self.inside.word)

pub returns-clause-below : goal.returns-clause-below
returns-clause-below c = rw (← c.self.view_is) (below-members_of c.self.inside.word)
