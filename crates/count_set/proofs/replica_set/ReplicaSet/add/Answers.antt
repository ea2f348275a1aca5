use Rattle.std.proofs.Common.{◌∙◌, ap}
use Rattle.count_set.proofs.Bits.{with_replica-members_of}
use Rattle.count_set.specs.Sets.{with_replica}
use Rattle.count_set.proofs.replica_set.ReplicaSet.add.Goals as goal

pub returns-clause-members : goal.returns-clause-members
returns-clause-members c = with_replica-members_of c.self.inside.word c.args.replica c.requires ∙ ap (with_replica c.args.replica) c.self.view_is
