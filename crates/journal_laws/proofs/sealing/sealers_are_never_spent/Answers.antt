use Rattle.std.proofs.Common.{arith}
use Rattle.node_core.specs.State.{fresh_known}
use Rattle.journal_laws.proofs.SealCounts.{opens, same_journals}
use Rattle.journal_laws.proofs.sealing.sealers_are_never_spent.Goals as goal

pub returns : goal.returns
returns c = record {
  same = λ fits gives s views me capacity other events wide room more.
      (same_journals fits gives (fresh_known s views me) 0 capacity other events (opens s views me wide) (omega arith) room more).0;
  few = λ fits gives s views me capacity events wide room.
      (same_journals fits gives (fresh_known s views me) 0 capacity capacity events (opens s views me wide) (omega arith) room room).1;
}
