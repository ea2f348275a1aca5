use Rattle.std.proofs.Common.{arith}
use Rattle.node_core.specs.State.{fresh_known}
use Rattle.journal_laws.proofs.Numbers.{alike_run, counted}
use Rattle.journal_laws.proofs.SealCounts.{opens}
use Rattle.journal_laws.proofs.sealing.numbers_are_places.Goals as goal

pub returns : goal.returns
returns c = record {
  counted = λ fits gives s views me capacity events wide room. let places =
      counted fits gives (fresh_known s views me) 0 capacity events (opens s views me wide) (omega arith) room in omega (arith, places);
  alone = λ fits gives s views me capacity events wide room other same.
      alike_run gives other fits (fresh_known s views me) 0 capacity events (opens s views me wide) (omega arith) room same;
}
