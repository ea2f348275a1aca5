use Rattle.std.specs.Prelude.{All}
use Rattle.client_logs.specs.Clients.{OfClient}
use Rattle.thread_run.proofs.AfterRounds.{SoManyEnded}
use Rattle.thread_run.proofs.runs.end_all.Given as goal

abbrev pub invariant-loop-at : goal.invariant-loop-at
invariant-loop-at g l = record {
  of : All (OfClient l.world.logs.items) l.clients;
  ended : SoManyEnded l.at l.fn.clients l.clients;
}
