use Rattle.std.proofs.Common.{◌≡◌, All, length, take}
use Rattle.thread_run.specs.Finishing.{HadMemory}
use Rattle.thread_run.proofs.finish.clients_had_memory.Given as goal

abbrev pub invariant-loop-at : goal.invariant-loop-at
invariant-loop-at l = record {
  had : All (λ x. HadMemory x.fault) (take l.at l.clients);
  count : l.count ≡ length l.clients;
}
