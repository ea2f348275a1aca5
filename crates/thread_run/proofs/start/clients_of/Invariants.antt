use Rattle.std.proofs.Common.{◌≡◌, ◌+◌, ◌-◌, length, map, take}
use Rattle.std.specs.List.{AllZip}
use Rattle.thread_run.specs.Starting.{IsNewClient, pass_with}
use Rattle.thread_run.proofs.start.clients_of.Given as goal

abbrev pub invariant-loop-at : goal.invariant-loop-at
invariant-loop-at l = record {
  mains : l.mains.items ≡ map (pass_with (length l.senders - l.at + 2)) l.logs;
  clients : AllZip (IsNewClient l.logs) (take l.at l.senders) l.clients.items;
  count : l.count ≡ length l.senders;
}
