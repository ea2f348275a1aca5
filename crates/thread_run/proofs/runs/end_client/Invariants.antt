use Rattle.std.proofs.Common.{◌≡◌, ◌+◌, ◌*◌, min}
use Rattle.std.specs.Prelude.{None}
use Rattle.client_logs.specs.Clients.{OfClient}
use Rattle.thread_run.proofs.runs.end_client.Given as goal

abbrev pub invariant-loop-round : goal.invariant-loop-round
invariant-loop-round g l = record {
  of : OfClient l.logs l.client;
  same : (l.client.id ≡ l.fn.client.id) × (l.client.count ≡ l.fn.client.count);
  next : l.client.fault ≡ None → (l.fn.client.fault ≡ None) × (l.client.next ≡ min l.fn.client.count (l.fn.client.next + 64 * l.round));
}
