use Rattle.std.proofs.Common.{◌≡◌, ◌≤◌, [], All, length, map, drop}
use Rattle.toml.specs.View.{view}
use Rattle.plan_text.specs.Reads.{read_each}
use Rattle.plan_text.specs.Clients.{client_in, IsClient}
use Rattle.plan_text.proofs.clients.read_each_client.Given as goal

abbrev pub invariant-loop-value : goal.invariant-loop-value
invariant-loop-value l = record {
  so_far : read_each client_in [] (map view l.values) ≡ read_each client_in l.clients.items (map view (drop l.value-index l.values));
  few : length l.clients.items ≤ l.value-index;
  counts : All (λ client. client.count ≤ 65536) l.clients.items;
  each : All IsClient l.clients.items;
}
