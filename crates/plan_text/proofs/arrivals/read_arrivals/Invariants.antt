use Rattle.std.proofs.Common.{◌≡◌, [], All, map, drop}
use Rattle.toml.specs.View.{view}
use Rattle.plan_text.specs.Arrivals.{arrival_in, HasReceived, IsArrival}
use Rattle.plan_text.specs.Reads.{read_each}
use Rattle.plan_text.proofs.arrivals.read_arrivals.Given as goal

abbrev pub invariant-loop-value : goal.invariant-loop-value
invariant-loop-value l = record {
  so_far : read_each (arrival_in l.setting.n l.clients) [] (map view l.values)
      ≡ read_each (arrival_in l.setting.n l.clients) l.arrivals.items (map view (drop l.value-index l.values));
  met : HasReceived l.met l.arrivals.items;
  each : All (IsArrival l.setting.n) l.arrivals.items;
}
