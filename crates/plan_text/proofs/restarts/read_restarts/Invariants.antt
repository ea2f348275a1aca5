use Rattle.std.proofs.Common.{◌≡◌, [], All, map, drop}
use Rattle.toml.specs.View.{view}
use Rattle.plan_text.specs.Marks.{MarksOnce, two_cmp}
use Rattle.plan_text.specs.Reads.{read_each}
use Rattle.plan_text.specs.Restarts.{moment_of, restart_in, IsRestart}
use Rattle.plan_text.proofs.restarts.read_restarts.Given as goal

abbrev pub invariant-loop-value : goal.invariant-loop-value
invariant-loop-value l = record {
  so_far : read_each (restart_in l.setting.n l.faulty) [] (map view l.values)
      ≡ read_each (restart_in l.setting.n l.faulty) l.restarts.items (map view (drop l.value-index l.values));
  marks : MarksOnce two_cmp moment_of l.moments l.restarts.items;
  each : All (IsRestart l.setting.n l.faulty) l.restarts.items;
}
