use Rattle.std.proofs.Common.{◌≡◌, [], All, map, drop}
use Rattle.toml.specs.View.{view}
use Rattle.plan_text.specs.Marks.{MarksOnce, three_cmp}
use Rattle.plan_text.specs.Reads.{read_each}
use Rattle.plan_text.specs.Deeds.{deed_in, occasion_of, IsDeed}
use Rattle.plan_text.proofs.deeds.read_deeds.Given as goal

abbrev pub invariant-loop-value : goal.invariant-loop-value
invariant-loop-value l = record {
  so_far : read_each (deed_in l.faulty l.views) [] (map view l.values)
      ≡ read_each (deed_in l.faulty l.views) l.deeds.items (map view (drop l.value-index l.values));
  marks : MarksOnce three_cmp occasion_of l.occasions l.deeds.items;
  each : All (IsDeed l.faulty l.views) l.deeds.items;
}
