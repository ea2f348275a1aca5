use Rattle.std.proofs.Common.{◌≡◌, [], All, map, drop}
use Rattle.toml.specs.View.{view}
use Rattle.plan_text.specs.Marks.{MarksOnce, three_cmp}
use Rattle.plan_text.specs.Reads.{read_each}
use Rattle.plan_text.specs.Links.{link_in, send_of, IsLinkFault}
use Rattle.plan_text.proofs.links.read_links.Given as goal

abbrev pub invariant-loop-value : goal.invariant-loop-value
invariant-loop-value l = record {
  so_far : read_each (link_in l.setting.n) [] (map view l.values) ≡ read_each (link_in l.setting.n) l.links.items (map view (drop l.value-index l.values));
  marks : MarksOnce three_cmp send_of l.sends l.links.items;
  each : All (IsLinkFault l.setting.n) l.links.items;
}
