use Rattle.std.proofs.Common.{◌≡◌, ◌<◌, [], All, map, drop}
use Rattle.toml.specs.View.{view}
use Rattle.plan_text.specs.Faulty.{members_in}
use Rattle.plan_text.proofs.faulty.read_members.Given as goal

abbrev pub invariant-loop-value : goal.invariant-loop-value
invariant-loop-value l = record {
  so_far : members_in l.setting.n [] (map view l.values) ≡ members_in l.setting.n l.faulty (map view (drop l.value-index l.values));
  below : All (λ r. r < l.setting.n) l.faulty;
}
