use Rattle.std.proofs.Common.{◌∙◌, ap}
use Rattle.replica_seat.specs.Kits.{kit_of}
use Rattle.seal_kit.specs.Seals.{capacity_of}
use Rattle.seal_kit.specs.Tags.{tag}
use Rattle.restart_run.proofs.Kits.{made_kit}
use Rattle.tests_keep.proofs.runs.restarting.Goals as goal

pub play_restarting-requires-clause-kit : goal.play_restarting-requires-clause-kit
play_restarting-requires-clause-kit c κs =
    let made = c.in_ok-kit.ensures in
    let full = capacity_of c.args.plan.now.height in
    made_kit (λ s. s.replica) (λ s. s.capacity) (λ s. s.made) (λ s number bytes. tag s.replica bytes)
    (λ r number bytes. tag r bytes) full c.n.result c.in_ok-kit.kit.sealers.items
    made.replicas made.fresh made.room made.gives
    ∙ ap (kit_of (λ r number bytes. tag r bytes) full) c.n.ensures.value
