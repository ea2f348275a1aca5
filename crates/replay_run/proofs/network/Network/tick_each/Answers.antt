use Rattle.std.proofs.Common.{rules, ap, sym, ◌∙◌, ◌+◌, ◌-◌}
use Rattle.std.specs.List.{range_with_len}
use Rattle.replica_seat.specs.Seats.{meaning}
use Rattle.replay_run.specs.Kept.{meant}
use Rattle.replay_run.specs.Step.{ticked_over}
use Rattle.replay_run.specs.World.{World, world_of}
use Rattle.replay_run.proofs.LoopSteps.{ticked_more}
use Rattle.replay_run.proofs.LoggedEvents.{stays_both, stop_after}
use Rattle.replay_run.proofs.network.Network.tick_each.Goals as goal

pub returns-in_err-turn_at-clause-kept : goal.returns-in_err-turn_at-clause-kept
returns-in_err-turn_at-clause-kept g c =
    let k = g.K.Keeper in
    let m = meant k in
    let means = meaning g.S.Sealer.replica g.S.Sealer.gives in
    let fits = g.C.Checker.meaning c.args.checker.now in
    let plan = c.args.plan.now in
    let stop = stop_after m means fits plan c.args.keepers.now c.loop-at.keepers c.turn_at.new.keepers c.args.self.now c.loop-at.self c.in_err-turn_at.field-0.0
    c.loop-at.invariant.kept c.in_err-turn_at.ensures.kept in
    search rules

pub loop-at-preserved : goal.loop-at-preserved
loop-at-preserved g c =
    let k = g.K.Keeper in
    let m = meant k in
    let means = meaning g.S.Sealer.replica g.S.Sealer.gives in
    let fits = g.C.Checker.meaning c.args.checker.now in
    let plan = c.args.plan.now in
    let at = c.loop-at.at in
    let n = c.n-n.result in
    record {
      world = ap (λ (w : World). ticked_over fits plan c.args.floor w (range_with_len (at + 1) (n - (at + 1)))) c.in_ok-turn_at.ensures.reported
          ∙ sym (ticked_more fits plan c.args.floor (world_of means c.loop-at.self) at n c.loop-at-test.true) ∙ c.loop-at.invariant.world;
      kept = stays_both m means fits plan c.args.keepers.now c.loop-at.keepers c.turn_at.new.keepers c.args.self.now c.loop-at.self c.turn_at.new.self
          c.loop-at.invariant.kept c.in_ok-turn_at.ensures.kept;
    }
