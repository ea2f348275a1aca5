use Rattle.std.proofs.Common.{◌+◌, ℕ, rules}
use Rattle.replica_seat.specs.Seats.{meaning}
use Rattle.replay_run.specs.Kept.{meant}
use Rattle.restart_run.proofs.OneRestart.{step_starts}
use Rattle.restart_run.specs.Counts.{starts_before}
use Rattle.restart_run.specs.Started.{ground}
use Rattle.restart_run.proofs.play.step_kept.Goals as goal

pub returns-in_err-restart_due-clause-kept : goal.returns-in_err-restart_due-clause-kept
returns-in_err-restart_due-clause-kept g c = record {
  go = λ least kept.
      let stop = c.in_err-restart_due.ensures.kept.go least kept in
      search rules;
}

pub returns-clause-kept : goal.returns-clause-kept
returns-clause-kept g c =
    let k = g.K.Keeper in
    let means = meaning g.M.S.Sealer.replica g.M.S.Sealer.gives in
    let plan = c.args.plan.now in
    let ground = ground (meant k) means (g.C.Checker.meaning c.args.checker.now) plan (g.M.SealMaker.gives c.args.maker.now) in
    record {
      go = λ least kept. step_starts ground
          (starts_before plan.restarts (c.args.network.now.turns + 1)) least c.restart_due.new.keepers c.restart_due.new.network
          c.step.result c.step.new.keepers c.step.new.self c.step.ensures.kept (c.in_ok-restart_due.ensures.kept.go least kept);
    }
