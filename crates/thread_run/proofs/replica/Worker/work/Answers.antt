use Rattle.std.proofs.Common.{Bool, subst}
use Rattle.replica_seat.specs.Seats.{meaning}
use Rattle.thread_run.specs.Workers.{Takes}
use Rattle.thread_run.proofs.WorkDone.{begun, went_on}
use Rattle.thread_run.proofs.replica.Worker.work.Goals as goal

pub loop-step-init : goal.loop-step-init
loop-step-init g c = (
  begun (g.C.Checker.meaning c.args.checker.now) c.args.plan.now (meaning g.S.Sealer.replica g.S.Sealer.gives) c.args.tick c.args.self.now
      c.begin.new.self c.hear.new.self c.in_ok-begin.ensures.did c.in_ok-begin.ensures.news c.in_ok-hear.ensures.did,
  c.in_ok-hear.ensures.belongs,
)

pub loop-step-preserved : goal.loop-step-preserved
loop-step-preserved g c =
    let fits = g.C.Checker.meaning c.args.checker.now in
    let m = meaning g.S.Sealer.replica g.S.Sealer.gives in
    let heard = c.in_ok-hear-2.ensures in
    let took = subst (λ (more : Bool). Takes fits c.args.plan.now m more c.loop-step.self c.take.new.self) c.if-not-branch.false c.in_ok-take.ensures.did in (
      went_on fits c.args.plan.now m c.args.tick c.loop-step.step c.args.self.now c.loop-step.self c.take.new.self
          c.hear-in-loop-step.new.self c.loop-step.invariant.0 took heard.did,
      heard.belongs,
    )
