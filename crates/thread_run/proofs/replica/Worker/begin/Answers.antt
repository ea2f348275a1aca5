use Rattle.replica_seat.specs.Seats.{meaning}
use Rattle.thread_run.proofs.WorkDone.{did_nothing}
use Rattle.thread_run.proofs.replica.Worker.begin.Goals as goal

pub returns-in-None-clause-did : goal.returns-in-None-clause-did
returns-in-None-clause-did g c = rw c.in-None.is
    (did_nothing (g.C.Checker.meaning c.args.checker.now) c.args.plan.now (meaning g.S.Sealer.replica g.S.Sealer.gives) c.args.self.now)
