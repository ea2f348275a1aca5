use Rattle.std.proofs.Common.{rules}
use Rattle.replica_seat.specs.Seats.{meaning}
use Rattle.thread_run.proofs.WorkDone.{heard_none, heard_some}
use Rattle.thread_run.proofs.replica.Worker.hear.Goals as goal

pub returns-then-is_empty-clause-did : goal.returns-then-is_empty-clause-did
returns-then-is_empty-clause-did g c =
    rw (← c.self.view_is) (heard_none (g.C.Checker.meaning c.args.checker.now) c.args.plan.now
    (meaning g.S.Sealer.replica g.S.Sealer.gives) _ c.snapshot.new.pass (search rules) (search rules) (search rules))

pub returns-clause-did : goal.returns-clause-did
returns-clause-did g c =
    rw (← c.self.view_is)
    (heard_some (g.C.Checker.meaning c.args.checker.now) c.args.plan.now (meaning g.S.Sealer.replica g.S.Sealer.gives) _ _ c.snapshot.new.pass
    c.in_ok-list.list _ (search rules) (search rules) (search rules) (search rules) (search rules) (search rules))
