use Rattle.replica_seat.specs.Seats.{meaning}
use Rattle.thread_run.proofs.MailNews.{all_few, all_ready, all_took, all_worked}
use Rattle.thread_run.proofs.round.round.Goals as goal

pub turn_all-requires-clause-ready : goal.turn_all-requires-clause-ready
turn_all-requires-clause-ready g c κs within =
    all_ready c.args.workers.now c.hear_all.new.workers c.hear_all.new.workers c.hear_all.ensures.heard c.args.world.now.logs.items
    c.args.world.now.boxes.items c.requires.ready

pub returns-clause-worked : goal.returns-clause-worked
returns-clause-worked g c =
    all_worked c.args.workers.now c.hear_all.new.workers c.turn_all.new.workers c.hear_all.ensures.heard
    (g.C.Checker.meaning c.args.checker.now) c.args.plan.now (meaning g.S.Sealer.replica g.S.Sealer.gives)
    c.args.world.now.logs.items c.args.world.now.boxes.items c.args.tick c.turn_all.ensures.worked

pub returns-clause-few : goal.returns-clause-few
returns-clause-few g c = all_few c.args.workers.now c.hear_all.new.workers c.turn_all.new.workers c.hear_all.ensures.heard c.args.most c.turn_all.ensures.few

pub returns-clause-took : goal.returns-clause-took
returns-clause-took g c = all_took c.args.workers.now c.hear_all.new.workers c.turn_all.new.workers c.hear_all.ensures.heard
    c.what_was_heard_was_taken.ensures c.args.most c.turn_all.ensures.drained
