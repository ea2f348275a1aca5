use Rattle.thread_run.proofs.Submissions.{heard_of}
use Rattle.thread_run.proofs.runs.Run.submit_until.Goals as goal

pub returns : goal.returns
returns g c =
    heard_of c.args.plan.now c.args.turns c.args.self.now c.report_workers.new.self c.submit_arrivals.new.self c.report_workers-2.new.self
    c.report_workers.ensures c.in_ok-submit_arrivals.ensures c.report_workers-2.ensures
