use Rattle.plan_text.proofs.Received.{none_overflows}
use Rattle.plan_text.proofs.arrivals.check_received.Goals as goal

pub returns-clause-few : goal.returns-clause-few
returns-clause-few c = none_overflows c.args.clients.now c.args.arrivals.now c.args.setting.now.n cc
