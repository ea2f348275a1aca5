use Rattle.std.proofs.Common.{arith}
use Rattle.thread_run.specs.Concluding.{WentOn}
use Rattle.thread_run.specs.Going.{HasStopped}
use Rattle.thread_run.specs.Steps.{HasHeard}
use Rattle.thread_run.proofs.RoundLoop.{on_map}
use Rattle.thread_run.proofs.AfterRounds.{has_stopped, went_on}
use Rattle.thread_run.proofs.runs.Run.let_clients_end.Goals as goal

pub returns-clause-stopped : goal.returns-clause-stopped
returns-clause-stopped g c =
    let plan = c.args.plan.now in
    let mid = c.end_clients.new.self in
    let new = c.submit_until.new.self in
    let e = c.end_clients.ensures in
    on_map (HasHeard plan 4294967295 mid new) (HasStopped plan new) c.submit_until.result c.submit_until.ensures
    (λ h. has_stopped plan c.requires.rules 4294967295 (omega arith) c.args.self.now mid new e.ended e.manned h)

pub returns-clause-on : goal.returns-clause-on
returns-clause-on g c =
    let plan = c.args.plan.now in
    let mid = c.end_clients.new.self in
    let new = c.submit_until.new.self in
    let e = c.end_clients.ensures in
    on_map (HasHeard plan 4294967295 mid new) (WentOn c.args.self.now new) c.submit_until.result c.submit_until.ensures
    (λ h. went_on plan c.requires.rules 4294967295 (omega arith) c.args.self.now mid new e.ended e.manned h)
