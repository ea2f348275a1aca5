use Rattle.std.proofs.Common.{rules, ◌≡◌, ◌++◌, ◌∷◌, [], None, subst, sym}
use Rattle.arrival_log.specs.Arrivals.{HasSubmitted}
use Rattle.thread_run.specs.Going.{HasTried}
use Rattle.thread_run.proofs.DriverLog.{tried_err, tried_no_more, tried_ok, was_none}
use Rattle.thread_run.proofs.Timeliness.{goes_submitted}
use Rattle.thread_run.proofs.driver.Driver.submit.Goals as goal

pub returns-then-is_some-clause-tried : goal.returns-then-is_some-clause-tried
returns-then-is_some-clause-tried g c list t = tried_no_more list c.args.tx c.args.self.now.fault c.args.self.now.pass (search rules) t

pub returns-in-Ok-clause-tried : goal.returns-in-Ok-clause-tried
returns-in-Ok-clause-tried g c list t =
    let none : c.args.self.now.fault ≡ None = was_none c.args.self.now.fault (search rules) in
    subst (λ f. HasTried (list ++ c.args.tx ∷ []) f c.submit.new.pass) (sym none)
    (tried_ok list c.args.tx c.in-Ok.field-0 c.args.self.now.pass c.submit.new.pass (subst (λ f. HasTried list f c.args.self.now.pass) none t)
    (subst (λ r. HasSubmitted c.args.self.now.pass c.args.tx r c.submit.new.pass) c.in-Ok.is c.submit.ensures.submitted))

pub returns-in-Err-clause-tried : goal.returns-in-Err-clause-tried
returns-in-Err-clause-tried g c list t =
    let none : c.args.self.now.fault ≡ None = was_none c.args.self.now.fault (search rules) in
    tried_err list c.args.tx c.in-Err.fault c.args.self.now.pass c.submit.new.pass (subst (λ f. HasTried list f c.args.self.now.pass) none t)
    (subst (λ r. HasSubmitted c.args.self.now.pass c.args.tx r c.submit.new.pass) c.in-Err.is c.submit.ensures.submitted)

pub returns-in-Ok-clause-goes : goal.returns-in-Ok-clause-goes
returns-in-Ok-clause-goes g c =
    goes_submitted c.args.self.now (record c.args.self.now { pass = c.submit.new.pass }) c.args.tx c.submit.result
    c.submit.ensures.submitted c.submit.ensures.seen (was_none c.args.self.now.fault (search rules))

pub returns-in-Err-clause-goes : goal.returns-in-Err-clause-goes
returns-in-Err-clause-goes g c =
    goes_submitted c.args.self.now _ c.args.tx c.submit.result c.submit.ensures.submitted c.submit.ensures.seen (was_none c.args.self.now.fault (search rules))
