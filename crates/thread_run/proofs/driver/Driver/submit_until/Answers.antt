use Rattle.std.proofs.Common.{rules, ◌≡◌, subst}
use Rattle.replica_seat.specs.Feed.{arrived}
use Rattle.thread_run.specs.Going.{Tries}
use Rattle.thread_run.proofs.DriverLog.{given_more}
use Rattle.thread_run.proofs.driver.Driver.submit_until.Goals as goal

pub returns-clause-given : goal.returns-clause-given
returns-clause-given g c all h =
    let txs_are : c.as_slice.result.now ≡ arrived c.args.turns c.args.self.now.feed = search rules in
    let tries : Tries (arrived c.args.turns c.args.self.now.feed) c.args.self.now c.submit_all.new.self =
    subst (λ l. Tries l c.args.self.now c.submit_all.new.self) txs_are c.submit_all.ensures.tried in
    given_more all c.args.turns c.args.self.now c.submit_all.new.self tries (search rules) h
