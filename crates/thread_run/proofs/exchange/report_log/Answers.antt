use Rattle.std.proofs.Common.{◌∙◌, ◌≤◌, ℕ, ap, subst, sym}
use Rattle.std.proofs.lemmas.List.Elements.{All-set}
use Rattle.seq_base.specs.declared.tx.Tx.{Tx}
use Rattle.locked_log.specs.History.{Known}
use Rattle.thread_run.specs.Workers.{Ready}
use Rattle.thread_run.proofs.WorkDone.{looked_on}
use Rattle.thread_run.proofs.LogNews.{heard_back, one_worker_hears, pass_at, reported_at}
use Rattle.thread_run.proofs.exchange.report_log.Goals as goal

pub report_one-requires-clause-ready : goal.report_one-requires-clause-ready
report_one-requires-clause-ready g c κs within = c.requires.ready c.args.k c.index-workers-k.result c.requires.place.1

pub report_one-requires-clause-parts : goal.report_one-requires-clause-parts
report_one-requires-clause-parts g c κs within = subst (λ (n : ℕ). 2 ≤ n) (sym (ap (λ (p : Known Tx). p.parts) c.hear_all.ensures.heard.same)) c.requires.parts

pub report_one-requires-clause-driver : goal.report_one-requires-clause-driver
report_one-requires-clause-driver g c κs within =
    pass_at c.args.world.now.logs.items c.hear_all.new.driver c.args.k c.args.workers.now c.index-workers-k.result c.requires.seats c.requires.place.1
    (λ d. ap (λ (p : Known Tx). p.log) c.hear_all.ensures.heard.same ∙ c.requires.driver d)

pub returns-clause-ready : goal.returns-clause-ready
returns-clause-ready g c = All-set (Ready c.args.world.now.logs.items c.args.world.now.boxes.items) c.args.workers.now c.args.k
    c.report_one.new.worker c.report_one.ensures.ready c.requires.ready

pub returns-clause-hears : goal.returns-clause-hears
returns-clause-hears g c = one_worker_hears c.args.workers.now c.args.k c.index-workers-k.result c.report_one.new.worker c.report_one.ensures.hears

pub returns-clause-heard : goal.returns-clause-heard
returns-clause-heard g c = looked_on c.args.driver.now c.hear_all.new.driver c.report_one.new.driver c.hear_all.ensures.heard c.report_one.ensures.heard

pub returns-clause-reported : goal.returns-clause-reported
returns-clause-reported g c = λ d.
    let e = c.hear_all.ensures in
    reported_at c.args.driver.now.seen c.hear_all.new.driver.seen c.hear_all.new.clients c.args.workers.now c.args.k c.report_one.new.worker
    d c.requires.place.1 e.heard.later e.holds c.report_one.ensures.seen

pub returns-clause-back : goal.returns-clause-back
returns-clause-back g c =
    heard_back c.args.workers.now c.args.workers.now c.args.k c.report_one.new.worker c.report_one.new.driver.seen c.requires.place.1
    (one_worker_hears c.args.workers.now c.args.k c.index-workers-k.result c.report_one.new.worker c.report_one.ensures.hears) c.report_one.ensures.back
