use Rattle.std.proofs.Common.{arith, refl, subst, sym}
use Rattle.std.specs.Prelude.{All}
use Rattle.thread_run.specs.Workers.{Ready}
use Rattle.thread_run.specs.News.{informed}
use Rattle.thread_run.proofs.ListUpdates.{changed_whole}
use Rattle.thread_run.proofs.MailNews.{informed_more, ready_changed}
use Rattle.thread_run.proofs.news.hear_all.Goals as goal

pub loop-at-init : goal.loop-at-init
loop-at-init g c = refl

pub hear_at-requires-clause-ready : goal.hear_at-requires-clause-ready
hear_at-requires-clause-ready g c κs within =
    let logs = c.args.world.now.logs.items in
    let boxes = c.args.world.now.boxes.items in
    subst (All (Ready logs boxes)) (sym c.loop-at.invariant) (ready_changed logs boxes c.args.workers.now c.loop-at.at c.args.workers.now c.requires.ready)

pub loop-at-preserved : goal.loop-at-preserved
loop-at-preserved g c =
    let test = c.loop-at-test.true in
    let len = c.loop-at.auto.workers in
    informed_more c.args.workers.now c.loop-at.workers c.hear_at.new.workers c.loop-at.at (omega (arith, test, len)) c.loop-at.invariant c.hear_at.ensures.heard

pub returns : goal.returns
returns g c =
    let last = c.loop-at-test.false in
    let end = c.loop-at.auto.at-end in
    let len = c.loop-at.auto.workers in record {
      heard = changed_whole (informed c.args.workers.now) c.loop-at.at c.loop-at.workers c.args.workers.now (omega (arith, last, end, len)) c.loop-at.invariant;
    }
