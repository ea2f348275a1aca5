use Rattle.thread_run.proofs.MailNews.{belongs_after, belongs_own, hears_among}
use Rattle.thread_run.proofs.news.hear_among.Goals as goal

pub hear_own-requires-clause-worker : goal.hear_own-requires-clause-worker
hear_own-requires-clause-worker g c κs within =
    let logs = c.args.world.now.logs.items in
    let boxes = c.args.world.now.boxes.items in
    belongs_after logs boxes c.args.prefix.now c.args.worker.now c.hear_each.new.receiver c.hear_each.ensures.heard c.requires.worker

pub hear_each-requires-2-clause-receiver : goal.hear_each-requires-2-clause-receiver
hear_each-requires-2-clause-receiver g c κs within =
    let logs = c.args.world.now.logs.items in
    let boxes = c.args.world.now.boxes.items in
    belongs_own logs boxes c.hear_each.new.receiver c.hear_own.new.worker c.hear_own.ensures.heard
    (belongs_after logs boxes c.args.prefix.now c.args.worker.now c.hear_each.new.receiver c.hear_each.ensures.heard c.requires.worker)

pub returns-clause-heard : goal.returns-clause-heard
returns-clause-heard g c =
    hears_among c.args.prefix.now c.args.back.now c.args.worker.now c.hear_each.new.receiver c.hear_own.new.worker
    c.hear_each-2.new.receiver c.hear_each.ensures.heard c.hear_own.ensures.heard c.hear_each-2.ensures.heard
