use Rattle.std.proofs.Common.{◌∙◌, ap}
use Rattle.std.specs.Prelude.{slice_set}
use Rattle.thread_run.proofs.Comparisons.{same_set, with_itself}
use Rattle.thread_run.proofs.pairs.two_at.Goals as goal

pub returns-then-receiver-sender-clause-same : goal.returns-then-receiver-sender-clause-same
returns-then-receiver-sender-clause-same g c =
    let workers = c.args.workers.now in
    ap (slice_set workers c.args.receiver) c.own_is_whole.ensures.same ∙ same_set workers c.args.receiver c.index-workers-receiver.result

pub returns-then-receiver-sender-clause-answers : goal.returns-then-receiver-sender-clause-answers
returns-then-receiver-sender-clause-answers g c =
    with_itself c.args.workers.now c.args.receiver c.args.sender c.index-workers-receiver.result c.own_is_whole.result
    c.if-receiver-sender.true c.requires.places.0 c.own_is_whole.ensures.answers
