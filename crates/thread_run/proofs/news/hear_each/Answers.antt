use Rattle.std.proofs.Common.{◌≡◌, ◌∙◌, List, ap, arith, get_or, refl, subst, sym, take}
use Rattle.std.specs.Prelude.{slice_set}
use Rattle.std.proofs.lemmas.List.{take_all}
use Rattle.thread_run.specs.Workers.{Ready, Working}
use Rattle.thread_run.specs.News.{heard_from, informed}
use Rattle.thread_run.proofs.Comparisons.{same_set}
use Rattle.thread_run.proofs.MailNews.{belongs_after, hears_more}
use Rattle.thread_run.proofs.news.hear_each.Goals as goal

pub loop-k-init : goal.loop-k-init
loop-k-init g c = (refl, refl)

pub hear_one-requires-clause-receiver : goal.hear_one-requires-clause-receiver
hear_one-requires-clause-receiver g c κs within =
    let logs = c.args.world.now.logs.items in
    let boxes = c.args.world.now.boxes.items in
    belongs_after logs boxes (take c.loop-k.k c.args.senders.now) c.args.receiver.now c.loop-k.receiver c.loop-k.invariant.1 c.requires.receiver

pub hear_one-requires-clause-sender : goal.hear_one-requires-clause-sender
hear_one-requires-clause-sender g c κs within =
    let test = c.loop-k-test.true in
    let len = c.loop-k.auto.senders in
    subst (λ (cs : List (Working g.row.S.Denot)).
    Ready c.args.world.now.logs.items c.args.world.now.boxes.items (get_or cs c.loop-k.k c.index-senders-k.result))
    (sym c.loop-k.invariant.0)
    (c.requires.senders c.loop-k.k c.index-senders-k.result (omega (arith, test, len)))

pub loop-k-preserved : goal.loop-k-preserved
loop-k-preserved g c =
    let i = c.loop-k.invariant in
    let k = c.loop-k.k in
    let d = c.index-senders-k.result in
    let senders = c.args.senders.now in
    let one = c.hear_one.ensures in
    let now = c.loop-k.receiver in
    let next = c.hear_one.new.receiver in
    let test = c.loop-k-test.true in
    let len = c.loop-k.auto.senders in (
      ap (slice_set c.loop-k.senders k) one.same ∙ same_set c.loop-k.senders k d ∙ i.0,
      hears_more senders k d c.args.receiver.now now next (omega (arith, test, len)) i.1
          (subst (λ (cs : List (Working g.row.S.Denot)). next ≡ record now { take = heard_from now.at now.take (get_or cs k d) }) i.0 one.heard),
    )

pub returns : goal.returns
returns g c =
    let i = c.loop-k.invariant in
    let last = c.loop-k-test.false in
    let len = c.loop-k.auto.senders in record {
      same = i.0;
      heard = i.1
          ∙ ap (λ (cs : List (Working g.row.S.Denot)). informed cs c.args.receiver.now)
          (take_all c.loop-k.k c.args.senders.now (omega (arith, last, len)));
    }
