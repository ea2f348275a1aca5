use Rattle.std.specs.Prelude.{false}
use Rattle.std.proofs.Common.{◌≡◌, ◌∙◌, ◌<◌, ℕ, ap, arith, length, subst}
use Rattle.thread_run.specs.Steps.{AreCounted, turns_by}
use Rattle.thread_run.specs.Workers.{Working}
use Rattle.thread_run.proofs.WorkerCounts.{counted_more, counted_none}
use Rattle.thread_run.proofs.runs.turns_of.Goals as goal

pub loop-at-init : goal.loop-at-init
loop-at-init g c = counted_none c.args.workers.now

pub overflow_add-turns : goal.overflow_add-turns
overflow_add-turns g c =
    let t = c.loop-at-test.true in
    let lt : c.loop-at.at < length c.args.workers.now = omega (arith, t) in
    let e = c.in_ok-turns.ensures in
    let r = c.index-workers-at.result in
    let is = c.index-workers-at.is in
    let most = c.requires.each c.loop-at.at r lt (subst (λ (w : Working g.row.S.Denot). w.failed ≡ false) is e.1) in
    let one = e.0 ∙ ap turns_by is in
    let few = c.requires.few in
    let so = c.loop-at.invariant.few in
    omega (arith, most, one, few, so, lt)

pub loop-at-preserved : goal.loop-at-preserved
loop-at-preserved g c =
    let t = c.loop-at-test.true in
    let lt : c.loop-at.at < length c.args.workers.now = omega (arith, t) in
    let e = c.in_ok-turns.ensures in
    let r = c.index-workers-at.result in
    let is = c.index-workers-at.is in
    counted_more c.args.workers.now c.loop-at.at c.loop-at.turns c.in_ok-turns.field-0 r lt c.loop-at.invariant (e.0 ∙ ap turns_by is)
    (subst (λ (w : Working g.row.S.Denot). w.failed ≡ false) is e.1) (c.requires.each c.loop-at.at r lt)

pub returns : goal.returns
returns g c =
    let last = c.loop-at-test.false in
    let within = c.loop-at.auto.at-end in
    let all : c.loop-at.at ≡ length c.args.workers.now = omega (arith, last, within) in
    subst (λ (k : ℕ). AreCounted k c.loop-at.turns c.args.workers.now) all c.loop-at.invariant
