use Rattle.std.proofs.Common.{[]}
use Rattle.std.proofs.lemmas.Result.{err_from_is_err_and}
use Rattle.trace_form.specs.Reading.{each_at}
use Rattle.trace_form.specs.Lists.{list_at}
use Rattle.trace_form.proofs.Steps.{each_blames, each_goes_on}
use Rattle.trace_form.proofs.fields.read_lists.Goals as goal

pub returns-in_err-list : goal.returns-in_err-list
returns-in_err-list c =
    let p = err_from_is_err_and c.from_residual.result c.from_residual.ensures.1 in
    let h = c.in_err-list.ensures in
    rw (p.1, p.2) (each_blames (λ before. list_at c.args.distinct) c.args.count c.loop-at._at c.loop-at.lists.items c.loop-at.rest.now
    (each_at (λ before. list_at c.args.distinct) c.args.count [] c.args.bytes.now) c.in_err-list.field-0.0 c.loop-at-test.true h c.loop-at.invariant)

pub loop-at-preserved : goal.loop-at-preserved
loop-at-preserved c =
    rw c.in_ok-push.ensures.items
    (each_goes_on (λ before. list_at c.args.distinct) c.args.count c.loop-at._at c.loop-at.lists.items c.loop-at.rest.now
    (each_at (λ before. list_at c.args.distinct) c.args.count [] c.args.bytes.now) c.in_ok-list.list c.in_ok-list.following.now
    c.loop-at-test.true c.in_ok-list.ensures c.loop-at.invariant)
