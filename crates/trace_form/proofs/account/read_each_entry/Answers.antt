use Rattle.std.proofs.Common.{[]}
use Rattle.std.proofs.lemmas.Result.{err_from_is_err_and}
use Rattle.trace_form.specs.Reading.{each_at}
use Rattle.trace_form.specs.Accounts.{entry_at}
use Rattle.trace_form.proofs.Steps.{each_blames, each_goes_on}
use Rattle.trace_form.proofs.account.read_each_entry.Goals as goal

pub returns-in_err-entry : goal.returns-in_err-entry
returns-in_err-entry c =
    let p = err_from_is_err_and c.from_residual.result c.from_residual.ensures.1 in
    let h = c.in_err-entry.ensures in
    rw (p.1, p.2) (each_blames (λ before. entry_at c.args.n) c.args.count c.loop-at._at c.loop-at.entries.items c.loop-at.rest.now
    (each_at (λ before. entry_at c.args.n) c.args.count [] c.args.bytes.now) c.in_err-entry.field-0.0 c.loop-at-test.true h c.loop-at.invariant)

pub loop-at-preserved : goal.loop-at-preserved
loop-at-preserved c =
    rw c.in_ok-push.ensures.items
    (each_goes_on (λ before. entry_at c.args.n) c.args.count c.loop-at._at c.loop-at.entries.items c.loop-at.rest.now
    (each_at (λ before. entry_at c.args.n) c.args.count [] c.args.bytes.now) c.in_ok-entry.entry c.in_ok-entry.following.now
    c.loop-at-test.true c.in_ok-entry.ensures c.loop-at.invariant)
