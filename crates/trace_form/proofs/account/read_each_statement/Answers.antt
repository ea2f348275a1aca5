use Rattle.std.proofs.Common.{[]}
use Rattle.std.proofs.lemmas.Result.{err_from_is_err_and}
use Rattle.trace_form.specs.Reading.{each_at}
use Rattle.trace_form.specs.Lists.{bytes_at}
use Rattle.trace_form.proofs.Steps.{each_blames}
use Rattle.trace_form.proofs.account.read_each_statement.Goals as goal

pub returns-in_err-statement : goal.returns-in_err-statement
returns-in_err-statement c =
    let p = err_from_is_err_and c.from_residual.result c.from_residual.ensures.1 in
    let h = c.in_err-statement.ensures in
    rw (p.1, p.2) (each_blames (λ before. bytes_at) c.args.count c.loop-at._at c.loop-at.statements.items c.loop-at.rest.now
    (each_at (λ before. bytes_at) c.args.count [] c.args.bytes.now) c.in_err-statement.field-0.0 c.loop-at-test.true h c.loop-at.invariant)
