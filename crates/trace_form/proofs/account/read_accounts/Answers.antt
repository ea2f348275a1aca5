use Rattle.std.proofs.Common.{[]}
use Rattle.std.proofs.lemmas.Result.{err_from_is_err_and}
use Rattle.trace_form.specs.Accounts.{next_account_at}
use Rattle.trace_form.specs.Reading.{each_at}
use Rattle.trace_form.proofs.Steps.{each_blames}
use Rattle.trace_form.proofs.account.read_accounts.Goals as goal

pub returns-in_err-account : goal.returns-in_err-account
returns-in_err-account c =
    let p = err_from_is_err_and c.from_residual.result c.from_residual.ensures.1 in
    let one = next_account_at c.args.n c.args.faulty.now in
    let h = c.in_err-account.ensures c.loop-replica.accounts.items c.loop-replica.invariant.many in
    rw (p.1, p.2) (each_blames one c.args.n c.loop-replica.replica c.loop-replica.accounts.items c.loop-replica.rest.now
    (each_at one c.args.n [] c.args.bytes.now) c.in_err-account.field-0.0 c.loop-replica-test.true h c.loop-replica.invariant.whole)
