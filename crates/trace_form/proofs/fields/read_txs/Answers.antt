use Rattle.std.proofs.Common.{[]}
use Rattle.std.proofs.lemmas.Result.{err_from_is_err_and}
use Rattle.trace_form.specs.Lists.{new_tx_at}
use Rattle.trace_form.specs.Reading.{each_at}
use Rattle.trace_form.proofs.Steps.{each_blames}
use Rattle.trace_form.proofs.fields.read_txs.Goals as goal

pub returns-in_err-tx : goal.returns-in_err-tx
returns-in_err-tx c =
    let p = err_from_is_err_and c.from_residual.result c.from_residual.ensures.1 in
    let h = c.in_err-tx.ensures.gives c.loop-at.txs.items c.loop-at.invariant.knows in
    rw (p.1, p.2) (each_blames (new_tx_at c.args.distinct) c.args.count c.loop-at._at c.loop-at.txs.items c.loop-at.rest.now
    (each_at (new_tx_at c.args.distinct) c.args.count [] c.args.bytes.now) c.in_err-tx.field-0.0 c.loop-at-test.true h c.loop-at.invariant.whole)
