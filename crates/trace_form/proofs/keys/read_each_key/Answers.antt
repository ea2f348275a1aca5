use Rattle.std.proofs.Common.{[]}
use Rattle.std.proofs.lemmas.Result.{err_from_is_err_and}
use Rattle.trace_form.specs.Keys.{key_at}
use Rattle.trace_form.specs.Reading.{each_at}
use Rattle.trace_form.proofs.Steps.{each_blames}
use Rattle.trace_form.proofs.keys.read_each_key.Goals as goal

pub returns-in_err-key : goal.returns-in_err-key
returns-in_err-key c =
    let p = err_from_is_err_and c.from_residual.result c.from_residual.ensures.1 in
    let h = c.in_err-key.ensures in
    rw (p.1, p.2) (each_blames (λ before. key_at) c.args.n c.loop-at._at c.loop-at.keys.items c.loop-at.rest.now
    (each_at (λ before. key_at) c.args.n [] c.args.bytes.now) c.in_err-key.field-0.0 c.loop-at-test.true h c.loop-at.invariant)
