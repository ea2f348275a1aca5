use Rattle.std.proofs.Common.{sym, subst}
use Rattle.themis_calls.specs.Moved.{Took}
use Rattle.themis_calls.specs.Ordered.{AnswersOrder}
use Rattle.themis_calls.proofs.Asked.{ended_answers}
use Rattle.themis_calls.proofs.ordering.order.Goals as goal

pub returns-in-Ok-clause-answers : goal.returns-in-Ok-clause-answers
returns-in-Ok-clause-answers g c =
    let old = g.K.Sink.written c.args.sink.now in
    let new = g.K.Sink.written c.write_text.new.sink in
    let took : Took c.in-Ok.text old new = rw c.as_slice.ensures at c.in-Ok-write_text.ensures.whole in
    subst (AnswersOrder c.args.form c.args.input.now old new) (sym c.ended.ensures.value)
    (ended_answers c.args.form c.args.input.now c.in-Ok.text old new c.in-Ok.pair c.in-Ok.ensures.ok took)
