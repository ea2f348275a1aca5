use Rattle.std.proofs.Common.{arith}
use Rattle.themis_calls.specs.Audited.{fits_in}
use Rattle.themis_calls.specs.Replayed.{seals_of}
use Rattle.themis_calls.proofs.Audits.{all_bytes, audit_kept, reported_answers}
use Rattle.themis_calls.proofs.auditing.audit.Goals as goal

pub returns-in-Ok-examine-clause-headline : goal.returns-in-Ok-examine-clause-headline
returns-in-Ok-examine-clause-headline g c =
    let seals = seals_of g.M.SealMaker g.M.CheckerMaker.keys_fit c.args.maker.now in
    let trace = c.in-Ok.trace in
    let examined = c.in-Ok-examine.examined in
    let reported = c.in-Ok-examine.ensures in
    audit_kept seals c.args.input.now trace examined.finding examined.text (g.K.Sink.written c.args.sink.now)
    (g.K.Sink.written c.report.new.sink) c.report.result
    (c.audited_traces_are_lawful.ensures.read (fits_in seals trace) trace c.args.input.now c.in-Ok.ensures.found
    (all_bytes c.args.input.now (λ i. omega (arith, c.type_inv.input i))))
    c.runs_of_plans_are_ordered.ensures.audited c.in-Ok.ensures.exact c.in-Ok.ensures.found reported.found reported.printed c.report.ensures.reported

pub returns-in-Ok-examine-clause-text : goal.returns-in-Ok-examine-clause-text
returns-in-Ok-examine-clause-text g c =
    let seals = seals_of g.M.SealMaker g.M.CheckerMaker.keys_fit c.args.maker.now in
    let examined = c.in-Ok-examine.examined in
    let reported = c.in-Ok-examine.ensures in
    reported_answers seals c.args.input.now c.in-Ok.trace examined.finding examined.text (g.K.Sink.written c.args.sink.now)
    (g.K.Sink.written c.report.new.sink) c.report.result
    c.in-Ok.ensures.exact reported.found reported.printed c.report.ensures.reported
