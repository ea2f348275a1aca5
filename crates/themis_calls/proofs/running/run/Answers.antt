use Rattle.std.proofs.Common.{rules}
use Rattle.seal_kit.specs.Seals.{capacity_of}
use Rattle.themis_calls.specs.Replayed.{InRounds, fits_for, gives_for, seals_of}
use Rattle.themis_calls.proofs.GivenRun.{order_kept}
use Rattle.themis_calls.proofs.Rounds.{spent_in_rounds}
use Rattle.themis_calls.proofs.RunAnswers.{reported_answers}
use Rattle.themis_calls.proofs.TraceText.{Laws, traced}
use Rattle.themis_calls.proofs.running.run.Goals as goal

pub returns-clause-text : goal.returns-clause-text
returns-clause-text g c =
    let seals = seals_of g.M.SealMaker g.M.CheckerMaker.keys_fit c.args.maker.now in
    let played = c.in-Ok-run_plan.played in
    let reported = c.in-Ok-run_plan.ensures in
    reported_answers InRounds seals c.args.input.now c.in-Ok.plan played.run played.verdict played.text (g.K.Sink.written c.args.sink.now)
    (g.K.Sink.written c.report.new.sink) c.report.result
    (search rules) reported.ran reported.examined reported.printed c.report.ensures.reported

pub returns-clause-headline : goal.returns-clause-headline
returns-clause-headline g c =
    let seals = seals_of g.M.SealMaker g.M.CheckerMaker.keys_fit c.args.maker.now in
    let played = c.in-Ok-run_plan.played in
    let reported = c.in-Ok-run_plan.ensures in
    let law = c.runs_of_plans_are_ordered.ensures in
    let plan = c.in-Ok.plan in
    let fits = fits_for seals plan in
    let gives = gives_for seals plan in
    let full = capacity_of plan.height in
    let lawful = c.runs_in_rounds_are_lawful.ensures fits plan gives full played.run (search rules) reported.arrivals reported.readable reported.ran in
    let form = c.runs_in_rounds_fit_the_form.ensures fits plan gives full (search rules) played.run reported.arrivals reported.ran in
    let trace : Laws = record {
      spelled = c.lawful_runs_are_spelled.ensures;
      read = c.spellings_are_read.ensures;
      passes = c.lawful_runs_pass.ensures.trace_passes;
      verdict = c.bare_records_have_one_verdict.ensures;
    } in
    order_kept InRounds seals c.args.input.now plan played.run played.verdict played.text (g.K.Sink.written c.args.sink.now)
    (g.K.Sink.written c.report.new.sink) c.report.result
    law.sound law.audited c.lawful_runs_pass.ensures.trace_passes (search rules)
    (search rules) reported.ran reported.examined reported.printed c.report.ensures.reported
    lawful
    (traced trace InRounds seals plan played.run reported.ran lawful form)
    (spent_in_rounds seals plan played.run reported.ran)
    tt
