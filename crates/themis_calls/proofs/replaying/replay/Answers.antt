use Rattle.std.proofs.Common.{rules}
use Rattle.themis_calls.specs.Replayed.{ByTurns, seals_of}
use Rattle.themis_calls.proofs.GivenRun.{lawful_by_turns, order_kept, spent_by_turns}
use Rattle.themis_calls.proofs.ProgressingRuns.{ends_as_reported, got_on, laws_of}
use Rattle.themis_calls.proofs.RunAnswers.{reported_answers}
use Rattle.themis_calls.proofs.TraceText.{Laws, form_by_turns, traced}
use Rattle.themis_calls.proofs.replaying.replay.Goals as goal

pub returns-clause-text : goal.returns-clause-text
returns-clause-text g c =
    let seals = seals_of g.M.SealMaker g.M.CheckerMaker.keys_fit c.args.maker.now in
    let played = c.in-Ok-play_plan.played in
    let reported = c.in-Ok-play_plan.ensures in
    reported_answers (ByTurns c.args.form) seals c.args.input.now c.in-Ok.plan played.run played.verdict played.text
    (g.K.Sink.written c.args.sink.now) (g.K.Sink.written c.report.new.sink) c.report.result
    (search rules) reported.played reported.examined reported.printed c.report.ensures.reported

pub returns-clause-headline : goal.returns-clause-headline
returns-clause-headline g c =
    let seals = seals_of g.M.SealMaker g.M.CheckerMaker.keys_fit c.args.maker.now in
    let played = c.in-Ok-play_plan.played in
    let reported = c.in-Ok-play_plan.ensures in
    let plan = c.in-Ok.plan in
    let law = c.runs_of_plans_are_ordered.ensures in
    let ends = laws_of c.runs_of_clean_plans_are_done.ensures.clean c.runs_of_clean_plans_are_done.ensures.nothing in
    let lawful = lawful_by_turns seals c.args.input.now plan played.run law.lawful (search rules) (search rules) reported.played reported.readable in
    let form = form_by_turns seals c.args.input.now plan played.run c.exact_runs_fit_the_form.ensures c.plans_have_proper_arrival_lists.ensures
    (search rules) (search rules) reported.played in
    let trace : Laws = record {
      spelled = c.lawful_runs_are_spelled.ensures;
      read = c.spellings_are_read.ensures;
      passes = c.lawful_runs_pass.ensures.trace_passes;
      verdict = c.bare_records_have_one_verdict.ensures;
    } in
    order_kept (ByTurns c.args.form) seals c.args.input.now plan played.run played.verdict played.text (g.K.Sink.written c.args.sink.now)
    (g.K.Sink.written c.report.new.sink) c.report.result
    law.sound law.audited c.lawful_runs_pass.ensures.trace_passes (search rules)
    (search rules) reported.played reported.examined reported.printed c.report.ensures.reported
    lawful
    (traced trace (ByTurns c.args.form) seals plan played.run reported.played lawful form)
    (spent_by_turns seals plan played.run c.stalled_runs_were_spent.ensures reported.played)
    (got_on ends seals c.args.input.now plan played.run (search rules) (search rules) reported.sealed reported.played)

pub returns-clause-clean : goal.returns-clause-clean
returns-clause-clean g c =
    let seals = seals_of g.M.SealMaker g.M.CheckerMaker.keys_fit c.args.maker.now in
    let played = c.in-Ok-play_plan.played in
    let reported = c.in-Ok-play_plan.ensures in
    let law = c.runs_of_clean_plans_are_done.ensures in
    ends_as_reported (laws_of law.clean law.nothing) seals c.args.input.now c.in-Ok.plan played.run (search rules)
    (search rules) reported.sealed reported.played
    played.verdict played.text (g.K.Sink.written c.args.sink.now)
    (g.K.Sink.written c.report.new.sink) c.report.result reported.examined c.report.ensures.reported
