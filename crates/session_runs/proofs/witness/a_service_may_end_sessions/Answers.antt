use Rattle.std.proofs.Common.{sym, subst}
use Rattle.headline_laws.specs.Premises.{IsSound}
use Rattle.replica_seat.specs.Kits.{kit_of}
use Rattle.run_record.specs.declared.record.RunRecord.{RunRecord}
use Rattle.run_verdict.specs.Shown.{Shows}
use Rattle.seal_kit.specs.Seals.{capacity_of}
use Rattle.progress_laws.specs.Clean.{run_with}
use Rattle.progress_laws.proofs.Kits.{kit_is_made}
use Rattle.session_rules.specs.Cuts.{marker}
use Rattle.session_runs.specs.TwoSessions.{EndsFirst, marker_plan, two_sessions}
use Rattle.session_runs.proofs.FirstEnds.{marked, setting_is, faulty_is}
use Rattle.session_runs.proofs.MarkerPlan.{clean, proper, rules}
use Rattle.session_runs.proofs.TwoRecords.{audited, first_ended, service}
use Rattle.session_runs.proofs.witness.a_service_may_end_sessions.Goals as goal

pub returns-clause-plan : goal.returns-clause-plan
returns-clause-plan c = (rules, clean)

pub returns-clause-run : goal.returns-clause-run
returns-clause-run c = λ fits gives run seals is. subst (EndsFirst fits) (sym is)
    (λ readable apart.
    let played : RunRecord = run_with fits gives marker_plan in
    let kit = kit_of gives (capacity_of marker_plan.height) 5 in
    let made = kit_is_made gives (capacity_of marker_plan.height) marker_plan in
    let lawful = c.plays_are_lawful.ensures fits marker_plan kit rules made proper readable in
    let progressed = c.clean_runs_are_done.ensures fits gives marker_plan rules proper seals clean apart in
    let shown = subst (Shows fits played) progressed.verdict (c.verdicts_show_what_is_so.ensures fits played) in
    let sound : IsSound fits played = record { lawful = lawful; unforged = shown.0; uncollided = apart } in
    let holds_marker = marked fits kit made shown.2 in
    let setting = setting_is fits kit made shown.2 in
    let faulty = faulty_is fits kit made shown.2 in
    let waits = c.a_sound_record_may_be_idle.ensures.waiting in (
      c.own_histories_serve.ensures (λ session. fits) (two_sessions played) 2 (service waits fits played sound setting faulty holds_marker),
      first_ended waits fits played sound setting faulty holds_marker,
      audited waits fits played sound setting faulty holds_marker (c.cuts_agree.ensures fits played (marker 0) sound),
    ))
