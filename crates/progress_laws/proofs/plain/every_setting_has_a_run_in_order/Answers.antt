use Rattle.std.proofs.Common.{sym, subst}
use Rattle.run_record.specs.declared.record.RunRecord.{RunRecord}
use Rattle.lawful_runs.specs.Lawful.{IsReadableRun}
use Rattle.headline_laws.specs.Premises.{IsSound}
use Rattle.replica_seat.specs.Kits.{kit_of}
use Rattle.run_verdict.specs.Shown.{IsCollided, Shows}
use Rattle.seal_kit.specs.Seals.{capacity_of}
use Rattle.progress_laws.specs.Clean.{run_with}
use Rattle.progress_laws.specs.Plain.{HoldBoth, two_each}
use Rattle.progress_laws.proofs.InOrder.{hold_both}
use Rattle.progress_laws.proofs.Kits.{kit_is_made}
use Rattle.progress_laws.proofs.TwoEach.{clean, proper, rules}
use Rattle.progress_laws.proofs.plain.every_setting_has_a_run_in_order.Goals as goal

pub returns-clause-plan : goal.returns-clause-plan
returns-clause-plan c = λ s valid. (rules s valid, clean s valid)

pub returns-clause-run : goal.returns-clause-run
returns-clause-run c = λ s fits gives run valid seals is. subst (λ (r : RunRecord). IsReadableRun r → (IsCollided r → ⊥) → IsSound fits r × HoldBoth r) (sym is)
    (λ readable apart.
    let made = kit_is_made gives (capacity_of (two_each s).height) (two_each s) in
    let lawful = c.plays_are_lawful.ensures fits (two_each s) (kit_of gives (capacity_of (two_each s).height) s.n) (rules s valid) made
    (proper s valid) readable in
    let progressed = c.clean_runs_are_done.ensures fits gives (two_each s) (rules s valid) (proper s valid) seals (clean s valid) apart in
    let shown = subst (Shows fits (run_with fits gives (two_each s))) progressed.verdict
    (c.verdicts_show_what_is_so.ensures fits (run_with fits gives (two_each s))) in
    let sound : IsSound fits (run_with fits gives (two_each s)) = record { lawful = lawful; unforged = shown.0; uncollided = apart } in
    let law = c.the_headline_holds.ensures in (
      sound,
      hold_both s valid fits (kit_of gives (capacity_of (two_each s).height) s.n) made
          (law.agree fits (run_with fits gives (two_each s)) sound) (law.once fits (run_with fits gives (two_each s)) sound) shown.2,
    ))
