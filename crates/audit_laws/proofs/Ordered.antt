-- Lawful runs pass an audit, and a record that passes it is ordered if the verdict is Done or Stalled.
use Rattle.std.proofs.Common.{◌≡◌, None}
use Rattle.std.specs.Prelude.{◌↔◌}
use Rattle.run_record.specs.declared.record.RunRecord.{RunRecord}
use Rattle.node_core.specs.Rows.{Check}
use Rattle.headline_laws.specs.Headline.{Agree, Once, Complete, Fair, IsOrdered}
use Rattle.headline_laws.specs.Premises.{IsLawfulRun, IsSound}
use Rattle.audit_core.specs.Unlawful.{first_unlawful_of, AllObey}
use Rattle.audit_laws.specs.Audited.{IsDoneOrStalled, ListFinals}
use Rattle.audit_laws.proofs.Honest.{shown_honest, tested_honest}

module _ (sound_reported : (fits : Check) (run : RunRecord) → IsLawfulRun fits run → IsDoneOrStalled fits run ↔ IsSound fits run)
    (agree : (fits : Check) (run : RunRecord) → IsSound fits run → Agree run) (once : (fits : Check) (run : RunRecord) → IsSound fits run → Once run)
    (complete : (fits : Check) (run : RunRecord) → IsSound fits run → Complete run)
    (fair : (fits : Check) (run : RunRecord) → IsSound fits run → Fair run) where
  pub lawful_ordered : (fits : Check) (run : RunRecord) → IsLawfulRun fits run → IsDoneOrStalled fits run → IsOrdered run
  lawful_ordered fits run lawful audited = (let sound = (sound_reported fits run lawful).0 audited in record {
    agree = agree fits run sound;
    once = once fits run sound;
    complete = complete fits run sound;
    fair = fair fits run sound;
  })

module _ (none_found : (fits : Check) (run : RunRecord) → (first_unlawful_of fits run ≡ None) ↔ AllObey fits run) where
  pub finals_listed : (fits : Check) (run : RunRecord) → first_unlawful_of fits run ≡ None → ListFinals run
  finals_listed fits run none = λ r honest. ((none_found fits run).0 none r honest.below (tested_honest run r honest)).list

  pub lawful_passes : (fits : Check) (run : RunRecord) → IsLawfulRun fits run → first_unlawful_of fits run ≡ None
  lawful_passes fits run lawful = (none_found fits run).1 (λ r below honest. lawful.obeys r (shown_honest run r honest))
