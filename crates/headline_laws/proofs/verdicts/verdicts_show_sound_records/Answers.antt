use Rattle.run_verdict.specs.Verdicts.{verdict_of}
use Rattle.headline_laws.proofs.Ends.{sound_from, ended_from}
use Rattle.headline_laws.proofs.verdicts.verdicts_show_sound_records.Goals as goal

pub returns : goal.returns
returns c = λ fits run lawful. (
  sound_from fits run lawful (verdict_of fits run) (c.verdicts_show_what_is_so.ensures fits run),
  (λ sound. ended_from fits run sound (verdict_of fits run) (c.verdicts_show_what_is_so.ensures fits run)),
)
