use Rattle.std.proofs.Common.{◌∙◌}
use Rattle.audit_laws.proofs.AsLawful.{bare_lawful}
use Rattle.audit_laws.proofs.Ordered.{lawful_passes}
use Rattle.audit_laws.proofs.bare.lawful_runs_pass.Goals as goal

pub returns : goal.returns
returns c = (let passes = lawful_passes c.the_first_place_is_found.ensures.none in record {
  record_passes = passes;
  trace_passes = λ fits run span lawful. c.bare_records_are_audited_alike.ensures fits run span ∙ passes fits run lawful;
  stays_lawful = bare_lawful c.the_first_place_is_found.ensures.none;
})
