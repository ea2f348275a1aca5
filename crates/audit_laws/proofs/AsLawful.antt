-- The bare record of a lawful run is lawful.
use Rattle.std.proofs.Common.{◌≡◌, None, sym, subst, ◌∙◌}
use Rattle.std.specs.Prelude.{◌↔◌, All}
use Rattle.std.proofs.lemmas.List.Elements.{All-map}
use Rattle.node_core.specs.declared.entry.Entry.{Entry}
use Rattle.run_record.specs.declared.record.RunRecord.{RunRecord}
use Rattle.node_core.specs.Readable.{IsReadable}
use Rattle.node_core.specs.Rows.{Check}
use Rattle.journal_rules.specs.Records.{journal_in}
use Rattle.headline_laws.specs.Premises.{IsLawfulRun}
use Rattle.audit_core.specs.Unlawful.{first_unlawful_of, AllObey}
use Rattle.trace_form.specs.declared.opening.Span.{Span}
use Rattle.trace_form.specs.Contents.{without_sends, bared}
use Rattle.audit_laws.proofs.Alike.{audited_alike}
use Rattle.audit_laws.proofs.Honest.{tested_honest}
use Rattle.audit_laws.proofs.Ordered.{lawful_passes}
use Rattle.audit_laws.proofs.Reported.{journal_reported}

pub bare_lawful : ((fits : Check) (run : RunRecord) → (first_unlawful_of fits run ≡ None) ↔ AllObey fits run) → (fits : Check) (run : RunRecord) (span : Span)
    → IsLawfulRun fits run → IsLawfulRun fits (bared run span).run
bare_lawful none_found fits run span lawful = record {
  valid = lawful.valid;
  few_faulty = lawful.few_faulty;
  distinct = λ r honest. lawful.distinct r (record { below = honest.below; correct = honest.correct });
  fit = λ r honest. lawful.fit r (record { below = honest.below; correct = honest.correct });
  reported = λ r honest. subst (All (λ (e : Entry). IsReadable e.event)) (sym (journal_reported run r honest.below honest.correct span))
      (All-map (λ (e : Entry). IsReadable e.event) without_sends (journal_in run r)
      (lawful.reported r (record { below = honest.below; correct = honest.correct })));
  obeys = λ r honest. (none_found fits (bared run span).run).0 (audited_alike fits run span ∙ lawful_passes none_found fits run lawful) r honest.below
      (tested_honest (bared run span).run r honest);
}
