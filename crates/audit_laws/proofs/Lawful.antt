-- A trace that bytes spell, of which no place is unlawful, records a lawful run.
use Rattle.std.proofs.Common.{◌≡◌, ℕ, ◌<◌, ◌≤◌, true, List, [], length, get_or, None, refl, sym, subst, arith}
use Rattle.std.specs.Prelude.{◌↔◌}
use Rattle.std.proofs.lemmas.List.Elements.{All-from_recursion}
use Rattle.seq_base.specs.Tx.{FitsTx}
use Rattle.count_set.specs.Sets.{size_of, is_among, AreReplicas}
use Rattle.run_record.specs.declared.record.RunRecord.{RunRecord}
use Rattle.node_core.specs.Rows.{Check}
use Rattle.run_verdict.specs.Shown.{IsHonest}
use Rattle.headline_laws.specs.Premises.{IsLawfulRun}
use Rattle.audit_core.specs.Unlawful.{first_unlawful_of, AllObey}
use Rattle.trace_form.specs.declared.contents.Contents.{Contents}
use Rattle.trace_form.specs.declared.trace.Trace.{Trace}
use Rattle.trace_form.specs.Contents.{trace_of}
use Rattle.trace_form.specs.Fitting.{FitsList, FitFaulty, FitsContents, Traces}
use Rattle.audit_laws.specs.Audited.{IsReportedReadably}
use Rattle.audit_laws.proofs.Honest.{tested_honest}

-- ascending replicas are distinct
faulty_apart : (n f : ℕ) (faulty : List ℕ) → FitFaulty n f faulty → AreReplicas n faulty
faulty_apart n f faulty fits = record {
  distinct = λ i j d less inside same.
      (let rise : get_or faulty i d < get_or faulty j d = fits.ascending i j d less inside in absurd (omega (arith, rise, same)));
  below = All-from_recursion (λ (r : ℕ). r < n) faulty fits.below;
}

module _ (counted : (n : ℕ) (xs : List ℕ) → AreReplicas n xs → size_of n (is_among xs) ≡ length xs)
    (none_found : (fits : Check) (run : RunRecord) → (first_unlawful_of fits run ≡ None) ↔ AllObey fits run) where
  module _ (c : Contents) (written : FitsContents c) where
    abbrev run : RunRecord
    run = (trace_of c).run

    few_faulty : size_of run.setting.n (is_among run.faulty) ≤ run.setting.f
    few_faulty =
        let faulty = written.opening.faulty in
        let size : size_of run.setting.n (is_among run.faulty) ≡ length run.faulty =
        counted run.setting.n run.faulty (faulty_apart run.setting.n run.setting.f run.faulty faulty) in
        let few : length run.faulty ≤ run.setting.f = faulty.few in
        omega (arith, size, few)

    list_at : (r : ℕ) → IsHonest run r → FitsList true (get_or run.arrivals r [])
    list_at r honest =
        let inside : r < length run.arrivals = (let size : length run.arrivals ≡ run.setting.n = written.each_arrival in omega (arith, honest.below, size)) in
        All-from_recursion (FitsList true) run.arrivals written.arrivals r [] inside

    reported_lawful : (fits : Check) → IsReportedReadably run → first_unlawful_of fits run ≡ None → IsLawfulRun fits run
    reported_lawful fits reported none = record {
      valid = written.opening.valid;
      few_faulty = few_faulty;
      distinct = λ r honest. (list_at r honest).apart refl;
      fit = λ r honest. All-from_recursion FitsTx (get_or run.arrivals r []) (list_at r honest).each;
      reported = reported;
      obeys = λ r honest. (none_found fits run).0 none r honest.below (tested_honest run r honest);
    }

  pub audited_lawful : (fits : Check) (trace : Trace) (bytes : List ℕ) → Traces trace bytes → IsReportedReadably trace.run
      → first_unlawful_of fits trace.run ≡ None
      → IsLawfulRun fits trace.run
  audited_lawful fits trace bytes t =
      subst (λ (u : Trace). IsReportedReadably u.run → first_unlawful_of fits u.run ≡ None → IsLawfulRun fits u.run) (sym t.is)
      (reported_lawful t.contents t.fits fits)
