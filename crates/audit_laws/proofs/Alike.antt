-- The check of the bare record is that of the record.
use Rattle.std.proofs.Common.{◌≡◌, ℕ, ◌<◌, false, cond, not, List, [], ◌∷◌, length, map, Option, Some, None, refl, ap, ◌∙◌}
use Rattle.std.specs.Prelude.{◌==◌}
use Rattle.std.specs.List.{range_with_len}
use Rattle.std.specs.Cmp.Lexicographic.{pointwise}
use Rattle.std.specs.Option.{option_map, option_or}
use Rattle.std.proofs.lemmas.List.{length-map}
use Rattle.seq_base.specs.declared.tx.Tx.{Tx}
use Rattle.seq_base.specs.Tx.{tx_eq}
use Rattle.count_set.specs.Sets.{is_among}
use Rattle.chain_state.specs.Standings.{finals, standing_for}
use Rattle.agreement_laws.specs.Journals.{Entry as Shown}
use Rattle.agreement_laws.specs.JournalPrefixes.{commit, committed_chain}
use Rattle.node_core.specs.declared.entry.Entry.{Entry}
use Rattle.run_record.specs.declared.record.RunRecord.{RunRecord}
use Rattle.node_core.specs.Rows.{Check}
use Rattle.journal_rules.specs.Chained.{lists_in}
use Rattle.journal_rules.specs.Obeys.{scale_of}
use Rattle.journal_rules.specs.Records.{journal_in, batches_in, commit_in}
use Rattle.journal_rules.specs.Rules.{Scale, Place, commit_view_of, finals_of}
use Rattle.journal_rules.specs.Tests.{first_broken, place}
use Rattle.audit_core.specs.Unlawful.{honest_in, broken_after, broken_in, unlawful_at, unlawful_in, first_of, first_unlawful_of}
use Rattle.trace_form.specs.declared.opening.Span.{Span}
use Rattle.trace_form.specs.Contents.{bared, without_sends}
use Rattle.audit_laws.proofs.Honest.{shown_honest}
use Rattle.audit_laws.proofs.Items.{where_true}
use Rattle.audit_laws.proofs.Sendless.{reported, shown_same, first_same}
use Rattle.audit_laws.proofs.Reported.{journal_reported, commit_reported, batches_reported}

pub first_of_same : {X Y : Type 0} (f g : X → Option Y) → ((x : X) → f x ≡ g x) → (xs : List X) → first_of f xs ≡ first_of g xs
first_of_same f g same [] = refl
first_of_same f g same (x ∷ xs) = ap (λ (o : Option _). option_or o (first_of f xs)) (same x) ∙ ap (option_or (g x)) (first_of_same f g same xs)

-- the check of a replica's part
abbrev audited : Scale → List Entry → ℕ → List (List Tx) → Option Place
audited by journal commit batches = option_or (first_broken by journal) (option_map (place (length journal)) (broken_after by.setting journal commit batches))

module _ (by : Scale) (journal : List Entry) (committed : ℕ) (batches : List (List Tx)) where
  view_reported : commit_view_of by.setting (reported journal) ≡ commit_view_of by.setting journal
  view_reported = ap (λ (prefix : List Shown). (commit by.setting prefix).view) (shown_same journal)

  finals_reported : finals_of by.setting (reported journal) ≡ finals_of by.setting journal
  finals_reported = ap (λ (prefix : List Shown). finals (standing_for by.setting (map lists_in (committed_chain by.setting prefix)))) (shown_same journal)

  after_reported : broken_after by.setting (reported journal) committed batches ≡ broken_after by.setting journal committed batches
  after_reported =
      ap (λ (view : ℕ). cond (not (committed == view)) (Some 6)
      (cond (not (pointwise (pointwise tx_eq) batches (finals_of by.setting (reported journal)))) (Some 7) None)) view_reported
      ∙ ap (λ (list : List (List Tx)). cond (not (committed == commit_view_of by.setting journal)) (Some 6)
      (cond (not (pointwise (pointwise tx_eq) batches list)) (Some 7) None)) finals_reported

  audited_reported : audited by (reported journal) committed batches ≡ audited by journal committed batches
  audited_reported =
      let rule : Option ℕ = broken_after by.setting (reported journal) committed batches in
      ap (λ (first : Option Place). option_or first (option_map (place (length (reported journal))) rule)) (first_same by journal)
      ∙ ap (λ (size : ℕ). option_or (first_broken by journal) (option_map (place size) rule)) (length-map journal without_sends)
      ∙ ap (λ (r : Option ℕ). option_or (first_broken by journal) (option_map (place (length journal)) r)) after_reported

module _ (fits : Check) (run : RunRecord) (span : Span) where
  abbrev other : RunRecord
  other = (bared run span).run

  broken_alike : (r : ℕ) → r < run.setting.n → is_among run.faulty r ≡ false → broken_in fits other r ≡ broken_in fits run r
  broken_alike r below correct =
      let by : Scale = scale_of fits run r in
      ap (λ (journal : List Entry). audited by journal (commit_in other r) (batches_in other r)) (journal_reported run r below correct span)
      ∙ ap (λ (commit : ℕ). audited by (reported (journal_in run r)) commit (batches_in other r)) (commit_reported run r below correct span)
      ∙ ap (audited by (reported (journal_in run r)) (commit_in run r)) (batches_reported run r below correct span)
      ∙ audited_reported by (journal_in run r) (commit_in run r) (batches_in run r)

  unlawful_alike : (r : ℕ) → unlawful_in fits other r ≡ unlawful_in fits run r
  unlawful_alike r =
      where_true (honest_in run r) (option_map (unlawful_at r) (broken_in fits other r)) (option_map (unlawful_at r) (broken_in fits run r)) None
      (λ honest. ap (option_map (unlawful_at r)) (let is = shown_honest run r honest in broken_alike r is.below is.correct))

  pub audited_alike : first_unlawful_of fits other ≡ first_unlawful_of fits run
  unfolding first_unlawful_of
  audited_alike = first_of_same (unlawful_in fits other) (unlawful_in fits run) unlawful_alike (range_with_len 0 run.setting.n)
