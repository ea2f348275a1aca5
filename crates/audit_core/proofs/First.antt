-- The first place that is found is the first where a record does not obey.
use Rattle.std.proofs.Common.{◌≡◌, ℕ, zero, suc, ◌+◌, ◌<◌, ◌≤◌, Bool, true, false, cond, ◌==◌, List, length, Option, Some, None, refl, sym, subst, inl, inr, ◌⊎◌, arith}
use Rattle.std.specs.Prelude.{◌↔◌, not, option_map}
use Rattle.std.specs.List.{range_with_len}
use Rattle.std.specs.Option.{option_or}
use Rattle.std.specs.Bool.{Decides}
use Rattle.std.specs.Cmp.{unsigned_Decides}
use Rattle.std.specs.Cmp.Lexicographic.{pointwise, pointwise_decides}
use Rattle.std.proofs.lemmas.Bool.{both_ways, cases_lt}
use Rattle.seq_base.specs.Tx.{tx_eq, tx_eq_decides}
use Rattle.node_core.specs.declared.entry.Entry.{Entry}
use Rattle.run_record.specs.declared.record.RunRecord.{RunRecord}
use Rattle.node_core.specs.Rows.{Check}
use Rattle.journal_rules.specs.Obeys.{Obeys, Breaks, scale_of}
use Rattle.journal_rules.specs.Records.{journal_in, batches_in, commit_in}
use Rattle.journal_rules.specs.Rules.{Scale, Place, IsLawful, BreaksFirst, commit_view_of, finals_of}
use Rattle.journal_rules.specs.Tests.{first_broken, place}
use Rattle.journal_rules.proofs.FirstBroken.{lawful_breaks_nothing}
use Rattle.audit_core.specs.declared.unlawful.Unlawful.{Unlawful}
use Rattle.audit_core.specs.Unlawful.{after_last, broken_in, number_of, unlawful_at, unlawful_in, first_of, first_unlawful_of, honest_in, AllObey, IsFirstUnlawful}

module _ (none_found : (by : Scale) (journal : List Entry) → (first_broken by journal ≡ None) ↔ IsLawful by journal)
    (some_found : (by : Scale) (journal : List Entry) (at : Place) → first_broken by journal ≡ Some at → BreaksFirst by journal at)
    (fits : Check) (run : RunRecord) where
  abbrev Says : ℕ → Option Place → Type 0
  Says r None = Obeys fits run r
  Says r (Some at) = Breaks fits run r at

  -- the head reports the view of the commit, and the batches are those of its chain
  abbrev has_head : ℕ → Bool
  has_head r = commit_in run r == commit_view_of run.setting (journal_in run r)

  abbrev has_list : ℕ → Bool
  has_list r = pointwise (pointwise tx_eq) (batches_in run r) (finals_of run.setting (journal_in run r))

  head_decides : (r : ℕ) → Decides (has_head r) (commit_in run r ≡ commit_view_of run.setting (journal_in run r))
  head_decides r = unsigned_Decides (commit_in run r) (commit_view_of run.setting (journal_in run r))

  list_decides : (r : ℕ) → Decides (has_list r) (batches_in run r ≡ finals_of run.setting (journal_in run r))
  list_decides r = pointwise_decides (pointwise_decides tx_eq_decides) (batches_in run r) (finals_of run.setting (journal_in run r))

  after_says : (r : ℕ) → IsLawful (scale_of fits run r) (journal_in run r) → Says r (after_last run r)
  after_says r lawful = head (has_head r) refl
    where
      list : (t : Bool) → has_list r ≡ t → commit_in run r ≡ commit_view_of run.setting (journal_in run r)
          → Says r (option_map (place (length (journal_in run r))) (cond (not t) (Some 7) None))
      list true is right = record { journal = lawful; head = right; list = (list_decides r).0 is }
      list false is right = inr (lawful, refl, inr (refl, right, (λ same. both_ways (has_list r) is ((list_decides r).1 same))))

      head : (t : Bool) → has_head r ≡ t
          → Says r (option_map (place (length (journal_in run r))) (cond (not t) (Some 6) (cond (not (has_list r)) (Some 7) None)))
      head true is = list (has_list r) refl ((head_decides r).0 is)
      head false is = inr (lawful, refl, inl (refl, (λ same. both_ways (has_head r) is ((head_decides r).1 same))))

  broken_says : (r : ℕ) → Says r (broken_in fits run r)
  broken_says r = audited (first_broken (scale_of fits run r) (journal_in run r)) refl
    where
      audited : (o : Option Place) → first_broken (scale_of fits run r) (journal_in run r) ≡ o → Says r (option_or o (after_last run r))
      audited None is = after_says r ((none_found (scale_of fits run r) (journal_in run r)).0 is)
      audited (Some at) is = inl (some_found (scale_of fits run r) (journal_in run r) at is)

  -- what the answer for the replicas from this one means
  abbrev Shows : ℕ → ℕ → Option Unlawful → Type 0
  Shows from n None = (r : ℕ) → from ≤ r → r < from + n → honest_in run r ≡ true → Obeys fits run r
  Shows from n (Some reported) =
      (from ≤ reported.replica) × (reported.replica < from + n) × (honest_in run reported.replica ≡ true)
      × ((r : ℕ) → from ≤ r → r < reported.replica → honest_in run r ≡ true → Obeys fits run r) × (at : Place)
      × Breaks fits run reported.replica at × (reported.entry ≡ number_of at.entry) × (reported.rule ≡ at.rule)

  shows_from : (n from : ℕ) → Shows from n (first_of (unlawful_in fits run) (range_with_len from n))
  shows_from zero from = λ r low high honest. absurd (omega (arith, low, high))
  shows_from (suc n) from = one (honest_in run from) refl (broken_in fits run from) (broken_says from)
      (first_of (unlawful_in fits run) (range_with_len (from + 1) n)) (shows_from n (from + 1))
    where
      here_or_later : (r : ℕ) → from ≤ r → (from ≡ r) ⊎ (from + 1 ≤ r)
      here_or_later r low = elim (cases_lt from r) [
        | inl less ↦ inr (omega (arith, less))
        | inr not_less ↦ inl (omega (arith, low, not_less))
      ]

      further : (o : Option Unlawful) → Shows (from + 1) n o → (honest_in run from ≡ true → Obeys fits run from) → Shows from (suc n) o
      further None later here = λ r low high honest. elim (here_or_later r low) [
        | inl same ↦ subst (Obeys fits run) same (here (subst (λ (k : ℕ). honest_in run k ≡ true) (sym same) honest))
        | inr above ↦ later r above (omega (arith, high)) honest
      ]
      further (Some reported) later here = (
        omega (arith, later.0),
        omega (arith, later.1),
        later.2,
        (λ r low high honest. elim (here_or_later r low) [
          | inl same ↦ subst (Obeys fits run) same (here (subst (λ (k : ℕ). honest_in run k ≡ true) (sym same) honest))
          | inr above ↦ later.3 r above high honest
        ]),
        later.4,
        later.5,
        later.6,
        later.7,
      )

      one : (t : Bool) → honest_in run from ≡ t → (o : Option Place) → Says from o → (others : Option Unlawful) → Shows (from + 1) n others
          → Shows from (suc n) (option_or (cond t (option_map (unlawful_at from) o) None) others)
      one true is None says others later = further others later (λ h. says)
      one true is (Some at) says others later = (omega arith, omega arith, is, (λ r low high honest. absurd (omega (arith, low, high))), at, says, refl, refl)
      one false is o says others later = further others later (λ h. absurd (both_ways (honest_in run from) is h))

  -- ---- the whole record

  shows_all : Shows 0 run.setting.n (first_unlawful_of fits run)
  unfolding first_unlawful_of
  shows_all = shows_from run.setting.n 0

  pub none_unlawful : first_unlawful_of fits run ≡ None → AllObey fits run
  none_unlawful is = λ r below honest. subst (Shows 0 run.setting.n) is shows_all r (omega arith) (omega (arith, below)) honest

  pub some_unlawful : (reported : Unlawful) → first_unlawful_of fits run ≡ Some reported → IsFirstUnlawful fits run reported
  some_unlawful reported is =
      let t = subst (Shows 0 run.setting.n) is shows_all in
      record {
        below = omega (arith, t.1);
        honest = t.2;
        lesser = λ r less honest. t.3 r (omega arith) less honest;
        at = t.4;
        breaks = t.5;
        entry = t.6;
        rule = t.7;
      }

  breaks_not_obeys : (r : ℕ) (at : Place) → Obeys fits run r → Breaks fits run r at → ⊥
  breaks_not_obeys r at obeys (inl first) = lawful_breaks_nothing (scale_of fits run r) (journal_in run r) at obeys.journal first
  breaks_not_obeys r at obeys (inr (lawful, number, inl (rule, other))) = other obeys.head
  breaks_not_obeys r at obeys (inr (lawful, number, inr (rule, right, other))) = other obeys.list

  pub all_obey : AllObey fits run → first_unlawful_of fits run ≡ None
  all_obey obey = by (first_unlawful_of fits run) refl
    where
      by : (o : Option Unlawful) → first_unlawful_of fits run ≡ o → o ≡ None
      by None is = refl
      by (Some reported) is =
          let first = some_unlawful reported is in
          absurd (breaks_not_obeys reported.replica first.at (obey reported.replica first.below first.honest) first.breaks)
