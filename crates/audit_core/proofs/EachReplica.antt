-- Replica by replica: the first answer of all is that of this one or of those after it.
use Rattle.std.proofs.Common.{◌≡◌, ℕ, suc, ◌+◌, ◌-◌, ◌<◌, ◌≤◌, Option, Some, None, sym, ap, ◌∙◌, arith}
use Rattle.std.specs.List.{range_with_len}
use Rattle.std.specs.Option.{option_or}
use Rattle.run_record.specs.declared.record.RunRecord.{RunRecord}
use Rattle.node_core.specs.Rows.{Check}
use Rattle.audit_core.specs.declared.unlawful.Unlawful.{Unlawful}
use Rattle.audit_core.specs.Unlawful.{first_of, first_unlawful_of, unlawful_in}

module _ (fits : Check) (run : RunRecord) where
  -- the answer from this one on
  abbrev pub reported_from : ℕ → Option Unlawful
  reported_from replica = first_of (unlawful_in fits run) (range_with_len replica (run.setting.n - replica))

  pub all_at_first : first_unlawful_of fits run ≡ reported_from 0
  unfolding first_unlawful_of
  all_at_first =
      let all : run.setting.n ≡ run.setting.n - 0 = omega arith in
      ap (λ (n : ℕ). first_of (unlawful_in fits run) (range_with_len 0 n)) all

  one_off : (replica : ℕ) → replica < run.setting.n → reported_from replica ≡ option_or (unlawful_in fits run replica) (reported_from (replica + 1))
  one_off replica below =
      let more : run.setting.n - replica ≡ suc (run.setting.n - (replica + 1)) = omega (arith, below) in
      ap (λ (n : ℕ). first_of (unlawful_in fits run) (range_with_len replica n)) more

  -- this one has an answer
  pub reported_first : (replica : ℕ) (reported : Unlawful) → replica < run.setting.n → first_unlawful_of fits run ≡ reported_from replica
      → unlawful_in fits run replica ≡ Some reported
      → Some reported ≡ first_unlawful_of fits run
  reported_first replica reported below all some =
      sym (all ∙ one_off replica below ∙ ap (λ (o : Option Unlawful). option_or o (reported_from (replica + 1))) some)

  -- it has none
  pub reported_later : (replica : ℕ) → replica < run.setting.n → first_unlawful_of fits run ≡ reported_from replica
      → unlawful_in fits run replica ≡ None → first_unlawful_of fits run ≡ reported_from (replica + 1)
  reported_later replica below all none = all ∙ one_off replica below ∙ ap (λ (o : Option Unlawful). option_or o (reported_from (replica + 1))) none

  -- none is left
  pub none_left : (replica : ℕ) → run.setting.n ≤ replica → first_unlawful_of fits run ≡ reported_from replica → None ≡ first_unlawful_of fits run
  none_left replica past all =
      let none : run.setting.n - replica ≡ 0 = omega (arith, past) in
      sym (all ∙ ap (λ (n : ℕ). first_of (unlawful_in fits run) (range_with_len replica n)) none)
