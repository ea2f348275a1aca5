-- Whether a replica's part of a record obeys the protocol, and where it first does not.
use Rattle.std.specs.Prelude.{◌≡◌, ◌≢◌, ℕ, length, ◌⊎◌}
use Rattle.run_record.specs.declared.record.RunRecord.{RunRecord}
use Rattle.node_core.specs.Rows.{Check}
use Rattle.journal_rules.specs.Records.{journal_in, arrivals_in, batches_in, commit_in}
use Rattle.journal_rules.specs.Rules.{Scale, Place, IsLawful, BreaksFirst, commit_view_of, finals_of}

-- what a replica's journal is checked against
abbrev pub scale_of : Check → RunRecord → ℕ → Scale
scale_of fits run replica = record { fits = fits; setting = run.setting; replica = replica; arrivals = arrivals_in run replica }

-- A replica's journal is lawful over what arrived (rules 1 to 5), its head reports the view of its commit (rule 6), and
-- its batches are those of the chain of its commit (rule 7).
pub record Obeys (fits : Check) (run : RunRecord) (replica : ℕ) : Type 0 where
  pub journal : IsLawful (scale_of fits run replica) (journal_in run replica)
  pub head : commit_in run replica ≡ commit_view_of run.setting (journal_in run replica)
  pub list : batches_in run replica ≡ finals_of run.setting (journal_in run replica)

-- A rule is first broken at this place in a replica's part of a record. Rules 6 and 7 are broken after the last entry,
-- if the journal is lawful; rule 7 only if the head is right.
abbrev pub Breaks : Check → RunRecord → ℕ → Place → Type 0
Breaks fits run replica at =
    BreaksFirst (scale_of fits run replica) (journal_in run replica) at
    ⊎ (IsLawful (scale_of fits run replica) (journal_in run replica)
    × (at.entry ≡ length (journal_in run replica))
    × (((at.rule ≡ 6) × (commit_in run replica ≢ commit_view_of run.setting (journal_in run replica)))
    ⊎ ((at.rule ≡ 7) × (commit_in run replica ≡ commit_view_of run.setting (journal_in run replica))
    × (batches_in run replica ≢ finals_of run.setting (journal_in run replica)))))
