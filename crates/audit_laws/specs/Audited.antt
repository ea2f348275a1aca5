-- What an audit implies for a record.
use Rattle.std.specs.Prelude.{◌≡◌, ℕ, ◌⊎◌, All}
use Rattle.run_record.specs.declared.record.RunRecord.{RunRecord}
use Rattle.run_record.specs.declared.verdict.Verdict.TheVariants.{Done, Stalled}
use Rattle.node_core.specs.Readable.{IsReadable}
use Rattle.node_core.specs.Rows.{Check}
use Rattle.journal_rules.specs.Records.{journal_in, batches_in}
use Rattle.journal_rules.specs.Rules.{finals_of}
use Rattle.run_verdict.specs.Shown.{IsHonest}
use Rattle.run_verdict.specs.Verdicts.{verdict_of}

-- What was delivered to an honest replica can be written, if it reads as a message.
abbrev pub IsReportedReadably : RunRecord → Type 0
IsReportedReadably run = (r : ℕ) → IsHonest run r → All (λ e. IsReadable e.event) (journal_in run r)

-- Each honest batch list is that of the chain of its replica's commit.
abbrev pub ListFinals : RunRecord → Type 0
ListFinals run = (r : ℕ) → IsHonest run r → batches_in run r ≡ finals_of run.setting (journal_in run r)

-- The verdict finds no forged seal and no two blocks with the same digest.
abbrev pub IsDoneOrStalled : Check → RunRecord → Type 0
IsDoneOrStalled fits run = (verdict_of fits run ≡ Done) ⊎ (verdict_of fits run ≡ Stalled)
