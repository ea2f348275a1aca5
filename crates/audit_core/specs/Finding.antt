-- What an audit finds on a record.
use Rattle.std.specs.Prelude.{Option, Some, None}
use Rattle.node_core.specs.Rows.{Check}
use Rattle.run_record.specs.declared.record.RunRecord.{RunRecord}
use Rattle.run_record.specs.declared.verdict.Verdict.{Verdict}
use Rattle.run_record.specs.declared.verdict.Verdict.TheVariants.{Done as IsDone, Stalled as IsStalled, Forged as IsForged, Collided as IsCollided}
use Rattle.run_verdict.specs.Verdicts.{verdict_of}
use Rattle.audit_core.specs.Unlawful.{first_unlawful_of}
use Rattle.audit_core.specs.declared.finding.Finding.{Finding}
use Rattle.audit_core.specs.declared.finding.Finding.TheVariants.{Obeys, Breaks, Forged, Collided}
use Rattle.audit_core.specs.declared.unlawful.Unlawful.{Unlawful}

-- if no rule is broken: a forged seal, or two blocks with the same digest
abbrev pub shown_by : Verdict → Finding
shown_by IsDone = Obeys
shown_by IsStalled = Obeys
shown_by (IsForged at) = Forged at
shown_by (IsCollided at) = Collided at

abbrev pub finding_by : Option Unlawful → Verdict → Finding
finding_by (Some at) verdict = Breaks at.replica at.entry at.rule
finding_by None verdict = shown_by verdict

-- The finding on a record: the first rule that is broken. If none is, what its verdict shows.
unfoldable pub finding_of : Check → RunRecord → Finding
finding_of fits run = finding_by (first_unlawful_of fits run) (verdict_of fits run)
