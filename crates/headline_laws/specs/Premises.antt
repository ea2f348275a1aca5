-- The premises of the headline on a record.
use Rattle.std.specs.Prelude.{ℕ, ◌≤◌, All}
use Rattle.seq_base.specs.Lists.{AreDistinct}
use Rattle.seq_base.specs.Setting.{IsValid}
use Rattle.seq_base.specs.Tx.{FitsTx}
use Rattle.count_set.specs.Sets.{size_of}
use Rattle.run_record.specs.declared.record.RunRecord.{RunRecord}
use Rattle.node_core.specs.Readable.{IsReadable}
use Rattle.node_core.specs.Rows.{Check}
use Rattle.journal_rules.specs.Obeys.{Obeys}
use Rattle.journal_rules.specs.Records.{journal_in, arrivals_in}
use Rattle.run_verdict.specs.Shown.{IsHonest, IsForged, IsCollided}
use Rattle.headline_laws.specs.Records.{faulty_in}

-- At most f replicas are faulty, and the others' parts of the record obey the protocol, over arrival lists.
pub record IsLawfulRun (fits : Check) (run : RunRecord) : Type 0 where
  pub valid : IsValid run.setting
  pub few_faulty : size_of run.setting.n (faulty_in run) ≤ run.setting.f
  -- No transaction arrives twice at a replica, and each is within the widths of its fields.
  pub distinct : (r : ℕ) → IsHonest run r → AreDistinct (arrivals_in run r)
  pub fit : (r : ℕ) → IsHonest run r → All FitsTx (arrivals_in run r)
  -- If the delivered bytes read as a message, it can be written.
  pub reported : (r : ℕ) → IsHonest run r → All (λ e. IsReadable e.event) (journal_in run r)
  pub obeys : (r : ℕ) → IsHonest run r → Obeys fits run r

-- The run is lawful, and its record shows no forged seal and no two blocks with the same digest.
pub record IsSound (fits : Check) (run : RunRecord) : Type 0 where
  pub lawful : IsLawfulRun fits run
  pub unforged : ¬ IsForged fits run
  pub uncollided : ¬ IsCollided run
