-- A plan of each setting whose run finalises transactions.
use Rattle.std.specs.Prelude.{ℕ, ◌*◌, [], ◌∷◌, false}
use Rattle.seq_base.specs.declared.tx.Tx.{Tx}
use Rattle.seq_base.specs.Setting.{Parameters}
use Rattle.batch_laws.specs.Batches.{StandsIn}
use Rattle.run_record.specs.declared.record.RunRecord.{RunRecord}
use Rattle.plan_text.specs.declared.plan.Plan.{Plan}
use Rattle.journal_rules.specs.Records.{batches_in}
use Rattle.run_verdict.specs.Shown.{IsHonest}
use Rattle.seal_kit.specs.declared.height.Height.TheVariants.{H5}

-- The plan in which each replica receives the two transactions of one client.
abbrev pub two_each : Parameters → Plan
two_each s = record {
  setting = s;
  seed = 0;
  height = H5;
  views = 4;
  ticks = 1;
  turns = 16 * s.n;
  faulty = [];
  summary = false;
  clients = record { id = 1; count = 2 } ∷ [];
  arrivals = [];
  links = [];
  deeds = [];
  restarts = [];
}

abbrev pub client_tx : ℕ → Tx
client_tx number = record { client = 1; number = number; payload = 0 }

-- Each honest batch list holds both, each at the same place in all lists.
pub record HoldBoth (run : RunRecord) : Type 0 where
  pub first : ℕ
  pub second : ℕ
  pub one : (r : ℕ) → IsHonest run r → StandsIn (batches_in run r) first (client_tx 1)
  pub other : (r : ℕ) → IsHonest run r → StandsIn (batches_in run r) second (client_tx 2)
