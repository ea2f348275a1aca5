-- What a clean plan is, and how its run ends.
use Rattle.std.specs.Prelude.{◌≡◌, ℕ, ◌*◌, ◌<◌, ◌≤◌, List, [], length, true, All}
use Rattle.seq_base.specs.declared.tx.Tx.{Tx}
use Rattle.seq_base.specs.Lists.{holds}
use Rattle.seal_kit.specs.Seals.{capacity_of, longest_seal}
use Rattle.node_core.specs.Rows.{Check}
use Rattle.node_core.specs.Reported.{Gives}
use Rattle.run_record.specs.declared.record.RunRecord.{RunRecord}
use Rattle.run_record.specs.declared.verdict.Verdict.TheVariants.{Done}
use Rattle.plan_text.specs.declared.plan.Plan.{Plan}
use Rattle.replica_seat.specs.Feed.{timed_for, txs_of}
use Rattle.replica_seat.specs.Kits.{kit_of}
use Rattle.replay_run.specs.Play.{play_of}
use Rattle.run_verdict.specs.Verdicts.{verdict_of}

-- the arrival list of a replica
abbrev pub list_of : Plan → ℕ → List Tx
list_of plan replica = txs_of (timed_for plan replica)

-- A clean plan.
pub record IsCleanPlan (plan : Plan) : Type 0 where
  -- No replica is faulty, and no link and no deed is scripted.
  pub faulty : plan.faulty ≡ []
  pub links : plan.links ≡ []
  pub deeds : plan.deeds ≡ []
  -- There are at least one tick, four views, and sixteen turns for each replica.
  pub ticks : 1 ≤ plan.ticks
  pub views : 4 ≤ plan.views
  pub turns : 16 * plan.setting.n ≤ plan.turns
  -- All transactions arrive at turn 0: the same 1 to 128 at each replica, in any order.
  pub at_once : All (λ arrival. arrival.turn ≡ 0) plan.arrivals
  pub some : (r : ℕ) → r < plan.setting.n → 1 ≤ length (list_of plan r)
  pub few : (r : ℕ) → r < plan.setting.n → length (list_of plan r) ≤ 128
  pub same : (r : ℕ) → r < plan.setting.n → (t : Tx) → holds t (list_of plan r) ≡ holds t (list_of plan 0)

-- A plan in which nothing arrives at any replica.
abbrev pub BringsNothing : Plan → Type 0
BringsNothing plan = (r : ℕ) → r < plan.setting.n → list_of plan r ≡ []

-- The seals that the sealers of n replicas give fit, and none is longer than the longest seal.
pub record SealsFit (fits : Check) (n : ℕ) (gives : ℕ → Gives) : Type 0 where
  pub fit : (r number : ℕ) (bytes : List ℕ) → r < n → fits r bytes (gives r number bytes) ≡ true
  pub short : (r number : ℕ) (bytes : List ℕ) → r < n → length (gives r number bytes) ≤ longest_seal

-- the run of a plan, with a new sealer of its height for each replica
abbrev pub run_with : Check → (ℕ → Gives) → Plan → RunRecord
run_with fits gives plan = play_of fits plan (kit_of gives (capacity_of plan.height) plan.setting.n)

-- All due transactions were finalised, no seal is forged and no two blocks have the same digest, after one tick and few
-- turns.
pub record HasProgressed (fits : Check) (run : RunRecord) : Type 0 where
  pub verdict : verdict_of fits run ≡ Done
  pub ticks : run.ticks ≡ 1
  pub turns : run.turns ≤ 10 * run.setting.n

-- The run ended before its first event, since nothing is due.
pub record HasNothingToDo (fits : Check) (run : RunRecord) : Type 0 where
  pub verdict : verdict_of fits run ≡ Done
  pub ticks : run.ticks ≡ 0
  pub turns : run.turns ≡ 0
