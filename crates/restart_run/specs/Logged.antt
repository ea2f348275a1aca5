-- What the keepers of a run hold at the end, and why there is no run.
use Rattle.std.specs.Prelude.{◌≡◌, ◌<◌, ℕ, List, ◌++◌, Some, ⊤, false, length, slice_get}
use Rattle.count_set.specs.Sets.{is_among}
use Rattle.plan_text.specs.declared.plan.Plan.{Plan}
use Rattle.run_record.specs.declared.record.Journal.{Journal}
use Rattle.durable_node.specs.Log.{LogOf}
use Rattle.replay_run.specs.Kept.{Meant, events_of, header_at}
use Rattle.restart_run.specs.Counts.{starts_by}
use Rattle.restart_run.specs.declared.fault.PlayFault.{PlayFault}
use Rattle.restart_run.specs.declared.fault.PlayFault.TheVariants.{Keep, NoMemory}

-- An honest replica's keeper holds the replica's header and the log of all events of its journal. It was opened once,
-- and at each restart of the replica whose turn was reached.
pub record IsLogged {K : Type 0} (m : Meant K) (plan : Plan) (turns at : ℕ) (keeper : K) (journal : Journal) : Type 0 where
  pub log : m.bytes keeper ≡ header_at plan at ++ LogOf (header_at plan at) (events_of journal.entries)
  pub openings : m.openings keeper ≡ starts_by plan.restarts turns at

-- there is a keeper for each journal, and those of honest replicas hold their logs
pub record AreLogged {K : Type 0} (m : Meant K) (plan : Plan) (turns : ℕ) (keepers : List K) (journals : List Journal) : Type 0 where
  pub count : length keepers ≡ length journals
  pub each : (at : ℕ) (keeper : K) (journal : Journal) → slice_get keepers at ≡ Some keeper → slice_get journals at ≡ Some journal
      → is_among plan.faulty at ≡ false → IsLogged m plan turns at keeper journal

-- the keeper that is returned has failed more often than the lower bound for the replica in the fault
abbrev pub IsPlayFault : {K : Type 0} → Meant K → (ℕ → ℕ) → PlayFault K → Type 0
IsPlayFault m least (Keep replica keeper) = least replica < m.faults keeper
IsPlayFault m least NoMemory = ⊤
