-- Keepers before the run, and at its start.
use Rattle.std.specs.Prelude.{◌≡◌, ◌≤◌, ◌+◌, ℕ, Bool, List, [], Some, true, false, length, slice_get}
use Rattle.count_set.specs.Sets.{is_among}
use Rattle.durable_node.specs.Check.{header_digest}
use Rattle.plan_text.specs.declared.plan.Plan.{Plan}
use Rattle.replay_run.specs.Kept.{Meant, header_at}
use Rattle.replay_run.specs.declared.keepers.Keeping.{Keeping}

-- a keeper without bytes, which was never opened
pub record IsNew {K : Type 0} (m : Meant K) (begun : K → Bool) (keeper : K) : Type 0 where
  pub bytes : m.bytes keeper ≡ []
  pub idle : begun keeper ≡ false
  pub openings : m.openings keeper ≡ 0

-- lower bounds of the keepers' faults, by their places; the first keeper has the place `from`
abbrev pub HadFaults : {K : Type 0} → Meant K → (ℕ → ℕ) → ℕ → List K → Type 0
HadFaults {K} m least from keepers = (at : ℕ) (k : K) → slice_get keepers at ≡ Some k → least (from + at) ≤ m.faults k

-- The keeper of an honest replica was opened once, and holds only the replica's header, durable. The digest is the header's. In
-- any case `least` is a lower bound of the keeper's faults.
pub record IsBegun {K : Type 0} (m : Meant K) (plan : Plan) (least at : ℕ) (k : Keeping K) : Type 0 where
  pub faults : least ≤ m.faults k.keeper
  pub on : is_among plan.faulty at ≡ false → k.on ≡ true
  pub bytes : is_among plan.faulty at ≡ false → m.bytes k.keeper ≡ header_at plan at
  pub digest : is_among plan.faulty at ≡ false → k.digest ≡ header_digest (header_at plan at)
  pub durable_size : is_among plan.faulty at ≡ false → m.durable_size k.keeper ≡ length (m.bytes k.keeper)
  pub openings : is_among plan.faulty at ≡ false → m.openings k.keeper ≡ 1

-- one for each replica of the plan
pub record AreBegun {K : Type 0} (m : Meant K) (plan : Plan) (least : ℕ → ℕ) (keepers : List (Keeping K)) : Type 0 where
  pub count : length keepers ≡ plan.setting.n
  pub each : (at : ℕ) (k : Keeping K) → slice_get keepers at ≡ Some k → IsBegun m plan (least at) at k
