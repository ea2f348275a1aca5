-- Keepers in memory, one of which fails at given calls.
use Rattle.std.specs.Prelude.{◌≡◌, ℕ, ◌+◌, ◌-◌, ◌^◌, ◌<◌, min, List, [], ◌++◌, length, take, Bool, true, false, Contains, slice_get, Result, Ok, Err}
use Rattle.std.specs.Option.{option_map_or}
use Rattle.durable_node.specs.declared.keeper.KeepFault.{KeepFault}
use Rattle.durable_node.specs.declared.keeper.KeepFault.TheVariants.{Failed, NoMemory}

-- Its bytes, how many of them are durable, how often it was opened, and whether it is open. Which calls fail, by their
-- numbers from 1; how many calls there were, and how many of them failed. How many bytes after the durable ones each
-- stop leaves, and how many stops there were.
pub record Mem : Type 0 where
  pub bytes : List ℕ
  pub durable_size : ℕ
  pub openings : ℕ
  pub begun : Bool
  pub failing : List ℕ
  pub calls : ℕ
  pub faults : ℕ
  pub tails : List ℕ
  pub stops : ℕ

abbrev pub new_mem : List ℕ → List ℕ → Mem
new_mem failing tails = record { bytes = []; durable_size = 0; openings = 0; begun = false; failing = failing; calls = 0; faults = 0; tails = tails; stops = 0 }

-- The next call is one of those that fail. Calls after the last number have none.
abbrev pub FailsNext : Mem → Type 0
FailsNext m = (m.calls < 2 ^ 64 - 1) × Contains m.failing (m.calls + 1)

abbrev pub counted : ℕ → ℕ
counted n = min (n + 1) (2 ^ 64 - 1)

abbrev pub after_call : Mem → Mem
after_call m = record m { calls = counted m.calls }

abbrev pub after_fault : Mem → Mem
after_fault m = record m { calls = counted m.calls; faults = m.faults + 1 }

-- The effect of a call: a fault if it is one of those that fail; otherwise what it does, unless memory runs out.
abbrev pub IsCall : {X : Type 0} → Mem → (Mem → Mem) → Result X KeepFault → Mem → Type 0
IsCall old does (Ok x) new = (FailsNext old → ⊥) × (new ≡ does (after_call old))
IsCall old does (Err Failed) new = FailsNext old × (new ≡ after_fault old)
IsCall old does (Err NoMemory) new = (FailsNext old → ⊥) × (new ≡ after_call old)

abbrev pub begun_at : ℕ → Mem → Mem
begun_at size m = record m { bytes = take size m.bytes; durable_size = size; openings = m.openings + 1; begun = true }

abbrev pub appended : List ℕ → Mem → Mem
appended piece m = record m { bytes = m.bytes ++ piece }

abbrev pub synced : Mem → Mem
synced m = record m { durable_size = length m.bytes }

-- how many bytes the next stop leaves
abbrev pub left_by_stop : Mem → ℕ
left_by_stop m = min (length m.bytes) (m.durable_size + option_map_or (λ (tail : ℕ). tail) (slice_get m.tails m.stops) 0)

abbrev pub after_stop : Mem → Mem
after_stop m = record m { bytes = take (left_by_stop m) m.bytes; begun = false; stops = counted m.stops }

-- a keeper that never fails
pub record Steady : Type 0 where
  pub bytes : List ℕ
  pub durable_size : ℕ
  pub openings : ℕ
  pub begun : Bool

-- the effect of its calls: what a call does, unless memory runs out
abbrev pub IsSteadyCall : {X : Type 0} → Steady → Steady → Result X KeepFault → Steady → Type 0
IsSteadyCall old done (Ok x) new = new ≡ done
IsSteadyCall old done (Err Failed) new = ⊥
IsSteadyCall old done (Err NoMemory) new = new ≡ old
