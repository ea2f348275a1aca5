-- The sealers of a kit, as a run sees them.
use Rattle.std.specs.Prelude.{ℕ, List, map}
use Rattle.std.specs.List.{range_with_len}
use Rattle.fault_script.specs.Sealing.{Signer, signer}
use Rattle.node_core.specs.Reported.{Gives}

-- one for each of n replicas, which has made nothing yet
abbrev pub kit_of : (ℕ → Gives) → ℕ → ℕ → List Signer
kit_of gives capacity n = map (λ r. signer r capacity (gives r) 0) (range_with_len 0 n)
