-- Why a proposal has no batches.
use Rattle.std.specs.Prelude.{◌≡◌, ℕ, Some, slice_get}
use Rattle.seq_base.specs.declared.tx.Tx.{Tx}
use Rattle.majority_graph.specs.Graph.{Graph, IsComplete, IsFirstMissing}
use Rattle.fair_finalize.specs.declared.finalizing.FinalFault.{FinalFault}
use Rattle.fair_finalize.specs.declared.finalizing.FinalFault.TheVariants.{Incomplete, NoMemory}

-- these two transactions are the least missing pair
abbrev pub IsLeastMissing : Graph → Tx → Tx → Type 0
IsLeastMissing g u v = (x y : ℕ) × IsFirstMissing g x y × (slice_get g.vertices x ≡ Some u) × (slice_get g.vertices y ≡ Some v)

-- the cause of each fault: a pair is missing, or the proposal is complete and memory ran out
abbrev pub HasCause : Graph → FinalFault → Type 0
HasCause g (Incomplete u v) = IsLeastMissing g u v
HasCause g NoMemory = IsComplete g
