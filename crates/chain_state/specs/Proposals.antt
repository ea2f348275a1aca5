-- Proposals along a chain of blocks, and its final list (Themis, CCS 2023), all computed from the lists of the
-- blocks.
use Rattle.std.specs.Prelude.{◌≡◌, ℕ, ◌<◌, ◌≤◌, List, [], ◌∷◌, ◌++◌, map, flat_map, length, take, Bool, if◌then◌else◌, All, Any, Contains, HoldsAt}
use Rattle.std.specs.List.{list_any}
use Rattle.seq_base.specs.declared.tx.Tx.{Tx}
use Rattle.seq_base.specs.Lists.{holds}
use Rattle.seq_base.specs.Setting.{Parameters}
use Rattle.majority_graph.specs.Graph.{Graph, IsComplete}
use Rattle.majority_graph.specs.Later.{first_edge}
use Rattle.batch_laws.specs.Reached.{batches_of}
use Rattle.fair_laws.specs.Kept.{kept_by}
use Rattle.fair_update.specs.Waiting.{waits, Waits, is_complete}
use Rattle.chain_state.specs.Lists.{BlockLists}

-- the graph of the edges from the first of these lists that gives one
abbrev pub graph_over : Parameters → List Tx → List (List (List Tx)) → Graph
graph_over s vertices blocks = record { vertices = vertices; edges = map (λ u. map (first_edge s blocks u) vertices) vertices }

-- Each block proposes what its fresh lists keep. The edge of a pair is the one that its fresh lists give, or else the
-- one from the late lists of the first later block that give one.
abbrev pub proposals : Parameters → List BlockLists → List Graph
proposals s [] = []
proposals s (b ∷ later) = graph_over s (kept_by s b.fresh) (b.fresh ∷ map (λ c. c.late) later) ∷ proposals s later

-- whether t is in a proposal of the chain
abbrev pub used_in : Parameters → List BlockLists → Tx → Bool
used_in s chain t = list_any (λ g. holds t g.vertices) (proposals s chain)

-- whether t belongs to a missing pair of the chain
abbrev pub waiting_in : Parameters → List BlockLists → Tx → Bool
waiting_in s chain t = list_any (λ g. waits g t) (proposals s chain)

-- the batches of graphs in order, up to but not including the first incomplete one
abbrev pub final_batches : List Graph → List (List Tx)
final_batches [] = []
final_batches (g ∷ gs) = if is_complete g then batches_of g ++ final_batches gs else []

-- the final list of a chain
abbrev pub final_of : Parameters → List BlockLists → List (List Tx)
final_of s chain = final_batches (proposals s chain)

-- batches concatenated
abbrev pub joined : List (List Tx) → List Tx
joined batches = flat_map (λ batch. batch) batches

-- the meaning of the functions above

-- t is in a proposal of the chain
abbrev pub IsUsed : Parameters → List BlockLists → Tx → Type 0
IsUsed s chain t = Any (λ g. Contains g.vertices t) (proposals s chain)

-- t belongs to a missing pair of the chain
abbrev pub IsWaiting : Parameters → List BlockLists → Tx → Type 0
IsWaiting s chain t = Any (λ g. Waits g t) (proposals s chain)

-- The first `many` graphs are complete, the next one is not, and the batches are theirs in order.
pub record AreFinalBatches (graphs : List Graph) (batches : List (List Tx)) (many : ℕ) : Type 0 where
  pub inside : many ≤ length graphs
  pub complete : All IsComplete (take many graphs)
  pub next : many < length graphs → HoldsAt (λ g. IsComplete g → ⊥) graphs many
  pub theirs : batches ≡ flat_map batches_of (take many graphs)
