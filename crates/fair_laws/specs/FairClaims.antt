-- Abbreviations that the clauses of this crate's laws share: premises and claims.
use Rattle.std.specs.Prelude.{◌≡◌, ◌≢◌, ◌⊎◌, ◌↔◌, ℕ, ◌+◌, ◌<◌, ◌≤◌, List, Bool, true, false, length, Some, slice_get, slice_index_or, All}
use Rattle.seq_base.specs.declared.tx.Tx.{Tx}
use Rattle.seq_base.specs.Setting.{Parameters, IsValid, threshold_of}
use Rattle.majority_graph.specs.declared.edge.Edge.{Edge}
use Rattle.majority_graph.specs.declared.edge.Edge.TheVariants.{To, Missing}
use Rattle.majority_graph.specs.Edges.{edge_between}
use Rattle.majority_graph.specs.Graph.{Graph, IsComplete, HasEdge, edge_at, graph_of}
use Rattle.majority_graph.specs.Later.{or_edge, HasFirstEdges}
use Rattle.majority_graph.specs.Walks.{Walks}
use Rattle.batch_laws.specs.Batches.{IsNumbering, AreBatches}
use Rattle.batch_laws.specs.Pairs.{WherePlaced}
use Rattle.fair_laws.specs.Kept.{IsSolid, IsKept, AreCandidates, AreKept}
use Rattle.fair_laws.specs.Earlier.{IsOwed, without_earlier}

-- ---- two transactions

-- the claim, where fairness requires something for a against b, in a valid setting
abbrev pub WhereOwed : Parameters → List (List Tx) → Tx → Tx → Type 0 → Type 0
WhereOwed s lists a b claim = IsValid s → IsOwed s lists a b → claim

-- the claim, where b is kept, and b is solid or a is kept too
abbrev pub WhereKeptFirmly : Parameters → List (List Tx) → Tx → Tx → Type 0 → Type 0
WhereKeptFirmly s lists a b claim = IsKept s lists b → IsSolid s lists b ⊎ IsKept s lists a → claim

-- where that is so, a is kept
abbrev pub IsKeptFirst : Parameters → List (List Tx) → Tx → Tx → Type 0
IsKeptFirst s lists a b = WhereKeptFirmly s lists a b (IsKept s lists a)

-- fewer lists than the threshold hold b without an earlier a
abbrev pub FewTurnRound : Parameters → List (List Tx) → Tx → Tx → Type 0
FewTurnRound s lists a b = without_earlier lists b a < threshold_of s

-- the same for each block's lists
abbrev pub FewInEach : Parameters → List (List (List Tx)) → Tx → Tx → Type 0
FewInEach s blocks a b = All (λ lists. FewTurnRound s lists a b) blocks

-- the edge leads forward, if there is one
abbrev pub LeadsForwardIfAny : Edge → Type 0
LeadsForwardIfAny edge = edge ≢ Missing → edge ≡ To

-- ---- the graph that lists give over transactions

-- a walk leads from one vertex to another
abbrev pub HasWalk : Parameters → List (List Tx) → List Tx → ℕ → ℕ → Type 0
HasWalk s lists txs u v = Walks (HasEdge (graph_of s lists txs)) u v

-- the claim, where all that is kept has a complete graph, and these are its batches
abbrev pub WhereKeptBatches : Parameters → List (List Tx) → List Tx → List (List Tx) → Type 0 → Type 0
WhereKeptBatches s lists kept batches claim =
    AreKept s lists kept → IsComplete (graph_of s lists kept) → AreBatches (graph_of s lists kept) batches → claim

-- the claim, where all that is kept is at most 2,048, and has a complete graph with a numbering along its edges
abbrev pub WhereKeptNumbered : Parameters → List (List Tx) → List Tx → (ℕ → ℕ) → Type 0 → Type 0
WhereKeptNumbered s lists kept number claim =
    AreKept s lists kept → length kept ≤ 2048 → IsComplete (graph_of s lists kept) → IsNumbering (graph_of s lists kept) number → claim

-- where a is at u and b at v, a's number is at most b's
abbrev pub NumberedInOrder : List Tx → (ℕ → ℕ) → ℕ → ℕ → Tx → Tx → Type 0
NumberedInOrder txs number u v a b = WherePlaced txs u v a b (number u ≤ number v)

-- the claim, where these are all that are not blank, and at most 2,048
abbrev pub WhereFewCandidates : Parameters → List (List Tx) → List Tx → Type 0 → Type 0
WhereFewCandidates s lists txs claim = AreCandidates s lists txs → length txs ≤ 2048 → claim

-- the claim, where they are numbered along the edges of their graph, in a valid setting
abbrev pub WhereNumbered : Parameters → List (List Tx) → List Tx → (ℕ → ℕ) → Type 0 → Type 0
WhereNumbered s lists txs number claim = IsValid s → WhereFewCandidates s lists txs (IsNumbering (graph_of s lists txs) number → claim)

-- ---- up to the last solid transaction

-- the number of u is at most that of a solid transaction
abbrev pub IsUpToSolid : Parameters → List (List Tx) → List Tx → (ℕ → ℕ) → ℕ → Type 0
IsUpToSolid s lists txs number u = (v : ℕ) × (b : Tx) × (slice_get txs v ≡ Some b) × IsSolid s lists b × (number u ≤ number v)

-- where a is at u, it is kept exactly where that is so
abbrev pub IsKeptUpToSolid : Parameters → List (List Tx) → List Tx → (ℕ → ℕ) → ℕ → Tx → Type 0
IsKeptUpToSolid s lists txs number u a = slice_get txs u ≡ Some a → IsKept s lists a ↔ IsUpToSolid s lists txs number u

-- the number of each solid transaction is below `last`
abbrev pub SolidAreBelow : Parameters → List (List Tx) → List Tx → (ℕ → ℕ) → ℕ → Type 0
SolidAreBelow s lists txs number last = (v : ℕ) (b : Tx) → slice_get txs v ≡ Some b → IsSolid s lists b → number v < last

-- a solid transaction has the number just below `last`, or `last` is 0
abbrev pub IsAfterSolid : Parameters → List (List Tx) → List Tx → (ℕ → ℕ) → ℕ → Type 0
IsAfterSolid s lists txs number last =
    (last ≡ 0) ⊎ ((v : ℕ) × (b : Tx) × (slice_get txs v ≡ Some b) × IsSolid s lists b × (number v + 1 ≡ last))

-- the claim, where they are so numbered, and `last` is one more than the last number of a solid one, or 0 where none
-- is solid
abbrev pub WhereLast : Parameters → List (List Tx) → List Tx → (ℕ → ℕ) → ℕ → Type 0 → Type 0
WhereLast s lists txs number last claim =
    WhereNumbered s lists txs number (SolidAreBelow s lists txs number last → IsAfterSolid s lists txs number last → claim)

-- exactly those of the transactions that are kept are wanted
abbrev pub KeptAreWanted : Parameters → List (List Tx) → List Tx → List Bool → Type 0
KeptAreWanted s lists txs wanted = (k : ℕ) (t : Tx) → slice_get txs k ≡ Some t → (slice_index_or wanted k false ≡ true) ↔ IsKept s lists t

-- ---- edges of later blocks

-- the claim, where the graph has the first edges that the blocks give, and none is missing
abbrev pub WhereComplete : Parameters → List (List (List Tx)) → Graph → Type 0 → Type 0
WhereComplete s blocks g claim = HasFirstEdges s blocks g → IsComplete g → claim

-- the claim, where these are also its batches
abbrev pub WhereBatches : Parameters → List (List (List Tx)) → Graph → List (List Tx) → Type 0 → Type 0
WhereBatches s blocks g batches claim = WhereComplete s blocks g (AreBatches g batches → claim)

-- each edge is the old one, or where that is missing the one that the late lists give
abbrev pub LateGiveMissing : Parameters → List (List Tx) → Graph → Graph → Type 0
LateGiveMissing s late old new = (u v : ℕ) (a b : Tx) → WherePlaced old.vertices u v a b (edge_at new u v ≡ or_edge (edge_at old u v) (edge_between s late a b))

-- the claim, where a new graph over the old vertices has such edges
abbrev pub WhereLateGive : Parameters → List (List Tx) → Graph → Graph → Type 0 → Type 0
WhereLateGive s late old new claim = new.vertices ≡ old.vertices → LateGiveMissing s late old new → claim
