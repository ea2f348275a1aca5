-- Pairs of vertices and of transactions: claims about them, and their positions in batches.
use Rattle.std.specs.Prelude.{◌≡◌, ℕ, ◌<◌, ◌≤◌, List, length, Some, slice_get}
use Rattle.seq_base.specs.declared.tx.Tx.{Tx}
use Rattle.majority_graph.specs.Graph.{Graph}
use Rattle.batch_laws.specs.Batches.{StandsIn}

-- the claim, where u and v are vertices of the graph
abbrev pub WhereVertices : Graph → ℕ → ℕ → Type 0 → Type 0
WhereVertices g u v claim = u < length g.vertices → v < length g.vertices → claim

-- the claim, where a is the transaction at u and b that at v
abbrev pub WherePlaced : List Tx → ℕ → ℕ → Tx → Tx → Type 0 → Type 0
WherePlaced txs u v a b claim = slice_get txs u ≡ Some a → slice_get txs v ≡ Some b → claim

-- a is in the batch of number j or in an earlier one
abbrev pub StandsUpTo : List (List Tx) → ℕ → Tx → Type 0
StandsUpTo batches j a = (i : ℕ) × StandsIn batches i a × (i ≤ j)

-- a and b are in batches, and a's batch is b's or an earlier one
abbrev pub StandInOrder : List (List Tx) → Tx → Tx → Type 0
StandInOrder batches a b = (i j : ℕ) × StandsIn batches i a × StandsIn batches j b × (i ≤ j)

-- wherever the two are, a's batch is b's or an earlier one
abbrev pub AreInOrder : List (List Tx) → ℕ → ℕ → Tx → Tx → Type 0
AreInOrder batches i j a b = StandsIn batches i a → StandsIn batches j b → i ≤ j

-- no transaction is in two of them
abbrev pub IsInOne : List (List Tx) → ℕ → ℕ → Tx → Type 0
IsInOne batches i j t = StandsIn batches i t → StandsIn batches j t → i ≡ j
