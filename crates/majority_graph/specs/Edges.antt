-- The edge that the lists give to a pair of transactions (Themis, CCS 2023, the majority graph).
use Rattle.std.specs.Prelude.{ℕ, List, Bool, false, ◌&&◌, ◌||◌, ◌==◌, nat_lt, nat_le, if◌then◌else◌}
use Rattle.std.specs.Ordering.{is_lt}
use Rattle.seq_base.specs.declared.tx.Tx.{Tx}
use Rattle.seq_base.specs.Tx.{tx_cmp}
use Rattle.seq_base.specs.Setting.{Parameters, threshold_of}
use Rattle.majority_graph.specs.declared.edge.Edge.{Edge}
use Rattle.majority_graph.specs.declared.edge.Edge.TheVariants.{To, From, Missing}
use Rattle.majority_graph.specs.Weights.{weight}

-- The forward weight gives the edge where it reaches the threshold and exceeds the backward weight. At equal weights
-- that reach the threshold, the edge to the greater transaction is given.
abbrev pub outweighs : ℕ → ℕ → ℕ → Bool → Bool
outweighs threshold forward backward rises = nat_le threshold forward && (nat_lt backward forward || ((forward == backward) && rises))

-- whether the lists give the edge from u to v
abbrev pub gives_edge : Parameters → List (List Tx) → Tx → Tx → Bool
gives_edge s lists u v = outweighs (threshold_of s) (weight lists u v) (weight lists v u) (is_lt (tx_cmp u v))

-- the edge of a pair, seen from u
abbrev pub edge_between : Parameters → List (List Tx) → Tx → Tx → Edge
edge_between s lists u v = if gives_edge s lists u v then To else (if gives_edge s lists v u then From else Missing)

-- the same pair, seen from v
abbrev pub opposite_of : Edge → Edge
opposite_of To = From
opposite_of From = To
opposite_of Missing = Missing

-- the edge of these weights to a transaction that is greater (`rises`), or to itself
abbrev pub edge_upward : ℕ → ℕ → ℕ → Bool → Edge
edge_upward threshold forward backward rises =
    if outweighs threshold forward backward rises then To else (if outweighs threshold backward forward false then From else Missing)
