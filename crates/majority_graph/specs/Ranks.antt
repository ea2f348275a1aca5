-- Transactions looked up in lists.
use Rattle.std.specs.Prelude.{◌≡◌, ℕ, List, take, map, count_by, nat_lt, slice_index, if◌then◌else◌, Vec}
use Rattle.std.specs.declared.alloc.Global.{Global}
use Rattle.std.specs.List.{position_or_len, range_with_len, zip}
use Rattle.std.specs.Ordering.{is_lt}
use Rattle.seq_base.specs.declared.tx.Tx.{Tx}
use Rattle.seq_base.specs.Tx.{tx_eq, tx_cmp}
use Rattle.majority_graph.specs.declared.edge.Edge.{Edge}
use Rattle.majority_graph.specs.declared.edge.Edge.TheVariants.{To, From, Missing}
use Rattle.majority_graph.specs.declared.ranks.Ranked.{Ranked}
use Rattle.majority_graph.specs.Edges.{edge_upward, outweighs}

-- the place of a transaction in a list, or the list's length
abbrev pub place : Tx → List Tx → ℕ
place t list = position_or_len (λ x. tx_eq x t) list

-- the transaction looked up in each list
abbrev pub IsRanked : List (List Tx) → Ranked → Type 0
IsRanked lists r = r.places.items ≡ map (place r.tx) lists

-- the number of lists in which the first place is before the second
abbrev pub ahead : List ℕ → List ℕ → ℕ
ahead ps qs = count_by (λ p. nat_lt p.0 p.1) (zip ps qs)

-- the edge by places
abbrev pub ranked_edge : ℕ → Ranked → Ranked → Edge
ranked_edge threshold u v =
    if outweighs threshold (ahead u.places.items v.places.items) (ahead v.places.items u.places.items) (is_lt (tx_cmp u.tx v.tx)) then To
    else (if outweighs threshold (ahead v.places.items u.places.items) (ahead u.places.items v.places.items) (is_lt (tx_cmp v.tx u.tx)) then From else Missing)

-- the places of all transactions in one list
abbrev pub column_of : List Ranked → ℕ → List ℕ
column_of ranked list = map (λ r. slice_index r.places.items list) ranked

-- the same for each list
abbrev pub columns_by_list : List Ranked → ℕ → List (List ℕ)
columns_by_list ranked lists = map (column_of ranked) (range_with_len 0 lists)

-- the number of lists in which the first transaction's place is before the second's
abbrev pub columns_ahead : List (List ℕ) → ℕ → ℕ → ℕ
columns_ahead columns u v = count_by (λ column. nat_lt (slice_index column u) (slice_index column v)) columns

-- the edge of u to v, where v is u or comes after it
abbrev pub column_edge : ℕ → List (List ℕ) → ℕ → ℕ → Edge
column_edge threshold columns u v = edge_upward threshold (columns_ahead columns u v) (columns_ahead columns v u) (nat_lt u v)

-- the first rows of the table of edges by places
abbrev pub AreRows : ℕ → List Ranked → ℕ → List (Vec Edge Global) → Type 0
AreRows threshold ranked count rows = map (λ row. row.items) rows ≡ map (λ from. map (ranked_edge threshold from) ranked) (take count ranked)
