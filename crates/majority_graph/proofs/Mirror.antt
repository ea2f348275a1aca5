-- A row of the table of edges by places, whose first entries mirror the rows before it.
use Rattle.std.proofs.Common.{◌≡◌, ℕ, ◌<◌, ◌≤◌, List, [], ◌∷◌, length, get_or, map, take, Vec, Global, refl, sym, ap, subst, ◌∙◌, arith}
use Rattle.std.specs.Prelude.{All}
use Rattle.std.specs.Ordering.{is_lt}
use Rattle.std.proofs.lemmas.List.{get_or-map, length-map, length-take-le}
use Rattle.std.proofs.lemmas.List.Elements.{All-map}
use Rattle.seq_base.specs.Tx.{tx_cmp}
use Rattle.majority_graph.specs.declared.edge.Edge.{Edge}
use Rattle.majority_graph.specs.declared.edge.Edge.TheVariants.{Missing}
use Rattle.majority_graph.specs.declared.ranks.Ranked.{Ranked}
use Rattle.majority_graph.specs.Edges.{opposite_of, outweighs}
use Rattle.majority_graph.specs.Ranks.{AreRows, ahead, ranked_edge}
use Rattle.majority_graph.proofs.EdgeLaws.{not_both_outweigh, one_rises, seen_from_both}

ranked_opposite : (threshold : ℕ) (u v : Ranked) → opposite_of (ranked_edge threshold u v) ≡ ranked_edge threshold v u
ranked_opposite threshold u v =
    let forward : ℕ = ahead u.places.items v.places.items in
    let backward : ℕ = ahead v.places.items u.places.items in
    sym (seen_from_both (outweighs threshold backward forward (is_lt (tx_cmp v.tx u.tx))) (outweighs threshold forward backward (is_lt (tx_cmp u.tx v.tx)))
    (not_both_outweigh threshold backward forward (is_lt (tx_cmp v.tx u.tx)) (is_lt (tx_cmp u.tx v.tx)) (one_rises v.tx u.tx)))

mirror_is : (threshold : ℕ) (ranked us : List Ranked) (v : Ranked) (n : ℕ) → n < length ranked → get_or ranked n v ≡ v
    → map (λ (row : List Edge). opposite_of (get_or row n Missing)) (map (λ (u : Ranked). map (ranked_edge threshold u) ranked) us)
    ≡ map (ranked_edge threshold v) us
mirror_is threshold ranked [] v n inside here = refl
mirror_is threshold ranked (u ∷ us) v n inside here =
    let one : get_or (map (ranked_edge threshold u) ranked) n Missing ≡ ranked_edge threshold u v =
    get_or-map (ranked_edge threshold u) ranked n v Missing inside ∙ ap (ranked_edge threshold u) here in
    rw (one, ranked_opposite threshold u v, mirror_is threshold ranked us v n inside here) refl

-- the entries that mirror known rows
pub mirrored_are : (threshold : ℕ) (ranked : List Ranked) (rows : List (Vec Edge Global)) (row : List Edge) (v : Ranked) (n : ℕ)
    → n < length ranked → get_or ranked n v ≡ v → AreRows threshold ranked n rows
    → row ≡ map (λ (known : List Edge). opposite_of (get_or known n Missing)) (map (λ (known : Vec Edge Global). known.items) rows)
    → row ≡ map (ranked_edge threshold v) (take n ranked)
mirrored_are threshold ranked rows row v n inside here known is =
    is ∙ ap (map (λ (xs : List Edge). opposite_of (get_or xs n Missing))) known ∙ mirror_is threshold ranked (take n ranked) v n inside here

-- as many rows are known
pub rows_known : (threshold : ℕ) (ranked : List Ranked) (rows : List (Vec Edge Global)) (n : ℕ) → n ≤ length ranked
    → AreRows threshold ranked n rows → length rows ≡ n
rows_known threshold ranked rows n inside known =
    sym (length-map rows (λ (row : Vec Edge Global). row.items)) ∙ ap length known
    ∙ length-map (take n ranked) (λ (u : Ranked). map (ranked_edge threshold u) ranked) ∙ length-take-le n ranked inside

-- each of them has an entry for each vertex
pub rows_long : (threshold : ℕ) (ranked : List Ranked) (rows : List (Vec Edge Global)) (n : ℕ) → n < length ranked → AreRows threshold ranked n rows
    → All (λ (row : List Edge). n < length row) (map (λ (row : Vec Edge Global). row.items) rows)
rows_long threshold ranked rows n inside known =
    subst (All (λ (row : List Edge). n < length row)) (sym known)
    (All-map (λ (row : List Edge). n < length row) (λ (u : Ranked). map (ranked_edge threshold u) ranked) (take n ranked)
    (λ k d within. omega (arith, inside, length-map ranked (ranked_edge threshold (get_or (take n ranked) k d)))))
