-- The weight by places is the weight by the lists.
use Rattle.std.proofs.Common.{◌≡◌, ℕ, ◌+◌, ◌<◌, List, [], ◌∷◌, ◌++◌, length, get_or, map, take, Vec, Global, Bool, cond, refl, sym, ap, ◌∙◌, inl, inr, arith, ltb}
use Rattle.std.specs.Prelude.{All}
use Rattle.std.specs.List.{zip, AllByRecursion}
use Rattle.std.proofs.lemmas.Bool.{cases_Bool, lt-ltb, le-ltb}
use Rattle.std.proofs.lemmas.List.Sums.{sum_by-cons}
use Rattle.std.proofs.lemmas.List.{get_or-map, length-map, map-append, map_more, take_more}
use Rattle.std.proofs.lemmas.List.Elements.{All-map, All-push, recursion_from_All}
use Rattle.std.proofs.lemmas.Bool.Decides.{nat_tests}
use Rattle.seq_base.specs.declared.tx.Tx.{Tx}
use Rattle.seq_base.specs.Tx.{tx_eq}
use Rattle.seq_base.specs.Setting.{Parameters, threshold_of}
use Rattle.majority_graph.specs.declared.ranks.Ranked.{Ranked}
use Rattle.majority_graph.specs.Edges.{edge_between}
use Rattle.majority_graph.specs.Ranks.{place, ahead, IsRanked, ranked_edge}
use Rattle.majority_graph.specs.Weights.{ranks_above, weight}

ltb_next : (a b : ℕ) → ltb (1 + a) (1 + b) ≡ ltb a b
ltb_next a b = grind (arith, nat_tests)

-- in one list, the lesser place belongs to the transaction that is found first
place_before : (u v : Tx) (xs : List Tx) → ltb (place u xs) (place v xs) ≡ ranks_above u v xs
place_before u v [] = refl
place_before u v (x ∷ xs) =
    elim (cases_Bool (tx_eq x v)) [
      | inl is_v ↦ rw is_v (le-ltb (place u (x ∷ xs)) 0 (omega arith))
      | inr not_v ↦ elim (cases_Bool (tx_eq x u)) [
        | inl is_u ↦ rw (not_v, is_u) (lt-ltb 0 (1 + place v xs) (omega arith))
        | inr not_u ↦ rw (not_v, not_u) (ltb_next (place u xs) (place v xs) ∙ place_before u v xs)
      ]
    ]

-- in all lists
pub ahead_is_weight : (lists : List (List Tx)) (u v : Tx) → ahead (map (place u) lists) (map (place v) lists) ≡ weight lists u v
ahead_is_weight [] u v = refl
ahead_is_weight (xs ∷ lists) u v =
    let rest : ahead (map (place u) lists) (map (place v) lists) ≡ weight lists u v = ahead_is_weight lists u v in
    let one : cond (ltb (place u xs) (place v xs)) 1 0 ≡ cond (ranks_above u v xs) 1 0 = ap (λ (b : Bool). cond b 1 0) (place_before u v xs) in
    let left : ahead (map (place u) (xs ∷ lists)) (map (place v) (xs ∷ lists))
    ≡ cond (ltb (place u xs) (place v xs)) 1 0 + ahead (map (place u) lists) (map (place v) lists) =
    sum_by-cons (λ (p : ℕ × ℕ). cond (ltb p.0 p.1) 1 0) (place u xs, place v xs) (zip (map (place u) lists) (map (place v) lists)) in
    let right : weight (xs ∷ lists) u v ≡ cond (ranks_above u v xs) 1 0 + weight lists u v =
    sum_by-cons (λ (x : List Tx). cond (ranks_above u v x) 1 0) xs lists in
    left ∙ ap (λ (n : ℕ). n + ahead (map (place u) lists) (map (place v) lists)) one ∙ ap (λ (n : ℕ). cond (ranks_above u v xs) 1 0 + n) rest ∙ sym right

pub ranked_edge_is : (s : Parameters) (lists : List (List Tx)) (u v : Ranked) → IsRanked lists u → IsRanked lists v
    → ranked_edge (threshold_of s) u v ≡ edge_between s lists u.tx v.tx
ranked_edge_is s lists u v ranked_u ranked_v = rw (ranked_u, ranked_v, ahead_is_weight lists u.tx v.tx, ahead_is_weight lists v.tx u.tx) refl

-- all pairs of the transactions looked up
row_is : (s : Parameters) (lists : List (List Tx)) (u : Ranked) (rs : List Ranked) → IsRanked lists u → AllByRecursion (IsRanked lists) rs
    → map (ranked_edge (threshold_of s) u) rs ≡ map (edge_between s lists u.tx) (map (λ (r : Ranked). r.tx) rs)
row_is s lists u [] ranked all = refl
row_is s lists u (r ∷ rs) ranked all = rw (ranked_edge_is s lists u r ranked all.0, row_is s lists u rs ranked all.1) refl

rows_are : (s : Parameters) (lists : List (List Tx)) (us rs : List Ranked) → AllByRecursion (IsRanked lists) us → AllByRecursion (IsRanked lists) rs
    → map (λ (u : Ranked). map (ranked_edge (threshold_of s) u) rs) us
    ≡ map (λ (u : Tx). map (edge_between s lists u) (map (λ (r : Ranked). r.tx) rs)) (map (λ (r : Ranked). r.tx) us)
rows_are s lists [] rs all each = refl
rows_are s lists (u ∷ us) rs all each = rw (row_is s lists u rs all.0 each, rows_are s lists us rs all.1 each) refl

pub table_is : (s : Parameters) (lists : List (List Tx)) (vertices : List Tx) (rs : List Ranked) → All (IsRanked lists) rs
    → map (λ (r : Ranked). r.tx) rs ≡ vertices
    → map (λ (u : Ranked). map (ranked_edge (threshold_of s) u) rs) rs ≡ map (λ (u : Tx). map (edge_between s lists u) vertices) vertices
table_is s lists vertices rs all txs =
    let each : AllByRecursion (IsRanked lists) rs = recursion_from_All (IsRanked lists) rs all in
    rw (← txs) (rows_are s lists rs rs each each)

-- the places of one transaction, taken from those of all
pub row_of_columns : (lists : List (List Tx)) (txs : List Tx) (at : ℕ) (t d : Tx) → at < length txs → get_or txs at d ≡ t
    → map (λ (column : List ℕ). get_or column at 0) (map (λ (list : List Tx). map (λ (u : Tx). place u list) txs) lists) ≡ map (place t) lists
row_of_columns [] txs at t d inside here = refl
row_of_columns (list ∷ lists) txs at t d inside here =
    let one : get_or (map (λ (u : Tx). place u list) txs) at 0 ≡ place t list = get_or-map (λ (u : Tx). place u list) txs at d 0 inside
    ∙ ap (λ (u : Tx). place u list) here in
    rw (one, row_of_columns lists txs at t d inside here) refl

-- each list has a place for each transaction
pub columns_long : (lists : List (List Tx)) (txs : List Tx) (at : ℕ) → at < length txs
    → All (λ (column : List ℕ). at < length column) (map (λ (list : List Tx). map (λ (u : Tx). place u list) txs) lists)
columns_long lists txs at inside =
    All-map (λ (column : List ℕ). at < length column) (λ (list : List Tx). map (λ (u : Tx). place u list) txs) lists
    (λ k d within. omega (arith, inside, length-map txs (λ (u : Tx). place u (get_or lists k d))))

-- one more list
pub columns_more : (lists : List (List Tx)) (txs : List Tx) (at : ℕ) (list : List Tx) (columns : List (Vec ℕ Global)) (column : Vec ℕ Global)
    → at < length lists → list ≡ get_or lists at list
    → column.items ≡ map (λ (t : Tx). place t list) txs
    → map (λ (c : Vec ℕ Global). c.items) columns ≡ map (λ (xs : List Tx). map (λ (t : Tx). place t xs) txs) (take at lists)
    → map (λ (c : Vec ℕ Global). c.items) (columns ++ column ∷ []) ≡ map (λ (xs : List Tx). map (λ (t : Tx). place t xs) txs) (take (at + 1) lists)
columns_more lists txs at list columns column inside read is before =
    map-append (λ (c : Vec ℕ Global). c.items) columns (column ∷ [])
    ∙ ap (λ (xs : List (List ℕ)). xs ++ column.items ∷ []) before
    ∙ ap (λ (x : List ℕ). map (λ (xs : List Tx). map (λ (t : Tx). place t xs) txs) (take at lists) ++ x ∷ [])
    (is ∙ ap (λ (xs : List Tx). map (λ (t : Tx). place t xs) txs) read)
    ∙ sym (map_more (λ (xs : List Tx). map (λ (t : Tx). place t xs) txs) lists at list inside)

-- one more transaction
pub ranked_more : (lists : List (List Tx)) (txs : List Tx) (at : ℕ) (d : Tx) (ranked : List Ranked) (places : Vec ℕ Global)
    → at < length txs → places.items ≡ map (place (get_or txs at d)) lists
    → map (λ (r : Ranked). r.tx) ranked ≡ take at txs → All (IsRanked lists) ranked
    → (map (λ (r : Ranked). r.tx) (ranked ++ record { tx = get_or txs at d; places = places } ∷ []) ≡ take (at + 1) txs)
    × All (IsRanked lists) (ranked ++ record { tx = get_or txs at d; places = places } ∷ [])
ranked_more lists txs at d ranked places inside is before all = (
  map-append (λ (r : Ranked). r.tx) ranked (record { tx = get_or txs at d; places = places } ∷ [])
      ∙ ap (λ (xs : List Tx). xs ++ get_or txs at d ∷ []) before
      ∙ sym (take_more txs at d inside),
  All-push (IsRanked lists) ranked (record { tx = get_or txs at d; places = places }) all is,
)
