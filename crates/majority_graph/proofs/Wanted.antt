-- Keeping the wanted items of a list, and the wanted vertices of a graph.
use Rattle.std.proofs.Common.{◌≡◌, ℕ, zero, suc, ◌+◌, ◌<◌, ◌≤◌, List, [], ◌∷◌, ◌++◌, length, get_or, take, map, Bool, true, false, cond, refl, sym, ap, ◌∙◌, arith, add-one, Vec, Global}
use Rattle.std.specs.Prelude.{All}
use Rattle.majority_graph.proofs.Rows.{table_of, row_at}
use Rattle.std.specs.List.{AllByRecursion}
use Rattle.std.specs.List.Sorted.{IsStrictlySortedBy}
use Rattle.std.specs.declared.cmp.Ordering.TheVariants.{Less}
use Rattle.std.proofs.lemmas.List.{get_or-map, length-map, take-map, map_push}
use Rattle.std.proofs.lemmas.List.Elements.{recursion_from_All, All-from_recursion, All-get_or, All-map, All-weaker}
use Rattle.seq_base.specs.declared.tx.Tx.{Tx}
use Rattle.seq_base.specs.Tx.{tx_cmp}
use Rattle.majority_graph.specs.declared.edge.Edge.{Edge}
use Rattle.majority_graph.specs.declared.edge.Edge.TheVariants.{Missing}
use Rattle.majority_graph.specs.Edges.{opposite_of}
use Rattle.majority_graph.specs.Graph.{Graph, IsGraph, edge_at, wanted_of, kept_of}

-- one more item
pub wanted_more : {X : Type 0} (ws : List Bool) (xs : List X) (i : ℕ) (d : X) → i < length ws → i < length xs
    → wanted_of (take (suc i) ws) (take (suc i) xs) ≡ wanted_of (take i ws) (take i xs) ++ cond (get_or ws i false) (get_or xs i d ∷ []) []
wanted_more [] xs i d w x = absurd (omega arith)
wanted_more (b ∷ ws) [] i d w x = absurd (omega arith)
wanted_more (true ∷ ws) (x ∷ xs) zero d w l = refl
wanted_more (false ∷ ws) (x ∷ xs) zero d w l = refl
wanted_more (true ∷ ws) (x ∷ xs) (suc i) d w l = ap (λ ys. x ∷ ys) (wanted_more ws xs i d (omega arith) (omega arith))
wanted_more (false ∷ ws) (x ∷ xs) (suc i) d w l = wanted_more ws xs i d (omega arith) (omega arith)

pub wanted_yes : {X : Type 0} (ws : List Bool) (xs : List X) (i : ℕ) (d : X) → i < length ws → i < length xs → get_or ws i false ≡ true
    → wanted_of (take (i + 1) ws) (take (i + 1) xs) ≡ wanted_of (take i ws) (take i xs) ++ get_or xs i d ∷ []
wanted_yes ws xs i d w x is = rw add-one (wanted_more ws xs i d w x ∙ rw is refl)

wanted_skip : {X : Type 0} (ws : List Bool) (xs : List X) (i : ℕ) → i < length ws → get_or ws i false ≡ false
    → wanted_of (take (suc i) ws) (take (suc i) xs) ≡ wanted_of (take i ws) (take i xs)
wanted_skip [] xs i w is = absurd (omega arith)
wanted_skip (true ∷ ws) xs zero w is = absurd (cc)
wanted_skip (false ∷ ws) [] zero w is = refl
wanted_skip (false ∷ ws) (x ∷ xs) zero w is = refl
wanted_skip (b ∷ ws) [] (suc i) w is = refl
wanted_skip (true ∷ ws) (x ∷ xs) (suc i) w is = ap (λ ys. x ∷ ys) (wanted_skip ws xs i (omega arith) is)
wanted_skip (false ∷ ws) (x ∷ xs) (suc i) w is = wanted_skip ws xs i (omega arith) is

pub wanted_no : {X : Type 0} (ws : List Bool) (xs : List X) (i : ℕ) → i < length ws → get_or ws i false ≡ false
    → wanted_of (take (i + 1) ws) (take (i + 1) xs) ≡ wanted_of (take i ws) (take i xs)
wanted_no ws xs i w is = rw add-one (wanted_skip ws xs i w is)

pub map-wanted_of : {X Y : Type 0} (f : X → Y) (ws : List Bool) (xs : List X) → map f (wanted_of ws xs) ≡ wanted_of ws (map f xs)
map-wanted_of f [] xs = refl
map-wanted_of f (b ∷ ws) [] = refl
map-wanted_of f (true ∷ ws) (x ∷ xs) = ap (λ ys. f x ∷ ys) (map-wanted_of f ws xs)
map-wanted_of f (false ∷ ws) (x ∷ xs) = map-wanted_of f ws xs

pub length-wanted_of-le : {X : Type 0} (ws : List Bool) (xs : List X) → length (wanted_of ws xs) ≤ length xs
length-wanted_of-le [] xs = omega arith
length-wanted_of-le (b ∷ ws) [] = omega arith
length-wanted_of-le (true ∷ ws) (x ∷ xs) = omega (arith, length-wanted_of-le ws xs)
length-wanted_of-le (false ∷ ws) (x ∷ xs) = omega (arith, length-wanted_of-le ws xs)

-- equally many are wanted of lists of the same length
pub length-wanted_of : {X Y : Type 0} (ws : List Bool) (xs : List X) (ys : List Y) → length xs ≡ length ys → length (wanted_of ws xs) ≡ length (wanted_of ws ys)
length-wanted_of [] xs ys e = refl
length-wanted_of (b ∷ ws) [] [] e = refl
length-wanted_of (b ∷ ws) [] (y ∷ ys) e = absurd (omega arith)
length-wanted_of (b ∷ ws) (x ∷ xs) [] e = absurd (omega arith)
length-wanted_of (true ∷ ws) (x ∷ xs) (y ∷ ys) e = ap suc (length-wanted_of ws xs ys (omega arith))
length-wanted_of (false ∷ ws) (x ∷ xs) (y ∷ ys) e = length-wanted_of ws xs ys (omega arith)

all_wanted : {X : Type 0} (P : X → Type 0) (ws : List Bool) (xs : List X) → AllByRecursion P xs → AllByRecursion P (wanted_of ws xs)
all_wanted P [] xs all = tt
all_wanted P (b ∷ ws) [] all = tt
all_wanted P (true ∷ ws) (x ∷ xs) all = (all.0, all_wanted P ws xs all.1)
all_wanted P (false ∷ ws) (x ∷ xs) all = all_wanted P ws xs all.1

pub All-wanted_of : {X : Type 0} (P : X → Type 0) (ws : List Bool) (xs : List X) → All P xs → All P (wanted_of ws xs)
All-wanted_of P ws xs all = All-from_recursion P (wanted_of ws xs) (all_wanted P ws xs (recursion_from_All P xs all))

wanted_rise : (ws : List Bool) (xs : List Tx) → IsStrictlySortedBy tx_cmp xs → IsStrictlySortedBy tx_cmp (wanted_of ws xs)
unfolding IsStrictlySortedBy
wanted_rise [] xs ascending = tt
wanted_rise (b ∷ ws) [] ascending = tt
wanted_rise (true ∷ ws) (x ∷ xs) ascending = (all_wanted (λ (y : Tx). tx_cmp x y ≡ Less) ws xs ascending.0, wanted_rise ws xs ascending.1)
wanted_rise (false ∷ ws) (x ∷ xs) ascending = wanted_rise ws xs ascending.1

-- the position of the wanted item of a number
source : List Bool → ℕ → ℕ
source [] i = i
source (true ∷ ws) zero = zero
source (true ∷ ws) (suc i) = suc (source ws i)
source (false ∷ ws) i = suc (source ws i)

get_or-wanted_of : {X : Type 0} (ws : List Bool) (xs : List X) (i : ℕ) (d : X) → i < length (wanted_of ws xs)
    → (get_or (wanted_of ws xs) i d ≡ get_or xs (source ws i) d) × (source ws i < length xs)
unfolding source
get_or-wanted_of [] xs i d inside = absurd (omega arith)
get_or-wanted_of (b ∷ ws) [] i d inside = absurd (omega arith)
get_or-wanted_of (true ∷ ws) (x ∷ xs) zero d inside = (refl, (omega arith))
get_or-wanted_of (true ∷ ws) (x ∷ xs) (suc i) d inside =
    let rest : (get_or (wanted_of ws xs) i d ≡ get_or xs (source ws i) d) × (source ws i < length xs) = get_or-wanted_of ws xs i d (omega arith) in
    (rest.0, (omega (arith, rest.1)))
get_or-wanted_of (false ∷ ws) (x ∷ xs) i d inside =
    let rest : (get_or (wanted_of ws xs) i d ≡ get_or xs (source ws i) d) × (source ws i < length xs) = get_or-wanted_of ws xs i d inside in
    (rest.0, (omega (arith, rest.1)))

-- the rows that are kept, after one more row
pub row_kept : (ws : List Bool) (rows kept grown : List (Vec Edge Global)) (at : ℕ) (row new : Vec Edge Global)
    → at < length ws → at < length rows → get_or ws at false ≡ true → row ≡ get_or rows at row → grown ≡ kept ++ new ∷ [] → new.items ≡ wanted_of ws row.items
    → table_of kept ≡ map (wanted_of ws) (wanted_of (take at ws) (table_of (take at rows)))
    → table_of grown ≡ map (wanted_of ws) (wanted_of (take (at + 1) ws) (table_of (take (at + 1) rows)))
row_kept ws rows kept grown at row new w r is read more new_is before =
    let f : Vec Edge Global → List Edge = λ v. v.items in
    let inside : at < length (table_of rows) = rw length-map r in
    let left : table_of grown ≡ table_of kept ++ new.items ∷ [] = ap table_of more ∙ map_push f kept new in
    let step : wanted_of (take (at + 1) ws) (table_of (take (at + 1) rows)) ≡ wanted_of (take at ws) (table_of (take at rows)) ++ row.items ∷ [] =
    rw (← take-map f (at + 1) rows, ← take-map f at rows, ← row_at rows at row r read) (wanted_yes ws (table_of rows) at [] w inside is) in
    let right : map (wanted_of ws) (wanted_of (take (at + 1) ws) (table_of (take (at + 1) rows)))
    ≡ map (wanted_of ws) (wanted_of (take at ws) (table_of (take at rows))) ++ wanted_of ws row.items ∷ [] =
    ap (λ (t : List (List Edge)). map (wanted_of ws) t) step
    ∙ map_push (λ (r : List Edge). wanted_of ws r) (wanted_of (take at ws) (table_of (take at rows))) row.items in
    left ∙ ap (λ (t : List (List Edge)). t ++ new.items ∷ []) before
    ∙ ap (λ (r : List Edge). map (wanted_of ws) (wanted_of (take at ws) (table_of (take at rows))) ++ r ∷ []) new_is ∙ sym right

pub row_left : (ws : List Bool) (rows kept : List (Vec Edge Global)) (at : ℕ) → at < length ws → get_or ws at false ≡ false
    → table_of kept ≡ map (wanted_of ws) (wanted_of (take at ws) (table_of (take at rows)))
    → table_of kept ≡ map (wanted_of ws) (wanted_of (take (at + 1) ws) (table_of (take (at + 1) rows)))
row_left ws rows kept at w is before =
    let f : Vec Edge Global → List Edge = λ v. v.items in
    let step : wanted_of (take (at + 1) ws) (table_of (take (at + 1) rows)) ≡ wanted_of (take at ws) (table_of (take at rows)) =
    rw (← take-map f (at + 1) rows, ← take-map f at rows) (wanted_no ws (table_of rows) at w is) in
    before ∙ ap (λ (t : List (List Edge)). map (wanted_of ws) t) (sym step)

module _ (ws : List Bool) (g : Graph) (graph : IsGraph g) where
  kept_row_length : (row : List Edge) → length row ≡ length g.vertices → length (wanted_of ws row) ≡ length (wanted_of ws g.vertices)
  kept_row_length row long = length-wanted_of ws row g.vertices long

  kept_rows : length (wanted_of ws g.edges) ≡ length (wanted_of ws g.vertices)
  kept_rows = length-wanted_of ws g.edges g.vertices graph.rows

  row_of : (k : ℕ) → k < length (wanted_of ws g.vertices)
      → (get_or (wanted_of ws g.edges) k [] ≡ get_or g.edges (source ws k) []) × (source ws k < length g.edges)
  row_of k inside = get_or-wanted_of ws g.edges k [] (omega (arith, kept_rows))

  -- the edge of two kept vertices is the one that they had
  edge_at-kept_of : (i j : ℕ) → i < length (wanted_of ws g.vertices) → j < length (wanted_of ws g.vertices)
      → edge_at (kept_of ws g) i j ≡ edge_at g (source ws i) (source ws j)
  edge_at-kept_of i j from to =
      let found : (get_or (wanted_of ws g.edges) i [] ≡ get_or g.edges (source ws i) []) × (source ws i < length g.edges) = row_of i from in
      let inside : i < length (wanted_of ws g.edges) = omega (arith, kept_rows) in
      let long : length (get_or g.edges (source ws i) []) ≡ length g.vertices =
      All-get_or (λ (row : List Edge). length row ≡ length g.vertices) g.edges (source ws i) [] found.1 graph.columns in
      let within : j < length (wanted_of ws (get_or g.edges (source ws i) [])) = omega (arith, kept_row_length (get_or g.edges (source ws i) []) long) in
      ap (λ (row : List Edge). get_or row j Missing)
      (get_or-map (λ (row : List Edge). wanted_of ws row) (wanted_of ws g.edges) i [] [] inside
      ∙ ap (λ (row : List Edge). wanted_of ws row) found.0)
      ∙ (get_or-wanted_of ws (get_or g.edges (source ws i) []) j Missing within).0

  source_inside : (k : ℕ) → k < length (wanted_of ws g.vertices) → source ws k < length g.vertices
  source_inside k inside = omega (arith, (row_of k inside).1, graph.rows)

  pub IsGraph-kept_of : IsGraph (kept_of ws g)
  IsGraph-kept_of = record {
    ascending = wanted_rise ws g.vertices graph.ascending;
    few = omega (arith, length-wanted_of-le ws g.vertices, graph.few);
    rows = length-map (wanted_of ws g.edges) (λ (row : List Edge). wanted_of ws row) ∙ kept_rows;
    columns = All-map (λ (row : List Edge). length row ≡ length (wanted_of ws g.vertices)) (λ (row : List Edge). wanted_of ws row) (wanted_of ws g.edges)
        (All-weaker (λ (row : List Edge). length row ≡ length g.vertices)
        (λ (row : List Edge). length (wanted_of ws row) ≡ length (wanted_of ws g.vertices)) kept_row_length (wanted_of ws g.edges)
        (All-from_recursion (λ (row : List Edge). length row ≡ length g.vertices) (wanted_of ws g.edges)
        (all_wanted (λ (row : List Edge). length row ≡ length g.vertices) ws g.edges
        (recursion_from_All (λ (row : List Edge). length row ≡ length g.vertices) g.edges graph.columns))));
    one_way = λ u v from to.
        edge_at-kept_of u v from to ∙ graph.one_way (source ws u) (source ws v) (source_inside u from) (source_inside v to)
        ∙ ap opposite_of (sym (edge_at-kept_of v u to from));
  }
