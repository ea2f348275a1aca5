-- The table of edges as rows of the code.
use Rattle.std.proofs.Common.{◌≡◌, ◌≢◌, ℕ, ◌+◌, ◌<◌, inl, inr, List, [], ◌∷◌, ◌++◌, length, take, arith, get_or, set, map, Vec, Global, refl, sym, ap, ◌∙◌}
use Rattle.std.specs.Prelude.{All}
use Rattle.std.specs.Vec.{vec_len, with_item}
use Rattle.std.proofs.lemmas.List.{get_or-map, map-append, map_more, map-set, get_or-set_same, get_or-set_other, length-map, length-set}
use Rattle.std.proofs.lemmas.Bool.{cases_eq}
use Rattle.std.proofs.lemmas.List.Elements.{All-get_or, All-set}
use Rattle.majority_graph.specs.declared.edge.Edge.{Edge}
use Rattle.majority_graph.specs.declared.edge.Edge.TheVariants.{Missing}
use Rattle.majority_graph.specs.Graph.{set_at}

abbrev pub table_of : List (Vec Edge Global) → List (List Edge)
table_of rows = map (λ row. row.items) rows

-- the row that is read at u is that of the table
pub row_at : (rows : List (Vec Edge Global)) (u : ℕ) (row : Vec Edge Global) → u < length rows → row ≡ get_or rows u row
    → get_or (table_of rows) u [] ≡ row.items
row_at rows u row inside read =
    get_or-map (λ (row : Vec Edge Global). row.items) rows u row [] inside ∙ ap (λ (r : Vec Edge Global). r.items) (sym read)

pub row_length : (rows : List (Vec Edge Global)) (n u : ℕ) (row : Vec Edge Global)
    → All (λ (row : List Edge). length row ≡ n) (table_of rows) → u < length rows → row ≡ get_or rows u row → vec_len row ≡ n
row_length rows n u row columns inside read =
    let same : get_or (table_of rows) u [] ≡ row.items = row_at rows u row inside read in
    let within : u < length (table_of rows) = rw length-map inside in
    let long : length (get_or (table_of rows) u []) ≡ n = All-get_or (λ (row : List Edge). length row ≡ n) (table_of rows) u [] within columns in
    row.ok.0 ∙ ap length (sym same) ∙ long

-- a write of one entry
pub set_row : (rows : List (Vec Edge Global)) (u v : ℕ) (row : Vec Edge Global) (edge : Edge) → u < length rows → row ≡ get_or rows u row
    → table_of (set rows u (with_item row v edge)) ≡ set_at (table_of rows) u v edge
set_row rows u v row edge inside read =
    map-set (λ (row : Vec Edge Global). row.items) rows u (with_item row v edge)
    ∙ ap (λ (items : List Edge). set (table_of rows) u (set items v edge)) (sym (row_at rows u row inside read))

-- the entry that was written
pub entry_set : (t : List (List Edge)) (u v : ℕ) (edge : Edge) → u < length t → v < length (get_or t u [])
    → get_or (get_or (set_at t u v edge) u []) v Missing ≡ edge
entry_set t u v edge row column =
    rw (get_or-set_same t u (set (get_or t u []) v edge) [] row) (get_or-set_same (get_or t u []) v edge Missing column)

-- and every other one
pub entry_kept : (t : List (List Edge)) (u v x y : ℕ) (edge : Edge) → u < length t → (x ≡ u → y ≡ v → ⊥)
    → get_or (get_or (set_at t u v edge) x []) y Missing ≡ get_or (get_or t x []) y Missing
entry_kept t u v x y edge row apart =
    elim (cases_eq x u) [
      | inl same ↦
          let other : y ≢ v = apart same in
          rw (same, get_or-set_same t u (set (get_or t u []) v edge) [] row) (get_or-set_other (get_or t u []) v y edge Missing other)
      | inr other ↦ rw (get_or-set_other t u x (set (get_or t u []) v edge) [] other) refl
    ]

pub columns_kept : (t : List (List Edge)) (u v n : ℕ) (edge : Edge) → u < length t → All (λ (row : List Edge). length row ≡ n) t
    → All (λ (row : List Edge). length row ≡ n) (set_at t u v edge)
columns_kept t u v n edge row columns =
    All-set (λ (row : List Edge). length row ≡ n) t u (set (get_or t u []) v edge)
    (length-set (get_or t u []) v edge ∙ All-get_or (λ (row : List Edge). length row ≡ n) t u [] row columns) columns

-- an item of a list of lists is as long as all are
pub item_long : {X : Type 0} (rows : List (Vec X Global)) (n k : ℕ) (row : Vec X Global)
    → All (λ (xs : List X). n < length xs) (map (λ (r : Vec X Global). r.items) rows)
    → k < length rows → row ≡ get_or rows k row → n < vec_len row
item_long {X} rows n k row long inside read =
    let same : get_or (map (λ (r : Vec X Global). r.items) rows) k [] ≡ row.items =
    get_or-map (λ (r : Vec X Global). r.items) rows k row [] inside ∙ ap (λ (r : Vec X Global). r.items) (sym read) in
    let within : k < length (map (λ (r : Vec X Global). r.items) rows) = omega (arith, inside, length-map rows (λ (r : Vec X Global). r.items)) in
    let it : n < length (get_or (map (λ (r : Vec X Global). r.items) rows) k []) = long k [] within in
    omega (arith, it, ap length same, row.ok.0)

-- the value computed from one more row
pub read_more : {X Y : Type 0} (f : List X → Y) (rows : List (Vec X Global)) (k : ℕ) (row : Vec X Global) (ys : List Y) (y : Y)
    → k < length rows → row ≡ get_or rows k row → y ≡ f row.items
    → ys ≡ map f (map (λ (r : Vec X Global). r.items) (take k rows)) → ys ++ y ∷ [] ≡ map f (map (λ (r : Vec X Global). r.items) (take (k + 1) rows))
read_more {X} {Y} f rows k row ys y inside read is before =
    ap (λ (zs : List Y). zs ++ y ∷ []) before
    ∙ ap (λ (z : Y). map f (map (λ (r : Vec X Global). r.items) (take k rows)) ++ z ∷ []) (is ∙ ap (λ (r : Vec X Global). f r.items) read)
    ∙ sym (map-append f (map (λ (r : Vec X Global). r.items) (take k rows)) ((get_or rows k row).items ∷ []))
    ∙ ap (map f) (sym (map_more (λ (r : Vec X Global). r.items) rows k row inside))
