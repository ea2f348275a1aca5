-- The rows of edges, computed from the places list by list.
use Rattle.std.proofs.Common.{◌≡◌, ℕ, zero, suc, ◌+◌, ◌-◌, ◌<◌, ◌≤◌, List, [], ◌∷◌, ◌++◌, length, get_or, map, set, take, drop, Bool, true, false, cond, Vec, Global, refl, sym, ap, ◌∙◌, inl, inr, arith, ltb, add-one}
use Rattle.std.specs.Prelude.{All}
use Rattle.std.specs.List.Sorted.{IsStrictlySortedBy}
use Rattle.std.specs.Ordering.{is_lt}
use Rattle.std.specs.declared.cmp.Ordering.TheVariants.{Less}
use Rattle.std.proofs.lemmas.Bool.{cases_Bool, cases_eq, le-ltb, lt-ltb}
use Rattle.std.proofs.lemmas.List.{ext_get_or, get_or-drop, get_or-map, get_or-set_other, get_or-set_same, get_or_default, length-drop, length-map, map-append, map_more, take-append-drop, take-map}
use Rattle.std.specs.Int.{from_bool}
use Rattle.std.proofs.lemmas.List.FromFn.{length-map-range_with_len, map-range_with_len_more, sum_by-map-range_with_len_more}
use Rattle.std.proofs.lemmas.List.Sums.{sum_by_push}
use Rattle.std.proofs.lemmas.Map.Keys.{sorted_tail}
use Rattle.std.proofs.lemmas.Map.Views.{All-after_first}
use Rattle.seq_base.specs.declared.tx.Tx.{Tx}
use Rattle.seq_base.specs.Tx.{tx_cmp}
use Rattle.majority_graph.specs.declared.edge.Edge.{Edge}
use Rattle.majority_graph.specs.declared.edge.Edge.TheVariants.{To, From, Missing}
use Rattle.majority_graph.specs.declared.ranks.Ranked.{Ranked}
use Rattle.majority_graph.specs.Edges.{edge_upward, opposite_of, outweighs}
use Rattle.majority_graph.specs.Ranks.{AreRows, IsRanked, ahead, place, column_edge, column_of, columns_ahead, columns_by_list, ranked_edge}
use Rattle.majority_graph.proofs.Ahead.{ahead_all, ahead_next, bool_point}
use Rattle.majority_graph.proofs.EdgeLaws.{one_rises}
use Rattle.majority_graph.proofs.Mirror.{mirrored_are, rows_known}

abbrev items_of : List (Vec ℕ Global) → List (List ℕ)
items_of columns = map (λ (column : Vec ℕ Global). column.items) columns

-- a column has a place for each transaction
pub column_long : (columns : List (Vec ℕ Global)) (n k : ℕ) (column : Vec ℕ Global) → All (λ (c : List ℕ). length c ≡ n) (items_of columns)
    → k < length columns → column ≡ get_or columns k column → length column.items ≡ n
column_long columns n k column long inside read =
    let same : get_or (items_of columns) k [] ≡ column.items = get_or-map (λ (c : Vec ℕ Global). c.items) columns k column [] inside
    ∙ ap (λ (c : Vec ℕ Global). c.items) (sym read) in
    sym (ap length same) ∙ long k [] (omega (arith, inside, length-map columns (λ (c : Vec ℕ Global). c.items)))

-- each transaction has a place in each list
pub even_ranked : (lists : List (List Tx)) (rs : List Ranked) → All (IsRanked lists) rs → All (λ r. length r.places.items ≡ length lists) rs
even_ranked lists rs all = λ k d inside. ap length (all k d inside) ∙ length-map lists (place (get_or rs k d).tx)

-- as many columns as lists
pub columns_count : (rs : List Ranked) (lists : ℕ) (columns : List (Vec ℕ Global)) → items_of columns ≡ columns_by_list rs lists → length columns ≡ lists
columns_count rs lists columns are =
    sym (length-map columns (λ (c : Vec ℕ Global). c.items)) ∙ ap length are ∙ length-map-range_with_len (column_of rs) 0 lists

-- one more column
pub column_pushed : (rs : List Ranked) (list : ℕ) (columns : List (Vec ℕ Global)) (column : Vec ℕ Global)
    → items_of columns ≡ columns_by_list rs list → column.items ≡ column_of rs list
    → items_of (columns ++ column ∷ []) ≡ columns_by_list rs (list + 1)
column_pushed rs list columns column before is =
    map-append (λ (c : Vec ℕ Global). c.items) columns (column ∷ [])
    ∙ ap (λ (xs : List (List ℕ)). xs ++ column.items ∷ []) before
    ∙ ap (λ (x : List ℕ). columns_by_list rs list ++ x ∷ []) is
    ∙ sym (map-range_with_len_more (column_of rs) 0 list list (omega arith))

-- the weight over one more column
pub weight_more : (columns : List (Vec ℕ Global)) (k u v : ℕ) (column : Vec ℕ Global) (old new : ℕ) → k < length columns → column ≡ get_or columns k column
    → old ≡ columns_ahead (items_of (take k columns)) u v → new ≡ old + from_bool (ltb (get_or column.items u 0) (get_or column.items v 0))
    → new ≡ columns_ahead (items_of (take (k + 1) columns)) u v
weight_more columns k u v column old new inside read before is =
    let point : List ℕ → ℕ = λ c. cond (ltb (get_or c u 0) (get_or c v 0)) 1 0 in
    let grown : items_of (take (k + 1) columns) ≡ items_of (take k columns) ++ (get_or columns k column).items ∷ [] =
    map_more (λ (c : Vec ℕ Global). c.items) columns k column inside in
    let sum : columns_ahead (items_of (take (k + 1) columns)) u v ≡ columns_ahead (items_of (take k columns)) u v + point (get_or columns k column).items =
    ap (λ (cs : List (List ℕ)). columns_ahead cs u v) grown ∙ sum_by_push point (items_of (take k columns)) (get_or columns k column).items in
    let here : point (get_or columns k column).items ≡ point column.items = ap (λ (c : Vec ℕ Global). point c.items) (sym read) in
    omega (arith, before, is, sum, here, bool_point (ltb (get_or column.items u 0) (get_or column.items v 0)))

-- one more edge is written
pub edge_written : (f : ℕ → Edge) (edges : List Edge) (from at : ℕ) (edge : Edge) → at < length edges → edge ≡ f at
    → ((v : ℕ) → from ≤ v → v < at → get_or edges v Missing ≡ f v) → (v : ℕ) → from ≤ v → v < at + 1 → get_or (set edges at edge) v Missing ≡ f v
edge_written f edges from at edge inside is before v low below =
    elim (cases_eq v at) [
      | inl here ↦ ap (λ (k : ℕ). get_or (set edges at edge) k Missing) here ∙ get_or-set_same edges at edge Missing inside ∙ is ∙ ap f (sym here)
      | inr apart ↦ get_or-set_other edges at v edge Missing apart ∙ before v low (omega arith)
    ]

-- counted list by list
counted : (rs : List Ranked) (u v i : ℕ) (a b : Ranked) → u < length rs → v < length rs → get_or rs u a ≡ a → get_or rs v b ≡ b
    → i ≤ length a.places.items → i ≤ length b.places.items
    → columns_ahead (columns_by_list rs i) u v ≡ ahead (take i a.places.items) (take i b.places.items)
counted rs u v zero a b from to is_a is_b left right = refl
counted rs u v (suc i) a b from to is_a is_b left right =
    let ps : List ℕ = a.places.items in
    let qs : List ℕ = b.places.items in
    let before : columns_ahead (columns_by_list rs i) u v ≡ ahead (take i ps) (take i qs) =
    counted rs u v i a b from to is_a is_b (omega arith) (omega arith) in
    let point : List ℕ → ℕ = λ column. cond (ltb (get_or column u 0) (get_or column v 0)) 1 0 in
    let more : columns_ahead (columns_by_list rs (i + 1)) u v ≡ columns_ahead (columns_by_list rs i) u v + point (column_of rs i) =
    sum_by-map-range_with_len_more point (column_of rs) 0 i i (omega arith) in
    let at_u : get_or (column_of rs i) u 0 ≡ get_or ps i 0 = get_or-map (λ (r : Ranked). get_or r.places.items i 0) rs u a 0 from
    ∙ ap (λ (r : Ranked). get_or r.places.items i 0) is_a in
    let at_v : get_or (column_of rs i) v 0 ≡ get_or qs i 0 = get_or-map (λ (r : Ranked). get_or r.places.items i 0) rs v b 0 to
    ∙ ap (λ (r : Ranked). get_or r.places.items i 0) is_b in
    let here : point (column_of rs i) ≡ cond (ltb (get_or ps i 0) (get_or qs i 0)) 1 0 =
    ap (λ (n : ℕ). cond (ltb n (get_or (column_of rs i) v 0)) 1 0) at_u ∙ ap (λ (n : ℕ). cond (ltb (get_or ps i 0) n) 1 0) at_v in
    let next : ahead (take (suc i) ps) (take (suc i) qs) ≡ ahead (take i ps) (take i qs) + cond (ltb (get_or ps i 0) (get_or qs i 0)) 1 0 =
    ahead_next ps qs i (omega arith) (omega arith) in
    rw add-one at more ∙ ap (λ (n : ℕ). n + point (column_of rs i)) before ∙ ap (λ (n : ℕ). ahead (take i ps) (take i qs) + n) here ∙ sym next

columns_ahead_is : (rs : List Ranked) (lists u v : ℕ) (a b : Ranked) → u < length rs → v < length rs → get_or rs u a ≡ a → get_or rs v b ≡ b
    → length a.places.items ≡ lists → length b.places.items ≡ lists → columns_ahead (columns_by_list rs lists) u v ≡ ahead a.places.items b.places.items
columns_ahead_is rs lists u v a b from to is_a is_b long_a long_b =
    counted rs u v lists a b from to is_a is_b (omega arith) (omega arith) ∙ ahead_all a.places.items b.places.items lists (omega (arith, long_a, long_b))

-- of two sorted transactions, the one at the lower place is the lesser
rises_between : (txs : List Tx) (u v : ℕ) (d : Tx) → IsStrictlySortedBy tx_cmp txs → u < v → v < length txs → tx_cmp (get_or txs u d) (get_or txs v d) ≡ Less
rises_between [] u v d sorted less inside = absurd (omega arith)
rises_between (x ∷ xs) u zero d sorted less inside = absurd (omega arith)
rises_between (x ∷ xs) zero (suc v) d sorted less inside = All-after_first tx_cmp x xs sorted v d (omega arith)
rises_between (x ∷ xs) (suc u) (suc v) d sorted less inside = rises_between xs u v d (sorted_tail tx_cmp x xs sorted) (omega arith) (omega arith)

never_below : (a b : Tx) → is_lt (tx_cmp a b) ≡ true → is_lt (tx_cmp b a) ≡ false
never_below a b less =
    elim (cases_Bool (is_lt (tx_cmp b a))) [
      | inl also ↦ absurd (one_rises a b less also)
      | inr isnt ↦ isnt
    ]

never_itself : (a : Tx) → is_lt (tx_cmp a a) ≡ false
never_itself a =
    elim (cases_Bool (is_lt (tx_cmp a a))) [
      | inl less ↦ absurd (one_rises a a less less)
      | inr isnt ↦ isnt
    ]

orders : (txs : List Tx) (u v : ℕ) (a b : Tx) → IsStrictlySortedBy tx_cmp txs → u ≤ v → v < length txs → get_or txs u a ≡ a → get_or txs v a ≡ b
    → (ltb u v ≡ is_lt (tx_cmp a b)) × (false ≡ is_lt (tx_cmp b a))
orders txs u v a b sorted low inside is_a is_b =
    elim (cases_eq u v) [
      | inl same ↦
          let one : a ≡ b = sym is_a ∙ ap (λ (k : ℕ). get_or txs k a) same ∙ is_b in
          let isnt : is_lt (tx_cmp a b) ≡ false = ap (λ (t : Tx). is_lt (tx_cmp a t)) (sym one) ∙ never_itself a in
          let back : is_lt (tx_cmp b a) ≡ false = ap (λ (t : Tx). is_lt (tx_cmp t a)) (sym one) ∙ never_itself a in
          (le-ltb u v (omega arith) ∙ sym isnt, sym back)
      | inr apart ↦
          let less : tx_cmp a b ≡ Less = ap (λ (t : Tx). tx_cmp t b) (sym is_a) ∙ ap (λ (t : Tx). tx_cmp (get_or txs u a) t) (sym is_b)
          ∙ rises_between txs u v a sorted (omega arith) inside in
          let yes' : is_lt (tx_cmp a b) ≡ true = ap is_lt less in
          (lt-ltb u v (omega arith) ∙ sym yes', sym (never_below a b yes'))
    ]

-- the edge by columns
pub column_edge_is : (t : ℕ) (rs : List Ranked) (lists u v : ℕ) (a b : Ranked) → IsStrictlySortedBy tx_cmp (map (λ r. r.tx) rs)
    → All (λ r. length r.places.items ≡ lists) rs
    → u ≤ v → v < length rs → get_or rs u a ≡ a → get_or rs v a ≡ b → column_edge t (columns_by_list rs lists) u v ≡ ranked_edge t a b
column_edge_is t rs lists u v a b sorted even low inside is_a is_b =
    let columns : List (List ℕ) = columns_by_list rs lists in
    let long_a : length a.places.items ≡ lists = ap (λ (r : Ranked). length r.places.items) (sym is_a) ∙ even u a (omega arith) in
    let long_b : length b.places.items ≡ lists = ap (λ (r : Ranked). length r.places.items) (sym is_b) ∙ even v a inside in
    let at_b : get_or rs v b ≡ b = sym (get_or_default rs v a b inside) ∙ is_b in
    let forward : columns_ahead columns u v ≡ ahead a.places.items b.places.items =
    columns_ahead_is rs lists u v a b (omega arith) inside is_a at_b long_a long_b in
    let backward : columns_ahead columns v u ≡ ahead b.places.items a.places.items =
    columns_ahead_is rs lists v u b a inside (omega arith) at_b is_a long_b long_a in
    let tx_a : get_or (map (λ (r : Ranked). r.tx) rs) u a.tx ≡ a.tx = get_or-map (λ (r : Ranked). r.tx) rs u a a.tx (omega arith)
    ∙ ap (λ (r : Ranked). r.tx) is_a in
    let tx_b : get_or (map (λ (r : Ranked). r.tx) rs) v a.tx ≡ b.tx = get_or-map (λ (r : Ranked). r.tx) rs v a a.tx inside ∙ ap (λ (r : Ranked). r.tx) is_b in
    let order = orders (map (λ (r : Ranked). r.tx) rs) u v a.tx b.tx sorted low (omega (arith, inside, length-map rs (λ (r : Ranked). r.tx))) tx_a tx_b in
    let f : ℕ = ahead a.places.items b.places.items in
    let w : ℕ = ahead b.places.items a.places.items in
    ap (λ (n : ℕ). edge_upward t n (columns_ahead columns v u) (ltb u v)) forward
    ∙ ap (λ (n : ℕ). edge_upward t f n (ltb u v)) backward
    ∙ ap (λ (r : Bool). cond (outweighs t f w r) To (cond (outweighs t w f false) From Missing)) order.0
    ∙ ap (λ (q : Bool). cond (outweighs t f w (is_lt (tx_cmp a.tx b.tx))) To (cond (outweighs t w f q) From Missing)) order.1

-- a row: what mirrors the rows before it, followed by the edges from its vertex on
pub row_is : (t : ℕ) (rs : List Ranked) (rows : List (Vec Edge Global)) (edges row : List Edge) (a : Ranked) (n : ℕ)
    → n < length rs → get_or rs n a ≡ a → AreRows t rs n rows → length edges ≡ length rs
    → ((v : ℕ) → n ≤ v → v < length edges → get_or edges v Missing ≡ ranked_edge t a (get_or rs v a))
    → row ≡ map (λ (known : List Edge). opposite_of (get_or known n Missing)) (map (λ (known : Vec Edge Global). known.items) rows) ++ drop n edges
    → row ≡ map (ranked_edge t a) rs
row_is t rs rows edges row a n inside here known long each is =
    let all : List Edge = map (ranked_edge t a) rs in
    let prefix : List Edge = map (λ (xs : List Edge). opposite_of (get_or xs n Missing)) (map (λ (row : Vec Edge Global). row.items) rows) in
    let before : prefix ≡ take n all = mirrored_are t rs rows prefix a n inside here known refl ∙ sym (take-map (ranked_edge t a) n rs) in
    let same : length edges ≡ length all = long ∙ sym (length-map rs (ranked_edge t a)) in
    let after : drop n edges ≡ drop n all =
    ext_get_or Missing (drop n edges) (drop n all) (length-drop n edges ∙ ap (λ (k : ℕ). k - n) same ∙ sym (length-drop n all))
    (λ i below.
    let within : n + i < length edges = omega (arith, below, length-drop n edges) in
    get_or-drop n edges i Missing ∙ each (n + i) (omega arith) within
    ∙ sym (get_or-map (ranked_edge t a) rs (n + i) a Missing (omega (arith, within, long))) ∙ sym (get_or-drop n all i Missing)) in
    is ∙ ap (λ (xs : List Edge). xs ++ drop n edges) before ∙ ap (λ (xs : List Edge). take n all ++ xs) after ∙ take-append-drop n all

-- the row of the next vertex
pub next_row : (t : ℕ) (rs : List Ranked) (lists : ℕ) (rows : List (Vec Edge Global)) (row : Vec Edge Global) (edges : List Edge) (n : ℕ)
    → IsStrictlySortedBy tx_cmp (map (λ r. r.tx) rs) → All (λ r. length r.places.items ≡ lists) rs → n < length rs → AreRows t rs n rows
    → length edges ≡ length rs
    → ((v : ℕ) → n ≤ v → v < length edges → get_or edges v Missing ≡ column_edge t (columns_by_list rs lists) n v)
    → row.items ≡ map (λ (known : List Edge). opposite_of (get_or known (length rows) Missing)) (map (λ (known : Vec Edge Global). known.items) rows)
    ++ drop (length rows) edges
    → AreRows t rs (n + 1) (rows ++ row ∷ [])
next_row t [] lists rows row edges n sorted even inside known long each is = absurd (omega (arith, inside))
next_row t (d ∷ others) lists rows row edges n sorted even inside known long each is =
    let rs : List Ranked = d ∷ others in
    let a : Ranked = get_or rs n d in
    let here : get_or rs n a ≡ a = get_or_default rs n a d inside in
    let count : length rows ≡ n = rows_known t rs rows n (omega (arith, inside)) known in
    let mine : row.items ≡ map (λ (xs : List Edge). opposite_of (get_or xs n Missing)) (map (λ (r : Vec Edge Global). r.items) rows) ++ drop n edges =
    is ∙ ap (λ (k : ℕ). map (λ (xs : List Edge). opposite_of (get_or xs k Missing)) (map (λ (r : Vec Edge Global). r.items) rows) ++ drop k edges) count in
    let whole : row.items ≡ map (ranked_edge t a) rs =
    row_is t rs rows edges row.items a n inside here known long
    (λ v low within. each v low within ∙ column_edge_is t rs lists n v a (get_or rs v a) sorted even low (omega (arith, within, long)) here refl) mine in
    map-append (λ (r : Vec Edge Global). r.items) rows (row ∷ [])
    ∙ ap (λ (xs : List (List Edge)). xs ++ row.items ∷ []) known
    ∙ ap (λ (x : List Edge). map (λ (from : Ranked). map (ranked_edge t from) rs) (take n rs) ++ x ∷ []) whole
    ∙ sym (map_more (λ (from : Ranked). map (ranked_edge t from) rs) rs n d inside)
