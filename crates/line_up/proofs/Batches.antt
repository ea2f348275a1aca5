-- The transactions of a batch as vertex numbers, and back.
use Rattle.std.proofs.Common.{◌≡◌, ℕ, ◌<◌, ◌⊎◌, inl, inr, List, [], ◌∷◌, length, map, get_or, Bool, true, false, cond, refl, sym, subst, ap, ◌∙◌, arith}
use Rattle.std.specs.Prelude.{All, ◌≢◌}
use Rattle.std.specs.List.{AllByRecursion, AllPairs, list_any, position_or_len}
use Rattle.std.specs.List.Sorted.{IsStrictlySortedBy}
use Rattle.std.specs.declared.cmp.Ordering.TheVariants.{Less}
use Rattle.std.proofs.lemmas.Bool.{cases_Bool}
use Rattle.std.proofs.lemmas.Cmp.{tied_itself}
use Rattle.std.proofs.lemmas.List.{get_or-map, length-map}
use Rattle.std.proofs.lemmas.List.Elements.{All-map, recursion_from_All}
use Rattle.std.proofs.lemmas.List.Sums.{passes_at_first}
use Rattle.std.proofs.lemmas.Map.Keys.{Less-from_sorted}
use Rattle.std.proofs.lemmas.Option.{slice_get-get_or}
use Rattle.seq_base.specs.declared.tx.Tx.{Tx}
use Rattle.seq_base.specs.Lists.{holds}
use Rattle.seq_base.proofs.Members.{place_holds, any_tx}
use Rattle.seq_base.specs.Setting.{Parameters}
use Rattle.seq_base.specs.Tx.{tx_cmp, tx_cmp_total, tx_eq, tx_eq_decides}
use Rattle.majority_graph.specs.declared.edge.Edge.TheVariants.{To, From, Missing}
use Rattle.majority_graph.specs.Edges.{edge_between, gives_edge}
use Rattle.majority_graph.specs.Graph.{Graph, IsComplete, HasEdge, edge_at, graph_of}
use Rattle.majority_graph.specs.Ranks.{place}
use Rattle.majority_graph.proofs.EdgeLaws.{edge_at-graph_of}
use Rattle.batch_laws.specs.Batches.{AreBatches}
use Rattle.batch_laws.specs.Reached.{is_to}
use Rattle.line_up.specs.Line.{line_of}
use Rattle.line_up.specs.Paths.{has_edge, HaveEdges, tx_at}
use Rattle.line_up.proofs.Names.{line_named}

any_inside : {X : Type 0} (p : X → Bool) (xs : List X) → list_any p xs ≡ true → position_or_len p xs < length xs
any_inside p [] any = absurd (cc)
any_inside p (x ∷ xs) any =
    elim (cases_Bool (p x)) [
      | inl is ↦ rw is (omega arith)
      | inr isnt ↦ rw isnt (let rest : position_or_len p xs < length xs = any_inside p xs (rw isnt at any) in omega arith)
    ]

abbrev pub AreHeld : List Tx → List Tx → Type 0
AreHeld vertices txs = All (λ t. holds t vertices ≡ true) txs

-- the number of each
abbrev pub numbered : List Tx → List Tx → List ℕ
numbered vertices txs = map (λ t. place t vertices) txs

place_inside : (vertices : List Tx) (t : Tx) → holds t vertices ≡ true → place t vertices < length vertices
place_inside vertices t held = any_inside (λ x. tx_eq x t) vertices held

at_place : (vertices : List Tx) (t : Tx) → holds t vertices ≡ true → tx_at vertices (place t vertices) ≡ t
at_place vertices t held =
    (tx_eq_decides (tx_at vertices (place t vertices)) t).0
    (passes_at_first (λ x. tx_eq x t) vertices (record { client = 0; number = 0; payload = 0 }) (place_inside vertices t held))

back_from : (vertices txs : List Tx) → AllByRecursion (λ t. holds t vertices ≡ true) txs → map (tx_at vertices) (numbered vertices txs) ≡ txs
back_from vertices [] held = refl
back_from vertices (t ∷ ts) held =
    ap (λ (x : Tx). x ∷ map (tx_at vertices) (numbered vertices ts)) (at_place vertices t held.0)
    ∙ ap (λ (xs : List Tx). t ∷ xs) (back_from vertices ts held.1)

pub numbers_inside : (vertices txs : List Tx) → AreHeld vertices txs → All (λ v. v < length vertices) (numbered vertices txs)
numbers_inside vertices txs held =
    All-map (λ v. v < length vertices) (λ t. place t vertices) txs (λ k d inside. place_inside vertices (get_or txs k d) (held k d inside))

-- two transactions of an ascending list have different numbers
apart : (vertices : List Tx) (a b : Tx) → holds a vertices ≡ true → holds b vertices ≡ true → tx_cmp a b ≡ Less → place a vertices ≢ place b vertices
apart vertices a b one other below same =
    let equal : b ≡ a = sym (at_place vertices b other) ∙ ap (tx_at vertices) (sym same) ∙ at_place vertices a one in
    (cc (subst (λ (z : Tx). tx_cmp a z ≡ Less) equal below, tied_itself tx_cmp_total a))

pub numbers_joined : (g : Graph) (txs : List Tx) → ((u v : ℕ) → u < length g.vertices → v < length g.vertices → u ≢ v → HasEdge g u v ⊎ HasEdge g v u)
    → IsStrictlySortedBy tx_cmp txs → AreHeld g.vertices txs → HaveEdges g (numbered g.vertices txs)
numbers_joined g txs edges ascending held i j d before within =
    let later : j < length txs = omega (arith, length-map txs (λ (t : Tx). place t g.vertices)) in
    let sooner : i < length txs = omega arith in
    let a : Tx = get_or txs i any_tx in
    let b : Tx = get_or txs j any_tx in
    let one : get_or (numbered g.vertices txs) i d ≡ place a g.vertices = get_or-map (λ t. place t g.vertices) txs i any_tx d sooner in
    let other : get_or (numbered g.vertices txs) j d ≡ place b g.vertices = get_or-map (λ t. place t g.vertices) txs j any_tx d later in
    subst (λ (u : ℕ). HasEdge g u (get_or (numbered g.vertices txs) j d) ⊎ HasEdge g (get_or (numbered g.vertices txs) j d) u) (sym one)
    (subst (λ (v : ℕ). HasEdge g (place a g.vertices) v ⊎ HasEdge g v (place a g.vertices)) (sym other)
    (edges (place a g.vertices) (place b g.vertices)
    (place_inside g.vertices a (held i any_tx sooner)) (place_inside g.vertices b (held j any_tx later))
    (apart g.vertices a b (held i any_tx sooner) (held j any_tx later) (Less-from_sorted tx_cmp txs i j any_tx ascending before later))))

to_given : (a b : Bool) → is_to (cond a To (cond b From Missing)) ≡ a
to_given true b = refl
to_given false true = refl
to_given false false = refl

-- an edge of the graph of lists is one that they give
edge_given : (s : Parameters) (lists : List (List Tx)) (vertices : List Tx) (u v : ℕ) → u < length vertices → v < length vertices
    → has_edge (graph_of s lists vertices) u v ≡ gives_edge s lists (tx_at vertices u) (tx_at vertices v)
edge_given s lists vertices u v from to =
    ap is_to (edge_at-graph_of s lists vertices u v (record { client = 0; number = 0; payload = 0 }) from to)
    ∙ to_given (gives_edge s lists (tx_at vertices u) (tx_at vertices v)) (gives_edge s lists (tx_at vertices v) (tx_at vertices u))

-- the line of the numbers is that of the transactions
pub line_back : (g : Graph) (txs : List Tx) → AreHeld g.vertices txs → (s : Parameters) (lists : List (List Tx)) → g ≡ graph_of s lists g.vertices
    → map (tx_at g.vertices) (line_of (has_edge g) (numbered g.vertices txs)) ≡ line_of (gives_edge s lists) txs
line_back g txs held s lists is =
    line_named (has_edge g) (gives_edge s lists) (tx_at g.vertices) (λ v. v < length g.vertices)
    (λ u v from to. ap (λ (h : Graph). has_edge h u v) is ∙ edge_given s lists g.vertices u v from to)
    (numbered g.vertices txs) (numbers_inside g.vertices txs held)
    ∙ ap (line_of (gives_edge s lists)) (back_from g.vertices txs (recursion_from_All (λ t. holds t g.vertices ≡ true) txs held))

-- what the batches of a graph hold are vertices of it
pub held_by_batch : (g : Graph) (batches : List (List Tx)) (i : ℕ) → AreBatches g batches → AreHeld g.vertices (get_or batches i [])
held_by_batch g batches i are k d inside =
    let batch : List Tx = get_or batches i [] in
    let t : Tx = get_or batch k d in
    let found = are.vertices i t (place_holds batch k t (slice_get-get_or batch k d inside)) in
    place_holds g.vertices found.0 t found.1

-- where no pair is missing, the lists give an edge to any two transactions of a batch
pub batch_decided : (s : Parameters) (lists : List (List Tx)) (vertices : List Tx) (batches : List (List Tx)) (i : ℕ) → IsComplete (graph_of s lists vertices)
    → AreBatches (graph_of s lists vertices) batches → i < length batches → AllPairs (λ u v. edge_between s lists u v ≢ Missing) (get_or batches i [])
batch_decided s lists vertices batches i complete are inside x y d before within missing =
    let g : Graph = graph_of s lists vertices in
    let batch : List Tx = get_or batches i [] in
    let a : Tx = get_or batch x d in
    let b : Tx = get_or batch y d in
    let one : holds a vertices ≡ true = held_by_batch g batches i are x d (omega arith) in
    let other : holds b vertices ≡ true = held_by_batch g batches i are y d within in
    let start : place a vertices < length vertices = place_inside vertices a one in
    let to : place b vertices < length vertices = place_inside vertices b other in
    let below : tx_cmp a b ≡ Less = Less-from_sorted tx_cmp batch x y d (are.ascending i [] inside) before within in
    let ends : edge_at g (place a vertices) (place b vertices) ≡ edge_between s lists a b =
    edge_at-graph_of s lists vertices (place a vertices) (place b vertices) (record { client = 0; number = 0; payload = 0 }) start to
    ∙ ap (λ (z : Tx). edge_between s lists z (tx_at vertices (place b vertices))) (at_place vertices a one)
    ∙ ap (λ (z : Tx). edge_between s lists a z) (at_place vertices b other) in
    complete (place a vertices) (place b vertices) start to (apart vertices a b one other below) (ends ∙ missing)
