-- Where too few late lists hold b without an earlier a, they give no edge back.
use Rattle.std.proofs.Common.{◌++◌, ◌≡◌, ◌≢◌, ℕ, ◌+◌, ◌-◌, ◌*◌, ◌/◌, ◌<◌, ◌≤◌, List, [], ◌∷◌, refl, sym, ap, subst, ◌∙◌, inl, inr, arith}
use Rattle.std.specs.Prelude.{◌⊎◌, All, Some, slice_get}
use Rattle.std.specs.List.{AllByRecursion}
use Rattle.std.proofs.lemmas.Bool.{cases_Bool, cases_eq, false≢true}
use Rattle.std.proofs.lemmas.Option.{slice_get_within}
use Rattle.std.proofs.lemmas.List.Elements.{recursion_from_All}
use Rattle.std.proofs.Math.Nat.{le-div_iff_mul-le}
use Rattle.seq_base.specs.declared.tx.Tx.{Tx}
use Rattle.seq_base.specs.Tx.{tx_eq, tx_eq_decides}
use Rattle.seq_base.specs.Setting.{Parameters, IsValid, threshold_of}
use Rattle.majority_graph.specs.declared.edge.Edge.{Edge}
use Rattle.majority_graph.specs.declared.edge.Edge.TheVariants.{To, From, Missing}
use Rattle.majority_graph.specs.Edges.{edge_between, opposite_of}
use Rattle.majority_graph.specs.Weights.{weight}
use Rattle.majority_graph.specs.Graph.{Graph, IsComplete, HasEdge, edge_at, graph_of}
use Rattle.majority_graph.specs.Walks.{Walks}
use Rattle.batch_laws.proofs.WalkJoins.{walk_edge, walk_same}
use Rattle.majority_graph.proofs.EdgeLaws.{edge_opposite, edge_of_places}
use Rattle.fair_laws.specs.Kept.{GiveEdge}
use Rattle.fair_laws.specs.Earlier.{without_earlier}
use Rattle.majority_graph.specs.Later.{or_edge, first_edge, HasFirstEdges}
use Rattle.fair_laws.proofs.OwedEdges.{weight_is, light_gives_none}

own_opposite : (e : Edge) → e ≡ opposite_of e → e ≡ To → ⊥
own_opposite To same is = (cc)
own_opposite From same is = (cc)
own_opposite Missing same is = (cc)

pub few_give_none : (s : Parameters) (lists : List (List Tx)) (a b : Tx) → without_earlier lists b a < threshold_of s → GiveEdge s lists b a → ⊥
few_give_none s lists a b few edge =
    elim (cases_Bool (tx_eq a b)) [
      | inl is ↦
          let own : edge_between s lists b b ≡ To = subst (λ (x : Tx). edge_between s lists b x ≡ To) ((tx_eq_decides a b).0 is) edge in
          own_opposite (edge_between s lists b b) (edge_opposite s lists b b) own
      | inr isnt ↦
          let light : weight lists b a < threshold_of s = omega (arith, weight_is lists a b (λ same. false≢true (sym isnt ∙ (tx_eq_decides a b).1 same))) in
          light_gives_none s lists b a light edge
    ]

or_edge_to : (e f : Edge) → or_edge e f ≡ To → (e ≡ To) ⊎ (f ≡ To)
or_edge_to To f is = inl refl
or_edge_to From f is = absurd (cc)
or_edge_to Missing f is = inr is

opposite-or_edge : (e f : Edge) → opposite_of (or_edge e f) ≡ or_edge (opposite_of e) (opposite_of f)
opposite-or_edge To f = refl
opposite-or_edge From f = refl
opposite-or_edge Missing f = refl

pub first_edge_opposite : (s : Parameters) (blocks : List (List (List Tx))) (u v : Tx) → first_edge s blocks u v ≡ opposite_of (first_edge s blocks v u)
first_edge_opposite s [] u v = refl
first_edge_opposite s (lists ∷ blocks) u v =
    ap (λ (e : Edge). or_edge e (first_edge s blocks u v)) (edge_opposite s lists u v)
    ∙ ap (λ (f : Edge). or_edge (opposite_of (edge_between s lists v u)) f) (first_edge_opposite s blocks u v)
    ∙ sym (opposite-or_edge (edge_between s lists v u) (first_edge s blocks v u))

none_back : (s : Parameters) (blocks : List (List (List Tx))) (a b : Tx)
    → AllByRecursion (λ lists. without_earlier lists b a < threshold_of s) blocks → first_edge s blocks b a ≡ To → ⊥
none_back s [] a b few is = (cc)
none_back s (lists ∷ blocks) a b few is =
    elim (or_edge_to (edge_between s lists b a) (first_edge s blocks b a) is) [
      | inl here ↦ few_give_none s lists a b few.0 here
      | inr later ↦ none_back s blocks a b few.1 later
    ]

pub never_back : (s : Parameters) (blocks : List (List (List Tx))) (a b : Tx)
    → All (λ lists. without_earlier lists b a < threshold_of s) blocks → first_edge s blocks b a ≡ To → ⊥
never_back s blocks a b few = none_back s blocks a b (recursion_from_All (λ lists. without_earlier lists b a < threshold_of s) blocks few)

pub forward_if_given : (s : Parameters) (blocks : List (List (List Tx))) (a b : Tx) → All (λ lists. without_earlier lists b a < threshold_of s) blocks
    → first_edge s blocks a b ≢ Missing → first_edge s blocks a b ≡ To
forward_if_given s blocks a b few given = go (first_edge s blocks a b) refl
  where
    go : (e : Edge) → first_edge s blocks a b ≡ e → first_edge s blocks a b ≡ To
    go To is = is
    go From is = absurd (never_back s blocks a b few (first_edge_opposite s blocks b a ∙ ap opposite_of is))
    go Missing is = absurd (given is)

-- in a complete proposal a walk leads from a to b
pub walk_forward : (s : Parameters) (blocks : List (List (List Tx))) (g : Graph) (u v : ℕ) (a b : Tx)
    → All (λ lists. without_earlier lists b a < threshold_of s) blocks
    → HasFirstEdges s blocks g → IsComplete g → slice_get g.vertices u ≡ Some a → slice_get g.vertices v ≡ Some b → Walks (HasEdge g) u v
walk_forward s blocks g u v a b few edges complete one other =
    elim (cases_eq u v) [
      | inl same ↦ walk_same (HasEdge g) u v same
      | inr apart ↦
          let here : edge_at g u v ≡ first_edge s blocks a b = edges u v a b one other in
          let given : edge_at g u v ≢ Missing = complete u v (slice_get_within g.vertices u a one) (slice_get_within g.vertices v b other) apart in
          walk_edge (HasEdge g) u v (here ∙ forward_if_given s blocks a b few (λ none. given (here ∙ none)))
    ]

-- with d = q - p and r = n - x
left_over : (n p q d x r : ℕ) → q ≡ p + d → n ≡ x + r → p * n ≤ q * x → r * q ≤ n * d
left_over n p q d x r split parts most =
    let one : n * q ≡ n * (p + d) = ap (λ (y : ℕ). n * y) split in
    let other : n * q ≡ (x + r) * q = ap (λ (y : ℕ). y * q) parts in
    omega arith

-- where h honest replicas and k faulty ones, with k at most f, are at least γn, fewer than the threshold are not
-- among the h
pub few_are_left : (s : Parameters) (h k : ℕ) → IsValid s → k ≤ s.f → h + k ≤ s.n → s.p * s.n ≤ s.q * (h + k) → s.n - h < threshold_of s
few_are_left s h k valid faulty all most =
    let positive : 0 < s.q = valid.gamma.positive in
    let low : 2 * s.p ≤ 2 * s.q = valid.gamma.at_most_one in
    let left : (s.n - (h + k)) * s.q ≤ s.n * (s.q - s.p) =
    left_over s.n s.p s.q (s.q - s.p) (h + k) (s.n - (h + k)) (omega arith) (omega arith) most in
    let quotient : s.n - (h + k) ≤ s.n * (s.q - s.p) / s.q = (le-div_iff_mul-le positive).1 left in
    omega arith

-- ---- block by block
or_edge_none : (e : Edge) → or_edge e Missing ≡ e
or_edge_none To = refl
or_edge_none From = refl
or_edge_none Missing = refl

or_edge_join : (e f h : Edge) → or_edge e (or_edge f h) ≡ or_edge (or_edge e f) h
or_edge_join To f h = refl
or_edge_join From f h = refl
or_edge_join Missing f h = refl

first_edge_more : (s : Parameters) (blocks : List (List (List Tx))) (late : List (List Tx)) (u v : Tx)
    → first_edge s (blocks ++ late ∷ []) u v ≡ or_edge (first_edge s blocks u v) (edge_between s late u v)
first_edge_more s [] late u v = or_edge_none (edge_between s late u v)
first_edge_more s (lists ∷ blocks) late u v =
    ap (λ (f : Edge). or_edge (edge_between s lists u v) f) (first_edge_more s blocks late u v)
    ∙ or_edge_join (edge_between s lists u v) (first_edge s blocks u v) (edge_between s late u v)

pub fresh_edges : (s : Parameters) (fresh : List (List Tx)) (kept : List Tx) → HasFirstEdges s (fresh ∷ []) (graph_of s fresh kept)
fresh_edges s fresh kept u v a b one other = edge_of_places s fresh kept u v a b one other ∙ sym (or_edge_none (edge_between s fresh a b))

pub late_edges : (s : Parameters) (blocks : List (List (List Tx))) (late : List (List Tx)) (old new : Graph) → HasFirstEdges s blocks old
    → new.vertices ≡ old.vertices
    → ((u v : ℕ) (a b : Tx) → slice_get old.vertices u ≡ Some a → slice_get old.vertices v ≡ Some b
    → edge_at new u v ≡ or_edge (edge_at old u v) (edge_between s late a b))
    → HasFirstEdges s (blocks ++ late ∷ []) new
late_edges s blocks late old new before same given u v a b one other =
    let from : slice_get old.vertices u ≡ Some a = subst (λ (txs : List Tx). slice_get txs u ≡ Some a) same one in
    let to : slice_get old.vertices v ≡ Some b = subst (λ (txs : List Tx). slice_get txs v ≡ Some b) same other in
    given u v a b from to
    ∙ ap (λ (e : Edge). or_edge e (edge_between s late a b)) (before u v a b from to)
    ∙ sym (first_edge_more s blocks late a b)
