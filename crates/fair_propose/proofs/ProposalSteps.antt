-- The result of the steps of a proposal.
use Rattle.std.proofs.Common.{◌≡◌, ℕ, ◌≤◌, List, [], ◌∷◌, Bool, true, false, cond, length, map, get_or, refl, sym, ap, subst, ◌∙◌, arith}
use Rattle.std.specs.Prelude.{◌↔◌, filter, nat_le}
use Rattle.seq_base.specs.declared.tx.Tx.{Tx}
use Rattle.seq_base.specs.Lists.{AreFresh, listed}
use Rattle.seq_base.specs.Setting.{Parameters, threshold_of, solid_of}
use Rattle.majority_graph.specs.Edges.{edge_between}
use Rattle.majority_graph.specs.Graph.{Graph, IsGraph, graph_of, kept_of, wanted_of}
use Rattle.majority_graph.proofs.WantedFirst.{with_rows, kept_rows}
use Rattle.tx_class.specs.Tally.{Tally, tally_of, count_in}
use Rattle.tx_class.proofs.Lookup.{count_is}
use Rattle.fair_laws.specs.Kept.{candidates_of, kept_by}
use Rattle.fair_laws.proofs.ComputedLists.{few_candidates, is_graph, wanted_is_computed}
use Rattle.fair_propose.specs.Backward.{LeadsToGoal}

filter_alike : (p q : Tx → Bool) (xs : List Tx) → ((t : Tx) → p t ≡ q t) → filter p xs ≡ filter q xs
filter_alike p q [] same = refl
filter_alike p q (x ∷ xs) same =
    ap (λ (rest : List Tx). cond (p x) (x ∷ rest) rest) (filter_alike p q xs same)
    ∙ ap (λ (b : Bool). cond b (x ∷ filter q xs) (filter q xs)) (same x)

map_alike : (p q : Tx → Bool) (xs : List Tx) → ((t : Tx) → p t ≡ q t) → map p xs ≡ map q xs
map_alike p q [] same = refl
map_alike p q (x ∷ xs) same =
    ap (λ (rest : List Bool). p x ∷ rest) (map_alike p q xs same) ∙ ap (λ (b : Bool). b ∷ map q xs) (same x)

count_at : (s : Parameters) (lists : List (List Tx)) (classes : Tally) → classes ≡ tally_of s lists → (t : Tx) → count_in classes t ≡ listed lists t
count_at s lists classes is t = ap (λ (tally : Tally). count_in tally t) is ∙ count_is s lists t

pub candidates_are : (s : Parameters) (lists : List (List Tx)) (classes : Tally) (txs : List Tx) → classes ≡ tally_of s lists
    → txs ≡ filter (λ (t : Tx). nat_le (threshold_of s) (count_in classes t)) classes.txs → txs ≡ candidates_of s lists
candidates_are s lists classes txs is found =
    found
    ∙ filter_alike (λ (t : Tx). nat_le (threshold_of s) (count_in classes t)) (λ (t : Tx). nat_le (threshold_of s) (listed lists t)) classes.txs
    (λ t. ap (nat_le (threshold_of s)) (count_at s lists classes is t))
    ∙ ap (λ (tally : Tally). filter (λ (t : Tx). nat_le (threshold_of s) (listed lists t)) tally.txs) is

solid_are : (s : Parameters) (lists : List (List Tx)) (classes : Tally) (txs : List Tx) (solid : List Bool) → classes ≡ tally_of s lists
    → solid ≡ map (λ (t : Tx). nat_le (solid_of s) (count_in classes t)) txs → solid ≡ map (λ (t : Tx). nat_le (solid_of s) (listed lists t)) txs
solid_are s lists classes txs solid is found =
    found
    ∙ map_alike (λ (t : Tx). nat_le (solid_of s) (count_in classes t)) (λ (t : Tx). nat_le (solid_of s) (listed lists t)) txs
    (λ t. ap (nat_le (solid_of s)) (count_at s lists classes is t))

pub few_are : (s : Parameters) (lists : List (List Tx)) (txs : List Tx) → AreFresh lists → txs ≡ candidates_of s lists → length txs ≤ 2048
few_are s lists txs fresh is = omega (arith, ap length is, few_candidates s lists fresh)

pub graph_is : (s : Parameters) (lists : List (List Tx)) (txs : List Tx) (g : Graph) → AreFresh lists → txs ≡ candidates_of s lists
    → g ≡ graph_of s lists txs → IsGraph g
graph_is s lists txs g fresh is given = subst IsGraph (sym (given ∙ ap (graph_of s lists) is)) (is_graph s lists fresh)

pub kept_are : (s : Parameters) (lists : List (List Tx)) (classes : Tally) (txs : List Tx) (solid leading : List Bool) (g : Graph)
    → AreFresh lists → classes ≡ tally_of s lists
    → txs ≡ candidates_of s lists → solid ≡ map (λ (t : Tx). nat_le (solid_of s) (count_in classes t)) txs → g ≡ graph_of s lists txs
    → ((u : ℕ) → (get_or leading u false ≡ true) ↔ LeadsToGoal g solid u) → wanted_of leading txs ≡ kept_by s lists
kept_are s lists classes txs solid leading g fresh is candidates goals given report =
    let same_goals : solid ≡ map (λ (t : Tx). nat_le (solid_of s) (listed lists t)) (candidates_of s lists) =
    solid_are s lists classes txs solid is goals ∙ ap (map (λ (t : Tx). nat_le (solid_of s) (listed lists t))) candidates in
    let same_graph : g ≡ graph_of s lists (candidates_of s lists) = given ∙ ap (graph_of s lists) candidates in
    ap (wanted_of leading) candidates
    ∙ wanted_is_computed s lists fresh leading
    (λ u inside.
    subst (λ (h : Graph). (get_or leading u false ≡ true) ↔ LeadsToGoal h
    (map (λ (t : Tx). nat_le (solid_of s) (listed lists t)) (candidates_of s lists)) u) same_graph
    (subst (λ (flags : List Bool). (get_or leading u false ≡ true) ↔ LeadsToGoal g flags u) same_goals (report u)))

-- the wanted part of the graph of the lists is the graph of the wanted transactions
pub kept_graph_is : (s : Parameters) (lists : List (List Tx)) (ws : List Bool) (txs kept : List Tx) (g : Graph) → g ≡ graph_of s lists txs
    → wanted_of ws txs ≡ kept
    → kept_of ws g ≡ graph_of s lists kept
kept_graph_is s lists ws txs kept g given is =
    ap (kept_of ws) given ∙ ap (with_rows (wanted_of ws txs)) (sym (kept_rows (edge_between s lists) ws txs)) ∙ ap (graph_of s lists) is
