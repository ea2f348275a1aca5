-- The kept transactions are those up to the last component with a solid one.
use Rattle.std.proofs.Common.{◌<◌, ◌≡◌, ◌≢◌, ℕ, ◌+◌, ◌*◌, ◌≤◌, List, [], ◌∷◌, Bool, true, false, Some, length, map, get_or, refl, sym, ap, subst, ◌∙◌, inl, inr, arith}
use Rattle.std.specs.Prelude.{◌⊎◌, ◌↔◌, slice_get}
use Rattle.std.proofs.lemmas.Bool.{cases_Bool, false≢true}
use Rattle.std.proofs.lemmas.Option.{slice_get-get_or, get_or_from_slice_get}
use Rattle.seq_base.specs.declared.tx.Tx.{Tx}
use Rattle.seq_base.specs.Lists.{listed}
use Rattle.seq_base.specs.Tx.{tx_eq, tx_eq_decides}
use Rattle.seq_base.specs.Setting.{Parameters, threshold_of, solid_of}
use Rattle.majority_graph.specs.declared.edge.Edge.{Edge}
use Rattle.majority_graph.specs.declared.edge.Edge.TheVariants.{To, From, Missing}
use Rattle.majority_graph.specs.Edges.{edge_between, opposite_of}
use Rattle.majority_graph.specs.Graph.{IsGraph, HasEdge, graph_of, wanted_of, kept_of}
use Rattle.majority_graph.specs.Walks.{Walks}
use Rattle.majority_graph.proofs.EdgeLaws.{edge_of_places, edge_opposite, IsGraph-graph_of}
use Rattle.majority_graph.proofs.Solid.{solid_edge}
use Rattle.majority_graph.proofs.Wanted.{map-wanted_of, IsGraph-kept_of}
use Rattle.majority_graph.proofs.WantedFirst.{with_rows}
use Rattle.batch_laws.specs.Batches.{IsNumbering}
use Rattle.seq_base.proofs.Members.{holds_place, place_holds, one_place}
use Rattle.batch_laws.proofs.WantedItems.{wanted_shows, wanted_holds}
use Rattle.seq_base.proofs.Members.{same_members}
use Rattle.batch_laws.proofs.WalkJoins.{walk_join, walk_edge, walk_same, walk_keeps, walk_map}
use Rattle.batch_laws.proofs.Reachability.{edge_inside, numbers_rise}
use Rattle.fair_laws.specs.Kept.{IsSolid, IsCandidate, LeadsOn, IsKept, AreCandidates, AreKept}

-- the graph of what is kept is the graph of the edges that the lists give
abbrev rows_of : Parameters → List (List Tx) → List Tx → List Tx → List (List Edge)
rows_of s lists froms tos = map (λ u. map (edge_between s lists u) tos) froms

kept_rows : (s : Parameters) (lists : List (List Tx)) (wanted : List Bool) (froms tos : List Tx)
    → map (wanted_of wanted) (rows_of s lists froms tos) ≡ rows_of s lists froms (wanted_of wanted tos)
kept_rows s lists wanted [] tos = refl
kept_rows s lists wanted (x ∷ froms) tos =
    ap (λ (row : List Edge). row ∷ map (wanted_of wanted) (rows_of s lists froms tos)) (sym (map-wanted_of (edge_between s lists x) wanted tos))
    ∙ ap (λ (rows : List (List Edge)). map (edge_between s lists x) (wanted_of wanted tos) ∷ rows) (kept_rows s lists wanted froms tos)

pub kept_graph : (s : Parameters) (lists : List (List Tx)) (wanted : List Bool) (txs : List Tx)
    → kept_of wanted (graph_of s lists txs) ≡ graph_of s lists (wanted_of wanted txs)
kept_graph s lists wanted txs =
    ap (with_rows (wanted_of wanted txs))
    (ap (map (wanted_of wanted)) (sym (map-wanted_of (λ (u : Tx). map (edge_between s lists u) txs) wanted txs))
    ∙ kept_rows s lists wanted (wanted_of wanted txs) txs)

module _ (s : Parameters) (lists : List (List Tx)) (txs : List Tx) (candidates : AreCandidates s lists txs) (few : length txs ≤ 2048) where
  pub graph : IsGraph (graph_of s lists txs)
  graph = IsGraph-graph_of s lists txs candidates.ascending few

  place_candidate : (k : ℕ) (t : Tx) → slice_get txs k ≡ Some t → IsCandidate s lists t
  place_candidate k t found = (candidates.each t).0 (place_holds txs k t found)

  edge_up : (d : Tx) (u v : ℕ) → HasEdge (graph_of s lists txs) u v → LeadsOn s lists (get_or txs u d) (get_or txs v d)
  edge_up d u v edge =
      let inside = edge_inside (graph_of s lists txs) u v graph edge in
      let one = slice_get-get_or txs u d inside.0 in
      let other = slice_get-get_or txs v d inside.1 in
      record {
        «from» = place_candidate u (get_or txs u d) one;
        to = place_candidate v (get_or txs v d) other;
        edge = sym (edge_of_places s lists txs u v (get_or txs u d) (get_or txs v d) one other) ∙ edge;
      }

  -- walks between vertices are walks between transactions that are not blank
  pub walk_up : (u v : ℕ) (a b : Tx) → slice_get txs u ≡ Some a → slice_get txs v ≡ Some b → Walks (HasEdge (graph_of s lists txs)) u v
      → Walks (LeadsOn s lists) a b
  walk_up u v a b one other walk =
      let up : Walks (LeadsOn s lists) (get_or txs u a) (get_or txs v a) =
      walk_map (HasEdge (graph_of s lists txs)) (LeadsOn s lists) (λ k. get_or txs k a) (edge_up a) u v walk in
      subst (λ (x : Tx). Walks (LeadsOn s lists) x b) (get_or_from_slice_get txs u a a one)
      (subst (λ (y : Tx). Walks (LeadsOn s lists) (get_or txs u a) y) (get_or_from_slice_get txs v b a other) up)

  pub walk_down : (u v : ℕ) (a b : Tx) → slice_get txs u ≡ Some a → slice_get txs v ≡ Some b → Walks (LeadsOn s lists) a b
      → Walks (HasEdge (graph_of s lists txs)) u v
  walk_down u v a b one other walk =
      let there = walk_keeps (LeadsOn s lists) (λ x. (w : ℕ) × (slice_get txs w ≡ Some x) × Walks (HasEdge (graph_of s lists txs)) u w) step
      a b walk (u, one, walk_same (HasEdge (graph_of s lists txs)) u u refl) in
      subst (λ (w : ℕ). Walks (HasEdge (graph_of s lists txs)) u w) (one_place txs there.0 v b candidates.ascending there.1 other) there.2
    where
      step : (x y : Tx) → (w : ℕ) × (slice_get txs w ≡ Some x) × Walks (HasEdge (graph_of s lists txs)) u w → LeadsOn s lists x y
          → (w : ℕ) × (slice_get txs w ≡ Some y) × Walks (HasEdge (graph_of s lists txs)) u w
      step x y here leads =
          let to = holds_place txs y ((candidates.each y).1 leads.to) in
          let edge : HasEdge (graph_of s lists txs) here.0 to.0 = edge_of_places s lists txs here.0 to.0 x y here.1 to.1 ∙ leads.edge in
          (to.0, to.1, walk_join (HasEdge (graph_of s lists txs)) u here.0 to.0 here.2 (walk_edge (HasEdge (graph_of s lists txs)) here.0 to.0 edge))

  -- for any numbers that never decrease along edges and are equal exactly within components
  module _ (valid_low : threshold_of s ≤ solid_of s) (half : 2 * threshold_of s ≤ solid_of s + 1) (number : ℕ → ℕ)
      (numbering : IsNumbering (graph_of s lists txs) number) where
    kept_stands_low : (u : ℕ) (a : Tx) → slice_get txs u ≡ Some a → IsKept s lists a
        → (v : ℕ) × (b : Tx) × (slice_get txs v ≡ Some b) × IsSolid s lists b × (number u ≤ number v)
    kept_stands_low u a at kept =
        let b = kept.leads.0 in
        let solid : solid_of s ≤ listed lists kept.leads.0 = kept.leads.1 in
        let candidate : threshold_of s ≤ listed lists kept.leads.0 = omega arith in
        let place = holds_place txs kept.leads.0 ((candidates.each kept.leads.0).1 candidate) in (
          place.0,
          kept.leads.0,
          place.1,
          solid,
          numbers_rise (graph_of s lists txs) number graph numbering u place.0 (walk_down u place.0 a kept.leads.0 at place.1 kept.leads.2),
        )

    low_is_kept : (u v : ℕ) (a b : Tx) → slice_get txs u ≡ Some a → slice_get txs v ≡ Some b → IsSolid s lists b → number u ≤ number v → IsKept s lists a
    low_is_kept u v a b one other solid low =
        elim (cases_Bool (tx_eq a b)) [
          | inl is ↦
              (let same = (tx_eq_decides a b).0 is in
              record { candidate = place_candidate u a one; leads = (b, solid, walk_same (LeadsOn s lists) a b same) })
          | inr isnt ↦
              let differ : b ≢ a = λ same. false≢true (sym isnt ∙ (tx_eq_decides a b).1 (sym same)) in
              let given : edge_between s lists b a ≢ Missing = solid_edge s lists b a half solid differ in
              record { candidate = place_candidate u a one; leads = (b, solid, walk given) }
        ]
      where
        back_is_both : HasEdge (graph_of s lists txs) v u → Walks (LeadsOn s lists) a b
        back_is_both edge =
            let inside = edge_inside (graph_of s lists txs) v u graph edge in
            let rise : number v ≤ number u = numbering.rises v u inside.0 inside.1 edge in
            let same : number u ≡ number v = omega arith in
            walk_up u v a b one other ((numbering.same u v inside.1 inside.0).0 same).0

        walk : edge_between s lists b a ≢ Missing → Walks (LeadsOn s lists) a b
        walk given = go (edge_between s lists b a) refl
          where
            go : (e : Edge) → edge_between s lists b a ≡ e → Walks (LeadsOn s lists) a b
            go To is = back_is_both (edge_of_places s lists txs v u b a other one ∙ is)
            go From is = walk_edge (LeadsOn s lists) a b
                (record { «from» = place_candidate u a one; to = place_candidate v b other; edge = edge_opposite s lists a b ∙ ap opposite_of is })
            go Missing is = absurd (given is)

    pub kept_up_to_solid : (u : ℕ) (a : Tx) → slice_get txs u ≡ Some a
        → IsKept s lists a ↔ ((v : ℕ) × (b : Tx) × (slice_get txs v ≡ Some b) × IsSolid s lists b × (number u ≤ number v))
    kept_up_to_solid u a at = (
      (λ kept. kept_stands_low u a at kept),
      (λ low. low_is_kept u low.0 a low.1 at low.2 low.3 low.4),
    )

-- below one more than the last number of a solid transaction
pub kept_below : (s : Parameters) (lists : List (List Tx)) (txs : List Tx) (candidates : AreCandidates s lists txs) (few : length txs ≤ 2048)
    → threshold_of s ≤ solid_of s → 2 * threshold_of s ≤ solid_of s + 1 → (number : ℕ → ℕ) → IsNumbering (graph_of s lists txs) number
    → (last : ℕ) → ((v : ℕ) (b : Tx) → slice_get txs v ≡ Some b → IsSolid s lists b → number v < last)
    → (last ≡ 0) ⊎ ((v : ℕ) × (b : Tx) × (slice_get txs v ≡ Some b) × IsSolid s lists b × (number v + 1 ≡ last))
    → (u : ℕ) (a : Tx) → slice_get txs u ≡ Some a → (number u < last) ↔ IsKept s lists a
kept_below s lists txs candidates few low half number numbering last all some u a at = (
  (λ below. elim some [
    | inl none ↦ absurd (omega arith)
    | inr solid ↦
        let is : number solid.0 + 1 ≡ last = solid.4 in
        let under : number u ≤ number solid.0 = omega arith in
        shows.1 (solid.0, solid.1, solid.2, solid.3, under)
  ]),
  (λ kept.
      let solid = shows.0 kept in
      let under : number u ≤ number solid.0 = solid.4 in
      let over : number solid.0 < last = all solid.0 solid.1 solid.2 solid.3 in
      omega arith),
)
  where
    shows : IsKept s lists a ↔ ((v : ℕ) × (b : Tx) × (slice_get txs v ≡ Some b) × IsSolid s lists b × (number u ≤ number v))
    shows = kept_up_to_solid s lists txs candidates few low half number numbering u a at

pub wanted_are_kept : (s : Parameters) (lists : List (List Tx)) (txs : List Tx) (wanted : List Bool) → AreCandidates s lists txs → length txs ≤ 2048
    → ((k : ℕ) (t : Tx) → slice_get txs k ≡ Some t → (get_or wanted k false ≡ true) ↔ IsKept s lists t) → AreKept s lists (wanted_of wanted txs)
wanted_are_kept s lists txs wanted candidates few shows = record {
  ascending = (IsGraph-kept_of wanted (graph_of s lists txs) (IsGraph-graph_of s lists txs candidates.ascending few)).ascending;
  each = λ t. (
    (λ held. (let place = wanted_shows wanted txs t held in (shows place.0 t place.1).0 place.2)),
    (λ kept. (let place = holds_place txs t ((candidates.each t).1 kept.candidate) in
        wanted_holds wanted txs place.0 t place.1 ((shows place.0 t place.1).1 kept))),
  );
}

-- what is kept is determined by the lists
pub kept_are_one : (s : Parameters) (lists : List (List Tx)) (one other : List Tx) → AreKept s lists one → AreKept s lists other → one ≡ other
kept_are_one s lists one other first second =
    same_members one other first.ascending second.ascending
    (λ t. ((λ held. (second.each t).1 ((first.each t).0 held)), (λ held. (first.each t).1 ((second.each t).0 held))))
