-- One more block, for any graph: the entries of the table, and what is unchanged.
use Rattle.std.proofs.Common.{◌≡◌, ℕ, ◌<◌, List, [], length, get_or, Some, refl, sym, ap, subst, ◌∙◌, inl, inr, arith}
use Rattle.std.specs.Prelude.{◌≢◌, ◌⊎◌, slice_get, zip}
use Rattle.std.proofs.lemmas.Bool.{cases_eq, cases_order}
use Rattle.std.proofs.lemmas.List.{get_or-map, length-map, ext_get_or}
use Rattle.std.proofs.lemmas.List.Elements.{All-get_or, All-map}
use Rattle.std.proofs.lemmas.Option.{slice_get-get_or}
use Rattle.std.proofs.lemmas.Slice.Zip.{length-zip, get_or-zip}
use Rattle.seq_base.specs.declared.tx.Tx.{Tx}
use Rattle.seq_base.specs.Setting.{Parameters}
use Rattle.seq_base.proofs.Members.{any_tx}
use Rattle.majority_graph.specs.declared.edge.Edge.{Edge}
use Rattle.majority_graph.specs.declared.edge.Edge.TheVariants.{To, From, Missing}
use Rattle.majority_graph.specs.Edges.{edge_between, opposite_of}
use Rattle.majority_graph.specs.Graph.{Graph, IsGraph, IsComplete, edge_at}
use Rattle.majority_graph.proofs.EdgeLaws.{edge_opposite}
use Rattle.majority_graph.proofs.WantedFirst.{with_rows}
use Rattle.fair_update.specs.Merging.{AreRanked, IsMerged, edge_by_rank}
use Rattle.majority_graph.specs.Later.{or_edge}
use Rattle.fair_update.specs.Updates.{updated_row, updated}
use Rattle.fair_update.proofs.Given.{edge_between-self, given_is_left, opposite_given, turned_is_missing}

pub missing_or_given : (e : Edge) → (e ≡ Missing) ⊎ (e ≢ Missing)
missing_or_given To = inr (λ same. absurd (cc))
missing_or_given From = inr (λ same. absurd (cc))
missing_or_given Missing = inl refl

row_length : (g : Graph) → IsGraph g → (u : ℕ) (d : List Edge) → u < length g.vertices → length (get_or g.edges u d) ≡ length g.vertices
row_length g graph u d inside = All-get_or (λ (row : List Edge). length row ≡ length g.vertices) g.edges u d (omega (arith, graph.rows)) graph.columns

module _ (s : Parameters) (late : List (List Tx)) (g : Graph) (graph : IsGraph g) where
  entry_of : Tx → Tx × Edge → Edge
  entry_of u entry = or_edge entry.1 (edge_between s late u entry.0)

  row_of : Tx × List Edge → List Edge
  row_of entry = updated_row s late g.vertices entry.0 entry.1

  pub edge_at-updated : (u v : ℕ) (d : Tx) → u < length g.vertices → v < length g.vertices
      → edge_at (updated s late g) u v ≡ or_edge (edge_at g u v) (edge_between s late (get_or g.vertices u d) (get_or g.vertices v d))
  unfolding entry_of row_of
  edge_at-updated u v d from to =
      let row : List Edge = get_or g.edges u [] in
      let inside : u < length g.edges = omega (arith, from, graph.rows) in
      let long : v < length row = omega (arith, to, row_length g graph u [] from) in
      let of_row : get_or (updated s late g).edges u [] ≡ updated_row s late g.vertices (get_or g.vertices u d) row =
      get_or-map row_of (zip g.vertices g.edges) u (d, []) [] (omega (arith, from, inside, length-zip g.vertices g.edges))
      ∙ ap row_of (get_or-zip g.vertices g.edges u (d, []) from inside) in
      ap (λ (r : List Edge). get_or r v Missing) of_row
      ∙ get_or-map (entry_of (get_or g.vertices u d)) (zip g.vertices row) v (d, Missing) Missing (omega (arith, to, long, length-zip g.vertices row))
      ∙ ap (entry_of (get_or g.vertices u d)) (get_or-zip g.vertices row v (d, Missing) to long)

  pub IsGraph-updated : IsGraph (updated s late g)
  unfolding entry_of row_of
  IsGraph-updated = record {
    ascending = graph.ascending;
    few = graph.few;
    rows = length-map (zip g.vertices g.edges) row_of ∙ (omega (arith, length-zip g.vertices g.edges, graph.rows));
    columns = All-map (λ (row : List Edge). length row ≡ length g.vertices) row_of (zip g.vertices g.edges) (λ k d inside.
        let within : k < length g.vertices = omega (arith, inside, length-zip g.vertices g.edges) in
        let entry : Tx × List Edge = get_or (zip g.vertices g.edges) k d in
        let row_read : entry.1 ≡ get_or g.edges k d.1 =
        ap (λ (e : Tx × List Edge). e.1) (get_or-zip g.vertices g.edges k d within (omega (arith, within, graph.rows))) in
        let long : length entry.1 ≡ length g.vertices = ap length row_read ∙ row_length g graph k d.1 within in
        length-map (zip g.vertices entry.1) (entry_of entry.0) ∙ (omega (arith, long, length-zip g.vertices entry.1)));
    one_way = λ u v from to.
        edge_at-updated u v any_tx from to
        ∙ ap (λ (e : Edge). or_edge e (edge_between s late (get_or g.vertices u any_tx) (get_or g.vertices v any_tx))) (graph.one_way u v from to)
        ∙ ap (λ (e : Edge). or_edge (opposite_of (edge_at g v u)) e) (edge_opposite s late (get_or g.vertices u any_tx) (get_or g.vertices v any_tx))
        ∙ opposite_given (edge_at g v u) (edge_between s late (get_or g.vertices v any_tx) (get_or g.vertices u any_tx))
        ∙ ap opposite_of (sym (edge_at-updated v u any_tx to from));
  }

-- two graphs with the same vertices and edges are equal
pub same_graph : (g h : Graph) → IsGraph g → IsGraph h → g.vertices ≡ h.vertices
    → ((u v : ℕ) → u < length g.vertices → v < length g.vertices → edge_at g u v ≡ edge_at h u v) → g ≡ h
same_graph g h one two vertices edges =
    let long : length g.vertices ≡ length h.vertices = ap length vertices in
    let rows : g.edges ≡ h.edges =
    ext_get_or [] g.edges h.edges (one.rows ∙ long ∙ sym two.rows) (λ u inside.
    let from : u < length g.vertices = omega (arith, inside, one.rows) in
    let here : length (get_or g.edges u []) ≡ length g.vertices = row_length g one u [] from in
    let there : length (get_or h.edges u []) ≡ length h.vertices = row_length h two u [] (omega (arith, from, long)) in
    ext_get_or Missing (get_or g.edges u []) (get_or h.edges u []) (here ∙ long ∙ sym there) (λ v within. edges u v from (omega (arith, within, here)))) in
    ap (λ (vs : List Tx). with_rows vs g.edges) vertices ∙ ap (with_rows h.vertices) rows

-- no graph has an edge on the diagonal
pub none_on_diagonal : (g : Graph) → IsGraph g → (u : ℕ) → u < length g.vertices → edge_at g u u ≡ Missing
none_on_diagonal g graph u inside = turned_is_missing (edge_at g u u) (graph.one_way u u inside inside)

-- a complete graph is unchanged
pub complete-updated : (s : Parameters) (late : List (List Tx)) (g : Graph) → IsGraph g → IsComplete g → updated s late g ≡ g
complete-updated s late g graph complete =
    same_graph (updated s late g) g (IsGraph-updated s late g graph) graph refl (λ u v from to.
    edge_at-updated s late g graph u v any_tx from to ∙ elim (cases_eq u v) [
      | inl one ↦
          let missing : edge_at g u v ≡ Missing = subst (λ (w : ℕ). edge_at g u w ≡ Missing) one (none_on_diagonal g graph u from) in
          let self : edge_between s late (get_or g.vertices u any_tx) (get_or g.vertices v any_tx) ≡ Missing =
          subst (λ (w : ℕ). edge_between s late (get_or g.vertices u any_tx) (get_or g.vertices w any_tx) ≡ Missing) one
          (edge_between-self s late (get_or g.vertices u any_tx)) in
          ap (λ (e : Edge). or_edge e (edge_between s late (get_or g.vertices u any_tx) (get_or g.vertices v any_tx))) missing ∙ self ∙ sym missing
      | inr apart ↦ given_is_left (edge_at g u v) (edge_between s late (get_or g.vertices u any_tx) (get_or g.vertices v any_tx)) (complete u v from to apart)
    ])

module _ (s : Parameters) (late : List (List Tx)) (old given new : Graph) (ranks : List ℕ)
    (graph : IsGraph old) (graph_now : IsGraph new) (ranked : AreRanked old given.vertices ranks) (weighed : (u v : ℕ) (a b : Tx)
    → slice_get given.vertices u ≡ Some a → slice_get given.vertices v ≡ Some b → edge_at given u v ≡ edge_between s late a b)
    (merged : IsMerged old given ranks new) where
  ascending_pair : (u v : ℕ) → u < v → v < length old.vertices → edge_at new u v ≡ edge_at (updated s late old) u v
  ascending_pair u v below to =
      let from : u < length old.vertices = omega (arith, below, to) in
      let after : edge_at (updated s late old) u v
      ≡ or_edge (edge_at old u v) (edge_between s late (get_or old.vertices u any_tx) (get_or old.vertices v any_tx)) =
      edge_at-updated s late old graph u v any_tx from to in
      merged.pairs u v below to ∙ elim (missing_or_given (edge_at old u v)) [
        | inl missing ↦
            let turned : edge_at old v u ≡ Missing = graph.one_way v u to from ∙ ap opposite_of missing in
            let first : slice_get given.vertices (get_or ranks u 0) ≡ Some (get_or old.vertices u any_tx) =
            ranked.each u v from to (λ same. absurd (omega (arith, same, below))) missing ∙ slice_get-get_or old.vertices u any_tx from in
            let second : slice_get given.vertices (get_or ranks v 0) ≡ Some (get_or old.vertices v any_tx) =
            ranked.each v u to from (λ same. absurd (omega (arith, same, below))) turned ∙ slice_get-get_or old.vertices v any_tx to in
            ap (λ (e : Edge). or_edge (edge_at old u v) e)
            (weighed (get_or ranks u 0) (get_or ranks v 0) (get_or old.vertices u any_tx) (get_or old.vertices v any_tx) first second)
            ∙ sym after
        | inr given_before ↦
            given_is_left (edge_at old u v) (edge_by_rank given ranks u v) given_before
            ∙ sym (after ∙ given_is_left (edge_at old u v) (edge_between s late (get_or old.vertices u any_tx) (get_or old.vertices v any_tx)) given_before)
      ]

  -- merging the edges that the late lists give to waiting transactions gives the graph after one more block
  pub merged_is_updated : new ≡ updated s late old
  merged_is_updated =
      let long : length new.vertices ≡ length old.vertices = ap length merged.vertices in
      let after : IsGraph (updated s late old) = IsGraph-updated s late old graph in
      same_graph new (updated s late old) graph_now after merged.vertices (λ u v from to.
      let inside : u < length old.vertices = omega (arith, from, long) in
      let within : v < length old.vertices = omega (arith, to, long) in
      elim (cases_order u v) [
        | inl one ↦
            subst (λ (w : ℕ). edge_at new u w ≡ edge_at (updated s late old) u w) one
            (none_on_diagonal new graph_now u from ∙ sym (none_on_diagonal (updated s late old) after u inside))
        | inr (inl below) ↦ ascending_pair u v below within
        | inr (inr above) ↦
            graph_now.one_way u v from to ∙ ap opposite_of (ascending_pair v u above inside) ∙ sym (after.one_way u v inside within)
      ])
