-- A pair is given a new edge.
use Rattle.std.proofs.Common.{◌≡◌, ◌≢◌, ℕ, ◌<◌, List, [], length, get_or, refl, sym, ap, subst, ◌∙◌, inl, inr, arith}
use Rattle.std.specs.Prelude.{All}
use Rattle.std.proofs.lemmas.Bool.{cases_eq}
use Rattle.std.proofs.lemmas.List.{length-set}
use Rattle.std.proofs.lemmas.List.Elements.{All-get_or}
use Rattle.majority_graph.specs.declared.edge.Edge.{Edge}
use Rattle.majority_graph.specs.Edges.{opposite_of}
use Rattle.majority_graph.specs.Graph.{Graph, IsGraph, ChangesPair, edge_at, set_at}
use Rattle.majority_graph.proofs.EdgeLaws.{opposite-opposite}
use Rattle.majority_graph.proofs.Rows.{entry_set, entry_kept, columns_kept}

-- both entries of the pair are written
abbrev pub with_pair : Graph → ℕ → ℕ → Edge → Graph
with_pair g u v edge = record { vertices = g.vertices; edges = set_at (set_at g.edges u v edge) v u (opposite_of edge) }

module _ (g : Graph) (u v : ℕ) (edge : Edge) (graph : IsGraph g) (from : u < length g.vertices) (to : v < length g.vertices) (apart : u ≢ v) where
  row : u < length g.edges
  row = omega (arith, graph.rows)

  row_length : (x : ℕ) → x < length g.vertices → length (get_or g.edges x []) ≡ length g.vertices
  row_length x inside = All-get_or (λ (r : List Edge). length r ≡ length g.vertices) g.edges x [] (omega (arith, graph.rows)) graph.columns

  abbrev once : List (List Edge)
  once = set_at g.edges u v edge

  once_rows : length once ≡ length g.vertices
  once_rows = length-set g.edges u _ ∙ graph.rows

  once_columns : All (λ (r : List Edge). length r ≡ length g.vertices) once
  once_columns = columns_kept g.edges u v (length g.vertices) edge row graph.columns

  once_row_length : length (get_or once v []) ≡ length g.vertices
  once_row_length = All-get_or (λ (r : List Edge). length r ≡ length g.vertices) once v [] (omega (arith, once_rows)) once_columns

  pub changes_pair : ChangesPair g (with_pair g u v edge) u v edge
  changes_pair = record {
    vertices = refl;
    forward = entry_kept once v u u v (opposite_of edge) (omega (arith, once_rows)) (λ same other. apart same)
        ∙ entry_set g.edges u v edge row (omega (arith, row_length u from));
    backward = entry_set once v u (opposite_of edge) (omega (arith, once_rows)) (omega (arith, once_row_length));
    others = λ x y not_pair not_turned. entry_kept once v u x y (opposite_of edge) (omega (arith, once_rows)) not_turned
        ∙ entry_kept g.edges u v x y edge row not_pair;
  }

  pub changes_pair_as : (e : Edge) → edge ≡ e → ChangesPair g (with_pair g u v edge) u v e
  changes_pair_as e same = subst (λ (x : Edge). ChangesPair g (with_pair g u v edge) u v x) same changes_pair

  as_before : (x y : ℕ) → x < length g.vertices → y < length g.vertices
      → (x ≡ u → y ≡ v → ⊥) → (x ≡ v → y ≡ u → ⊥) → (y ≡ u → x ≡ v → ⊥) → (y ≡ v → x ≡ u → ⊥)
      → edge_at (with_pair g u v edge) x y ≡ opposite_of (edge_at (with_pair g u v edge) y x)
  as_before x y left right one two three four =
      changes_pair.others x y one two ∙ graph.one_way x y left right ∙ ap opposite_of (sym (changes_pair.others y x three four))

  one_way_still : (x y : ℕ) → x < length g.vertices → y < length g.vertices
      → edge_at (with_pair g u v edge) x y ≡ opposite_of (edge_at (with_pair g u v edge) y x)
  one_way_still x y left right =
      elim (cases_eq x u) [
        | inl at_u ↦ elim (cases_eq y v) [
          | inl at_v ↦ rw (at_u, at_v, changes_pair.forward, changes_pair.backward) (sym (opposite-opposite edge))
          | inr other ↦ as_before x y left right (λ _ same. other same) (λ same _. apart (sym at_u ∙ same))
              (λ _ same. apart (sym at_u ∙ same)) (λ same _. other same)
        ]
        | inr not_u ↦ elim (cases_eq x v) [
          | inl at_v ↦ elim (cases_eq y u) [
            | inl at_u ↦ rw (at_v, at_u, changes_pair.forward, changes_pair.backward) refl
            | inr other ↦ as_before x y left right (λ same _. not_u same) (λ _ same. other same) (λ same _. other same) (λ _ same. not_u same)
          ]
          | inr not_v ↦ as_before x y left right (λ same _. not_u same) (λ same _. not_v same) (λ _ same. not_v same) (λ _ same. not_u same)
        ]
      ]

  pub IsGraph-with_pair : IsGraph (with_pair g u v edge)
  IsGraph-with_pair = record {
    ascending = graph.ascending;
    few = graph.few;
    rows = length-set once v _ ∙ once_rows;
    columns = columns_kept once v u (length g.vertices) (opposite_of edge) (omega (arith, once_rows)) once_columns;
    one_way = one_way_still;
  }
