-- The tests of a graph decide the properties that they are named after.
use Rattle.std.proofs.Common.{◌≡◌, ◌≢◌, ℕ, ◌<◌, List, [], length, get_or, Bool, true, false, not, Some, refl, sym, ap, subst, ◌∙◌, inl, inr, arith}
use Rattle.std.specs.Prelude.{◌&&◌, slice_get, zip, Any}
use Rattle.std.specs.Bool.{Decides}
use Rattle.std.specs.List.{list_any}
use Rattle.std.specs.Ordering.{is_lt}
use Rattle.std.specs.declared.cmp.Ordering.TheVariants.{Less}
use Rattle.std.specs.List.Sorted.{IsStrictlySortedBy}
use Rattle.std.proofs.lemmas.Bool.{and_parts, and_from, not-true, not_from_false, false_from_ne_true, cases_order, cases_eq, both_ways}
use Rattle.std.proofs.lemmas.List.{get_or_default}
use Rattle.std.proofs.lemmas.List.Elements.{All-get_or}
use Rattle.std.proofs.lemmas.List.Folds.{Any-from_list_any, list_any_at}
use Rattle.std.proofs.lemmas.Map.Keys.{Less-from_sorted}
use Rattle.std.proofs.lemmas.Option.{slice_get-get_or, slice_get_within, get_or_from_slice_get}
use Rattle.std.proofs.lemmas.Slice.Zip.{length-zip, get_or-zip}
use Rattle.seq_base.specs.declared.tx.Tx.{Tx}
use Rattle.seq_base.specs.Tx.{tx_cmp, tx_eq, tx_eq_decides}
use Rattle.majority_graph.specs.declared.edge.Edge.{Edge}
use Rattle.majority_graph.specs.declared.edge.Edge.TheVariants.{To, From, Missing}
use Rattle.majority_graph.specs.Graph.{Graph, IsGraph, IsComplete, edge_at}
use Rattle.majority_graph.proofs.EdgeLaws.{one_rises}
use Rattle.fair_update.specs.Waiting.{is_missing, lacks, waits, is_complete, Waits, IsMissingPair}

missing_from_test : (e : Edge) → is_missing e ≡ true → e ≡ Missing
missing_from_test To is = absurd (cc)
missing_from_test From is = absurd (cc)
missing_from_test Missing is = refl

-- vertices at different indices differ
ordered_apart : (vertices : List Tx) (u v : ℕ) (d : Tx) → IsStrictlySortedBy tx_cmp vertices → u < v → v < length vertices
    → get_or vertices u d ≡ get_or vertices v d → ⊥
ordered_apart vertices u v d ascending below inside same =
    let less : tx_cmp (get_or vertices u d) (get_or vertices v d) ≡ Less = Less-from_sorted tx_cmp vertices u v d ascending below inside in
    let self : tx_cmp (get_or vertices v d) (get_or vertices v d) ≡ Less = subst (λ (t : Tx). tx_cmp t (get_or vertices v d) ≡ Less) same less in
    one_rises (get_or vertices v d) (get_or vertices v d) (ap is_lt self) (ap is_lt self)

pub vertices_apart : (vertices : List Tx) (u v : ℕ) (d : Tx) → IsStrictlySortedBy tx_cmp vertices → u < length vertices
    → v < length vertices → u ≢ v → get_or vertices u d ≡ get_or vertices v d → ⊥
vertices_apart vertices u v d ascending from to apart same =
    elim (cases_order u v) [
      | inl one ↦ apart one
      | inr (inl below) ↦ ordered_apart vertices u v d ascending below to same
      | inr (inr above) ↦ ordered_apart vertices v u d ascending above from (sym same)
    ]

module _ (g : Graph) (graph : IsGraph g) where
  row_length : (u : ℕ) (d : List Edge) → u < length g.vertices → length (get_or g.edges u d) ≡ length g.vertices
  row_length u d inside = All-get_or (λ (row : List Edge). length row ≡ length g.vertices) g.edges u d (omega (arith, graph.rows)) graph.columns

  abbrev of_row : Tx → Tx × Edge → Bool
  of_row u entry = is_missing entry.1 && not (tx_eq entry.0 u)

  abbrev of_table : Tx → Tx × List Edge → Bool
  of_table t entry = tx_eq entry.0 t && lacks g.vertices entry.0 entry.1

  -- a missing entry of a row
  missing_entry : (u : ℕ) (t : Tx) (d : List Edge) → u < length g.vertices → slice_get g.vertices u ≡ Some t
      → lacks g.vertices t (get_or g.edges u d) ≡ true → Waits g t
  missing_entry u t d inside from is =
      let row : List Edge = get_or g.edges u d in
      let long : length row ≡ length g.vertices = row_length u d inside in
      let found : Any (λ entry. of_row t entry ≡ true) (zip g.vertices row) = Any-from_list_any (of_row t) (zip g.vertices row) is in
      let v : ℕ = found.0 in
      let entry : Tx × Edge = found.1 in
      let within : v < length g.vertices = omega (arith, found.2, length-zip g.vertices row) in
      let long_enough : v < length row = omega (arith, within, long) in
      let read : entry ≡ (get_or g.vertices v entry.0, get_or row v entry.1) = sym found.3 ∙ get_or-zip g.vertices row v entry within long_enough in
      let parts : (is_missing entry.1 ≡ true) × (not (tx_eq entry.0 t) ≡ true) = and_parts (is_missing entry.1) (not (tx_eq entry.0 t)) found.4 in
      let tx_read : entry.0 ≡ get_or g.vertices v entry.0 = ap (λ (e : Tx × Edge). e.0) read in
      let edge_read : entry.1 ≡ get_or row v entry.1 = ap (λ (e : Tx × Edge). e.1) read in
      let other : tx_eq entry.0 t ≡ false = not-true (tx_eq entry.0 t) parts.1 in (
        u,
        v,
        record {
          from = from;
          to = within;
          apart = λ same. both_ways (tx_eq entry.0 t) other ((tx_eq_decides entry.0 t).1
              (tx_read ∙ ap (λ (k : ℕ). get_or g.vertices k entry.0) (sym same) ∙ get_or_from_slice_get g.vertices u t entry.0 from));
          missing = ap (λ (r : List Edge). get_or r v Missing) (get_or_default g.edges u [] d (omega (arith, graph.rows)))
              ∙ get_or_default row v Missing entry.1 long_enough ∙ sym edge_read ∙ missing_from_test entry.1 parts.0;
        },
      )

  waits_shows : (t : Tx) → waits g t ≡ true → Waits g t
  waits_shows t is =
      let found : Any (λ entry. of_table t entry ≡ true) (zip g.vertices g.edges) = Any-from_list_any (of_table t) (zip g.vertices g.edges) is in
      let u : ℕ = found.0 in
      let entry : Tx × List Edge = found.1 in
      let within : u < length g.vertices = omega (arith, found.2, length-zip g.vertices g.edges) in
      let inside : u < length g.edges = omega (arith, within, graph.rows) in
      let read : entry ≡ (get_or g.vertices u entry.0, get_or g.edges u entry.1) = sym found.3 ∙ get_or-zip g.vertices g.edges u entry within inside in
      let parts : (tx_eq entry.0 t ≡ true) × (lacks g.vertices entry.0 entry.1 ≡ true) =
      and_parts (tx_eq entry.0 t) (lacks g.vertices entry.0 entry.1) found.4 in
      let is_t : entry.0 ≡ t = (tx_eq_decides entry.0 t).0 parts.0 in
      let from : slice_get g.vertices u ≡ Some t =
      slice_get-get_or g.vertices u entry.0 within ∙ ap (λ (x : Tx). Some x) (sym (ap (λ (e : Tx × List Edge). e.0) read) ∙ is_t) in
      let row_read : entry.1 ≡ get_or g.edges u entry.1 = ap (λ (e : Tx × List Edge). e.1) read in
      missing_entry u t entry.1 within from
      (subst (λ (row : List Edge). lacks g.vertices t row ≡ true) row_read (subst (λ (x : Tx). lacks g.vertices x entry.1 ≡ true) is_t parts.1))

  waits_shown : (t : Tx) → Waits g t → waits g t ≡ true
  waits_shown t pair =
      let u : ℕ = pair.0 in
      let v : ℕ = pair.1 in
      let is : IsMissingPair g t u v = pair.2 in
      let within : u < length g.vertices = slice_get_within g.vertices u t is.from in
      let inside : u < length g.edges = omega (arith, within, graph.rows) in
      let row : List Edge = get_or g.edges u [] in
      let long : v < length row = omega (arith, is.to, row_length u [] within) in
      let here : get_or g.vertices u t ≡ t = get_or_from_slice_get g.vertices u t t is.from in
      let other : tx_eq (get_or g.vertices v t) t ≡ false =
      false_from_ne_true (tx_eq (get_or g.vertices v t) t)
      (λ same. vertices_apart g.vertices u v t graph.ascending within is.to is.apart (here ∙ sym ((tx_eq_decides (get_or g.vertices v t) t).0 same))) in
      let entry : of_row t (get_or g.vertices v t, get_or row v Missing) ≡ true =
      and_from (is_missing (get_or row v Missing)) (not (tx_eq (get_or g.vertices v t) t)) (ap is_missing is.missing)
      (not_from_false (tx_eq (get_or g.vertices v t) t) other) in
      let lacking : lacks g.vertices t row ≡ true =
      list_any_at (of_row t) (zip g.vertices row) v (t, Missing) (omega (arith, is.to, long, length-zip g.vertices row))
      (subst (λ (e : Tx × Edge). of_row t e ≡ true) (sym (get_or-zip g.vertices row v (t, Missing) is.to long)) entry) in
      let at_u : of_table t (get_or g.vertices u t, row) ≡ true =
      subst (λ (x : Tx). of_table t (x, row) ≡ true) (sym here) (and_from (tx_eq t t) (lacks g.vertices t row) ((tx_eq_decides t t).1 refl) lacking) in
      list_any_at (of_table t) (zip g.vertices g.edges) u (t, []) (omega (arith, within, inside, length-zip g.vertices g.edges))
      (subst (λ (e : Tx × List Edge). of_table t e ≡ true) (sym (get_or-zip g.vertices g.edges u (t, []) within inside)) at_u)

  pub waits_decides : (t : Tx) → Decides (waits g t) (Waits g t)
  waits_decides t = (waits_shows t, waits_shown t)

  complete_shows : is_complete g ≡ true → IsComplete g
  complete_shows complete u v from to apart missing =
      let none : list_any (waits g) g.vertices ≡ false = not-true (list_any (waits g) g.vertices) complete in
      let t : Tx = get_or g.vertices u (record { client = 0; number = 0; payload = 0 }) in
      let still : waits g t ≡ true = waits_shown t (u, v, record { from = slice_get-get_or g.vertices u _ from; to = to; apart = apart; missing = missing }) in
      both_ways (list_any (waits g) g.vertices) none (list_any_at (waits g) g.vertices u (record { client = 0; number = 0; payload = 0 }) from still)

  complete_shown : IsComplete g → is_complete g ≡ true
  complete_shown complete =
      not_from_false (list_any (waits g) g.vertices) (false_from_ne_true (list_any (waits g) g.vertices) (λ some.
      let found : Any (λ t. waits g t ≡ true) g.vertices = Any-from_list_any (waits g) g.vertices some in
      let pair : Waits g found.1 = waits_shows found.1 found.4 in
      complete pair.0 pair.1 (slice_get_within g.vertices pair.0 found.1 pair.2.from) pair.2.to pair.2.apart pair.2.missing))

  pub complete_decides : Decides (is_complete g) (IsComplete g)
  complete_decides = (complete_shows, complete_shown)

  -- a vertex with all its edges does not wait
  pub none_waits : (u : ℕ) (t : Tx) → slice_get g.vertices u ≡ Some t → ((y : ℕ) → y < length g.vertices → u ≢ y → edge_at g u y ≢ Missing) → waits g t ≡ false
  none_waits u t from given =
      false_from_ne_true (waits g t) (λ is.
      let pair : Waits g t = waits_shows t is in
      let there : pair.0 < length g.vertices = slice_get_within g.vertices pair.0 t pair.2.from in
      let here : u < length g.vertices = slice_get_within g.vertices u t from in
      let one : get_or g.vertices pair.0 t ≡ get_or g.vertices u t = get_or_from_slice_get g.vertices pair.0 t t pair.2.from
      ∙ sym (get_or_from_slice_get g.vertices u t t from) in
      elim (cases_eq pair.0 u) [
        | inl same ↦
            given pair.1 pair.2.to (λ e. pair.2.apart (same ∙ e)) (subst (λ (x : ℕ). edge_at g x pair.1 ≡ Missing) same pair.2.missing)
        | inr apart ↦ vertices_apart g.vertices pair.0 u t graph.ascending there here apart one
      ])
