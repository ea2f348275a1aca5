-- A complete graph has one list of batches: each batch is determined by its members, and its position by walks.
use Rattle.std.proofs.Common.{◌≡◌, ℕ, ◌<◌, ◌≤◌, List, [], Some, length, get_or, refl, sym, subst, ◌∙◌, inl, inr, arith}
use Rattle.std.specs.Prelude.{◌⊎◌, slice_get}
use Rattle.std.specs.List.Sorted.{IsStrictlySortedBy}
use Rattle.std.proofs.lemmas.Bool.{cases_lt}
use Rattle.std.proofs.lemmas.List.{same_lists, get_or_default}
use Rattle.std.proofs.lemmas.List.Elements.{All-get_or}
use Rattle.std.proofs.lemmas.Option.{slice_get_within, slice_get-get_or}
use Rattle.seq_base.specs.declared.tx.Tx.{Tx}
use Rattle.seq_base.proofs.Members.{same_members, any_tx}
use Rattle.seq_base.specs.Tx.{tx_cmp}
use Rattle.majority_graph.specs.Graph.{Graph, IsGraph, IsComplete, HasEdge}
use Rattle.batch_laws.specs.Batches.{IsLine, StandsIn, AreBatches}
use Rattle.batch_laws.proofs.WalkJoins.{walk_same, walk_edge}
use Rattle.batch_laws.proofs.Reachability.{same_numbers, same_count}

-- the numbers of the lists that vertices are in are a line
module _ (g : Graph) (graph : IsGraph g) (batches : List (List Tx)) (are : AreBatches g batches) where
  pick : (u : ℕ) → (u < length g.vertices) ⊎ (length g.vertices ≤ u) → ℕ
  pick u (inl inside) = (are.each u (get_or g.vertices u any_tx) (slice_get-get_or g.vertices u any_tx inside)).0
  pick u (inr past) = 0

  pub number_in : ℕ → ℕ
  number_in u = pick u (cases_lt u (length g.vertices))

  pick_is : (u i : ℕ) (a : Tx) (c : (u < length g.vertices) ⊎ (length g.vertices ≤ u)) → slice_get g.vertices u ≡ Some a → StandsIn batches i a → pick u c ≡ i
  unfolding pick
  pick_is u i a (inl inside) at stands =
      let there = are.each u (get_or g.vertices u any_tx) (slice_get-get_or g.vertices u any_tx inside) in
      (are.same u u there.0 i (get_or g.vertices u any_tx) a (slice_get-get_or g.vertices u any_tx inside) at there.2 stands).1
      (walk_same (HasEdge g) u u refl, walk_same (HasEdge g) u u refl)
  pick_is u i a (inr past) at stands = absurd (omega (arith, slice_get_within g.vertices u a at))

  pub number_in_is : (u i : ℕ) (a : Tx) → slice_get g.vertices u ≡ Some a → StandsIn batches i a → number_in u ≡ i
  unfolding number_in
  number_in_is u i a at stands = pick_is u i a (cases_lt u (length g.vertices)) at stands

  -- a vertex is in the list of its number
  pub stands_in : (u : ℕ) (a : Tx) → slice_get g.vertices u ≡ Some a → (number_in u < length batches) × StandsIn batches (number_in u) a
  stands_in u a at =
      let there = are.each u a at in
      let is : there.0 ≡ number_in u = sym (number_in_is u there.0 a at there.2) in
      (subst (λ (k : ℕ). k < length batches) is there.1, subst (λ (k : ℕ). StandsIn batches k a) is there.2)

  vertex : (u : ℕ) → u < length g.vertices → slice_get g.vertices u ≡ Some (get_or g.vertices u any_tx)
  vertex u inside = slice_get-get_or g.vertices u any_tx inside

  pub are_line : IsLine g number_in (length batches)
  are_line = record {
    numbering = record {
      rises = λ u v from to edge.
          let one = stands_in u (get_or g.vertices u any_tx) (vertex u from) in
          let other = stands_in v (get_or g.vertices v any_tx) (vertex v to) in
          elim (cases_lt (number_in v) (number_in u)) [
            | inl less ↦
                let early =
                (are.earlier v u (number_in v) (number_in u) (get_or g.vertices v any_tx) (get_or g.vertices u any_tx) (vertex v to)
                (vertex u from) other.1 one.1).0 less in
                absurd (early.1 (walk_edge (HasEdge g) u v edge))
            | inr low ↦ low
          ];
      same = λ u v from to.
          are.same u v (number_in u) (number_in v) (get_or g.vertices u any_tx) (get_or g.vertices v any_tx) (vertex u from) (vertex v to)
          (stands_in u (get_or g.vertices u any_tx) (vertex u from)).1 (stands_in v (get_or g.vertices v any_tx) (vertex v to)).1;
    };
    below = λ u inside. (stands_in u (get_or g.vertices u any_tx) (vertex u inside)).0;
    used = λ c below.
        let a = are.some c below in
        let u = are.vertices c a.0 a.1 in
        (u.0, slice_get_within g.vertices u.0 a.0 u.1, number_in_is u.0 c a.0 u.1 a.1);
  }

module _ (g : Graph) (graph : IsGraph g) (complete : IsComplete g) (one other : List (List Tx)) (first : AreBatches g one) (second : AreBatches g other) where
  as_many : length one ≡ length other
  as_many =
      same_count g graph complete (number_in g graph one first) (number_in g graph other second) (length one) (length other)
      (are_line g graph one first) (are_line g graph other second)

  over_there : (k : ℕ) (t : Tx) → StandsIn one k t → StandsIn other k t
  over_there k t stands =
      let u = first.vertices k t stands in
      let left : number_in g graph one first u.0 ≡ k = number_in_is g graph one first u.0 k t u.1 stands in
      let same : number_in g graph one first u.0 ≡ number_in g graph other second u.0 =
      same_numbers g graph complete (number_in g graph one first) (number_in g graph other second) (length one) (length other)
      (are_line g graph one first) (are_line g graph other second)
      u.0 (slice_get_within g.vertices u.0 t u.1) in
      subst (λ (n : ℕ). StandsIn other n t) (sym same ∙ left) (stands_in g graph other second u.0 t u.1).1

pub same_batches : (g : Graph) (graph : IsGraph g) (complete : IsComplete g) (one other : List (List Tx)) (first : AreBatches g one)
    (second : AreBatches g other) → one ≡ other
same_batches g graph complete one other first second =
    same_lists one other (as_many g graph complete one other first second)
    (λ k d inside.
    let short : k < length other = omega (arith, as_many g graph complete one other first second) in
    get_or_default one k d [] inside
    ∙ same_members (get_or one k []) (get_or other k [])
    (All-get_or (IsStrictlySortedBy tx_cmp) one k [] inside first.ascending)
    (All-get_or (IsStrictlySortedBy tx_cmp) other k [] short second.ascending)
    (λ t. (over_there g graph complete one other first second k t, over_there g graph complete other one second first k t))
    ∙ get_or_default other k [] d short)
