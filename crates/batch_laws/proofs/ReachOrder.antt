-- A vertex that reaches more is in an earlier component.
use Rattle.std.proofs.Common.{ℕ, ◌≡◌, ◌<◌, ◌≤◌, length, get_or, Bool, true, false, refl, sym, ap, subst, ◌∙◌, inl, inr, arith}
use Rattle.std.specs.Prelude.{◌⊎◌, ◌&&◌, ◌==◌}
use Rattle.std.specs.List.{range_with_len}
use Rattle.std.proofs.lemmas.Bool.{cases_Bool, cases_order, cases_lt, and_parts, and_from, and_right, eq-eqb, false≢true}
use Rattle.std.proofs.lemmas.List.FromFn.{length-range_with_len, get_or-range_with_len}
use Rattle.std.proofs.lemmas.List.Sums.{passes_at_first, fails_before_first}
use Rattle.majority_graph.specs.Graph.{Graph, IsGraph, HasEdge}
use Rattle.majority_graph.specs.Walks.{Walks}
use Rattle.batch_laws.specs.Batches.{InOneBatch, IsNumbering}
use Rattle.batch_laws.specs.Reached.{ReportWalks, reached_from, head_of, stands_before, heads_before, number_by_reach, heads_in}
use Rattle.batch_laws.proofs.WalkJoins.{walk_join, walk_edge, walk_same}
use Rattle.batch_laws.proofs.Tallies.{count_within_at, count_less_at}
use Rattle.batch_laws.proofs.Precedence.{before_itself, before_by_more, before_by_head, before_join}

module _ (g : Graph) (graph : IsGraph g) (reaches : ℕ → ℕ → Bool) (report : ReportWalks g reaches) where
  abbrev all : ℕ
  all = length g.vertices

  abbrev both : ℕ → ℕ → Bool
  both u v = reaches u v && reaches v u

  range_long : length (range_with_len 0 all) ≡ all
  range_long = length-range_with_len 0 all

  pub at : (k : ℕ) → k < all → get_or (range_with_len 0 all) k 0 ≡ k
  at k below = get_or-range_with_len 0 all k 0 below ∙ omega arith

  both_shows : (u v : ℕ) → u < all → v < all → both u v ≡ true → InOneBatch g u v
  both_shows u v from to is = let parts = and_parts (reaches u v) (reaches v u) is in ((report u v from to).0 parts.0, (report v u to from).0 parts.1)

  both_from : (u v : ℕ) → u < all → v < all → InOneBatch g u v → both u v ≡ true
  both_from u v from to one = and_from (reaches u v) (reaches v u) ((report u v from to).1 one.0) ((report v u to from).1 one.1)

  itself : (u : ℕ) → u < all → both u u ≡ true
  itself u inside = both_from u u inside inside (walk_same (HasEdge g) u u refl, walk_same (HasEdge g) u u refl)

  -- properties of a head
  head_low : (u : ℕ) → u < all → head_of reaches all u ≤ u
  head_low u inside =
      elim (cases_lt u (head_of reaches all u)) [
        | inl below ↦ absurd (false≢true (sym (fails_before_first (both u) (range_with_len 0 all) u 0 below) ∙ ap (both u) (at u inside) ∙ itself u inside))
        | inr low ↦ low
      ]

  head_inside : (u : ℕ) → u < all → head_of reaches all u < all
  head_inside u inside = let low = head_low u inside in omega arith

  with_head : (u : ℕ) → u < all → InOneBatch g u (head_of reaches all u)
  with_head u inside =
      let short = head_inside u inside in
      both_shows u (head_of reaches all u) inside short
      (ap (both u) (sym (at (head_of reaches all u) short)) ∙ passes_at_first (both u) (range_with_len 0 all) 0 (omega (arith, range_long)))

  same_join : (u v w : ℕ) → InOneBatch g u v → InOneBatch g v w → InOneBatch g u w
  same_join u v w one other = (walk_join (HasEdge g) u v w one.0 other.0, walk_join (HasEdge g) w v u other.1 one.1)

  -- a head is the least of its component
  head_least : (u v : ℕ) → u < all → v < all → InOneBatch g u v → head_of reaches all u ≤ v
  head_least u v from to one =
      elim (cases_lt v (head_of reaches all u)) [
        | inl below ↦
            absurd (false≢true (sym (fails_before_first (both u) (range_with_len 0 all) v 0 below) ∙ ap (both u) (at v to) ∙ both_from u v from to one))
        | inr low ↦ low
      ]

  pub same_head : (u v : ℕ) → u < all → v < all → InOneBatch g u v → head_of reaches all u ≡ head_of reaches all v
  same_head u v from to one =
      let left : head_of reaches all u ≤ head_of reaches all v =
      head_least u (head_of reaches all v) from (head_inside v to) (same_join u v (head_of reaches all v) one (with_head v to)) in
      let right : head_of reaches all v ≤ head_of reaches all u =
      head_least v (head_of reaches all u) to (head_inside u from) (same_join v u (head_of reaches all u) (one.1, one.0) (with_head u from)) in
      omega arith

  one_head : (u v : ℕ) → u < all → v < all → head_of reaches all u ≡ head_of reaches all v → InOneBatch g u v
  one_head u v from to same =
      let there = with_head u from in
      let back = with_head v to in
      same_join u (head_of reaches all u) v there (subst (λ (h : ℕ). InOneBatch g h v) (sym same) (back.1, back.0))

  -- a vertex that leads to another reaches what the other reaches
  reach_more : (u v : ℕ) → u < all → v < all → Walks (HasEdge g) u v → reached_from reaches all v ≤ reached_from reaches all u
  reach_more u v from to walk =
      count_within_at (reaches v) (reaches u) (range_with_len 0 all) 0 (onward u v from to walk)
    where
      onward : (a b : ℕ) → a < all → b < all → Walks (HasEdge g) a b → (i : ℕ) → i < length (range_with_len 0 all)
          → reaches b (get_or (range_with_len 0 all) i 0) ≡ true → reaches a (get_or (range_with_len 0 all) i 0) ≡ true
      onward a b x y leads i inside is =
          let short : i < all = omega (arith, range_long) in
          let on : Walks (HasEdge g) b i = (report b i y short).0 (ap (reaches b) (sym (at i short)) ∙ is) in
          ap (reaches a) (at i short) ∙ (report a i x short).1 (walk_join (HasEdge g) a b i leads on)

  reach_less : (u v : ℕ) → u < all → v < all → Walks (HasEdge g) u v → reaches v u ≡ false → reached_from reaches all v < reached_from reaches all u
  reach_less u v from to walk never =
      count_less_at (reaches v) (reaches u) (range_with_len 0 all) 0
      (λ i inside is.
      let short : i < all = omega (arith, range_long) in
      let on : Walks (HasEdge g) v i = (report v i to short).0 (ap (reaches v) (sym (at i short)) ∙ is) in
      ap (reaches u) (at i short) ∙ (report u i from short).1 (walk_join (HasEdge g) u v i walk on))
      u (omega (arith, range_long))
      (ap (reaches v) (at u from) ∙ never)
      (ap (reaches u) (at u from) ∙ (report u u from from).1 (walk_same (HasEdge g) u u refl))

  same_reach : (u v : ℕ) → u < all → v < all → InOneBatch g u v → reached_from reaches all u ≡ reached_from reaches all v
  same_reach u v from to one =
      let left = reach_more u v from to one.0 in
      let right = reach_more v u to from one.1 in
      omega arith

  abbrev is_before : ℕ → ℕ → Bool
  is_before u v = stands_before (reached_from reaches all u) (head_of reaches all u) (reached_from reaches all v) (head_of reaches all v)

  pub same_number : (u v : ℕ) → u < all → v < all → InOneBatch g u v → number_by_reach reaches all u ≡ number_by_reach reaches all v
  same_number u v from to one =
      ap (λ (n : ℕ). heads_before reaches all n (head_of reaches all u)) (same_reach u v from to one)
      ∙ ap (λ (h : ℕ). heads_before reaches all (reached_from reaches all v) h) (same_head u v from to one)

  head_is_head : (u : ℕ) → u < all → (head_of reaches all (head_of reaches all u) == head_of reaches all u) ≡ true
  head_is_head u inside =
      eq-eqb (head_of reaches all (head_of reaches all u)) (head_of reaches all u)
      (sym (same_head u (head_of reaches all u) inside (head_inside u inside) (with_head u inside)))

  head_before : (u v : ℕ) → u < all → is_before (head_of reaches all u) v ≡ is_before u v
  head_before u v inside =
      let short = head_inside u inside in
      ap (λ (n : ℕ). stands_before n (head_of reaches all (head_of reaches all u)) (reached_from reaches all v) (head_of reaches all v))
      (sym (same_reach u (head_of reaches all u) inside short (with_head u inside)))
      ∙ ap (λ (h : ℕ). stands_before (reached_from reaches all u) h (reached_from reaches all v) (head_of reaches all v))
      (sym (same_head u (head_of reaches all u) inside short (with_head u inside)))

  -- the test of `heads_before`
  abbrev counted : ℕ → ℕ → Bool
  counted u w = (head_of reaches all w == w) && is_before w u

  not_its_own : (u : ℕ) → u < all → counted u (head_of reaches all u) ≡ false
  not_its_own u inside =
      and_right (head_of reaches all (head_of reaches all u) == head_of reaches all u) (is_before (head_of reaches all u) u)
      (head_before u u inside ∙ before_itself (reached_from reaches all u) (head_of reaches all u))

  pub before_is_lower : (u v : ℕ) → u < all → is_before u v ≡ true → number_by_reach reaches all u < number_by_reach reaches all v
  before_is_lower u v inside before =
      let short = head_inside u inside in
      count_less_at (counted u) (counted v) (range_with_len 0 all) 0
      (λ i below is. onward (get_or (range_with_len 0 all) i 0) is)
      (head_of reaches all u) (omega (arith, range_long))
      (ap (counted u) (at (head_of reaches all u) short) ∙ not_its_own u inside)
      (ap (counted v) (at (head_of reaches all u) short)
      ∙ and_from (head_of reaches all (head_of reaches all u) == head_of reaches all u) (is_before (head_of reaches all u) v)
      (head_is_head u inside) (head_before u v inside ∙ before))
    where
      onward : (w : ℕ) → counted u w ≡ true → counted v w ≡ true
      onward w is =
          let parts = and_parts (head_of reaches all w == w) (is_before w u) is in
          and_from (head_of reaches all w == w) (is_before w v) parts.0
          (before_join (reached_from reaches all w) (head_of reaches all w) (reached_from reaches all u) (head_of reaches all u)
          (reached_from reaches all v) (head_of reaches all v) parts.1 before)

  pub below_heads : (u : ℕ) → u < all → number_by_reach reaches all u < heads_in reaches all
  below_heads u inside =
      let short = head_inside u inside in
      count_less_at (counted u) (λ w. head_of reaches all w == w) (range_with_len 0 all) 0
      (λ i below is. (and_parts (head_of reaches all (get_or (range_with_len 0 all) i 0) == get_or (range_with_len 0 all) i 0)
      (is_before (get_or (range_with_len 0 all) i 0) u) is).0)
      (head_of reaches all u) (omega (arith, range_long))
      (ap (counted u) (at (head_of reaches all u) short) ∙ not_its_own u inside)
      (ap (λ (w : ℕ). head_of reaches all w == w) (at (head_of reaches all u) short) ∙ head_is_head u inside)

  one_before : (u v : ℕ) → u < all → v < all → (InOneBatch g u v → ⊥) → (is_before u v ≡ true) ⊎ (is_before v u ≡ true)
  one_before u v from to differ =
      elim (cases_order (reached_from reaches all u) (reached_from reaches all v)) [
        | inl tie ↦ elim (cases_order (head_of reaches all u) (head_of reaches all v)) [
          | inl same ↦ absurd (differ (one_head u v from to same))
          | inr (inl less) ↦
              inl (before_by_head (reached_from reaches all u) (head_of reaches all u) (reached_from reaches all v) (head_of reaches all v) tie less)
          | inr (inr more) ↦
              inr (before_by_head (reached_from reaches all v) (head_of reaches all v) (reached_from reaches all u) (head_of reaches all u) (sym tie) more)
        ]
        | inr (inl less) ↦ inr (before_by_more (reached_from reaches all v) (head_of reaches all v) (reached_from reaches all u) (head_of reaches all u) less)
        | inr (inr more) ↦ inl (before_by_more (reached_from reaches all u) (head_of reaches all u) (reached_from reaches all v) (head_of reaches all v) more)
      ]

  pub one_number : (u v : ℕ) → u < all → v < all → number_by_reach reaches all u ≡ number_by_reach reaches all v → InOneBatch g u v
  one_number u v from to same =
      elim (cases_Bool (both u v)) [
        | inl is ↦ both_shows u v from to is
        | inr isnt ↦ elim (one_before u v from to (λ one. false≢true (sym isnt ∙ both_from u v from to one))) [
          | inl before ↦ (let less = before_is_lower u v from before in absurd (omega arith))
          | inr following ↦ (let less = before_is_lower v u to following in absurd (omega arith))
        ]
      ]

  rise : (u v : ℕ) → u < all → v < all → HasEdge g u v → number_by_reach reaches all u ≤ number_by_reach reaches all v
  rise u v from to edge =
      let walk = walk_edge (HasEdge g) u v edge in
      elim (cases_Bool (reaches v u)) [
        | inl back ↦ (let same = same_number u v from to (walk, (report v u to from).0 back) in omega arith)
        | inr never ↦
            let less = before_is_lower u v from (before_by_more (reached_from reaches all u) (head_of reaches all u)
            (reached_from reaches all v) (head_of reaches all v) (reach_less u v from to walk never)) in
            omega arith
      ]

  pub numbers_by_reach : IsNumbering g (number_by_reach reaches all)
  numbers_by_reach = record {
    rises = rise;
    same = λ u v from to. (one_number u v from to, same_number u v from to);
  }
