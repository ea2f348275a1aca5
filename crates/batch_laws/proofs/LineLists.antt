-- The lists of a line are the batches.
use Rattle.std.proofs.Common.{◌≡◌, ℕ, ◌+◌, ◌<◌, List, [], true, false, Some, length, get_or, map, refl, sym, ap, subst, ◌∙◌, inl, inr, arith}
use Rattle.std.specs.Prelude.{◌==◌, slice_get}
use Rattle.std.specs.List.{range_with_len}
use Rattle.std.specs.List.Sorted.{IsStrictlySortedBy}
use Rattle.std.proofs.lemmas.Bool.{cases_lt, eqb-true, eq-eqb}
use Rattle.std.proofs.lemmas.List.{get_or-map, length-map, get_or_past}
use Rattle.std.proofs.lemmas.List.Elements.{All-from_get_or}
use Rattle.std.proofs.lemmas.List.FromFn.{length-range_with_len, get_or-range_with_len}
use Rattle.std.proofs.lemmas.Option.{slice_get_within, slice_get-get_or}
use Rattle.seq_base.specs.declared.tx.Tx.{Tx}
use Rattle.seq_base.specs.Lists.{holds}
use Rattle.seq_base.specs.Tx.{tx_cmp}
use Rattle.majority_graph.specs.Graph.{Graph, IsGraph, IsComplete}
use Rattle.majority_graph.proofs.Wanted.{IsGraph-kept_of}
use Rattle.batch_laws.specs.Batches.{IsLine, StandsIn, AreBatches, numbered, lists_of}
use Rattle.seq_base.proofs.Members.{one_place}
use Rattle.batch_laws.proofs.WantedItems.{wanted_shows, wanted_holds}
use Rattle.batch_laws.proofs.Reachability.{lower_is_earlier, earlier_is_lower}

module _ (g : Graph) (graph : IsGraph g) (complete : IsComplete g) (numbers : List ℕ) (count : ℕ)
    (long : length numbers ≡ length g.vertices) (line : IsLine g (λ u. get_or numbers u 0) count) where
  batches_long : length (lists_of numbers count g.vertices) ≡ count
  batches_long = length-map (range_with_len 0 count) (numbered numbers g.vertices) ∙ length-range_with_len 0 count

  batch_at : (c : ℕ) → c < count → get_or (lists_of numbers count g.vertices) c [] ≡ numbered numbers g.vertices c
  batch_at c below =
      get_or-map (numbered numbers g.vertices) (range_with_len 0 count) c 0 [] (omega (arith, length-range_with_len 0 count))
      ∙ ap (numbered numbers g.vertices) (get_or-range_with_len 0 count c 0 below ∙ (let same : 0 + c ≡ c = omega arith in same))

  -- a member of a batch is a vertex of that number
  shows : (c : ℕ) (a : Tx) → StandsIn (lists_of numbers count g.vertices) c a → (u : ℕ) × (slice_get g.vertices u ≡ Some a) × (get_or numbers u 0 ≡ c)
  shows c a stands =
      elim (cases_lt c count) [
        | inl below ↦
            let held : holds a (numbered numbers g.vertices c) ≡ true = rw (batch_at c below) at stands in
            let place = wanted_shows (map (λ n. n == c) numbers) g.vertices a held in
            let inside : place.0 < length numbers = omega (arith, slice_get_within g.vertices place.0 a place.1) in
            (place.0, place.1, eqb-true (get_or numbers place.0 0) c (sym (get_or-map (λ n. n == c) numbers place.0 0 false inside) ∙ place.2))
        | inr past ↦
            let none : get_or (lists_of numbers count g.vertices) c [] ≡ [] =
            get_or_past (lists_of numbers count g.vertices) c [] (omega (arith, batches_long)) in
            let held : holds a [] ≡ true = rw none at stands in
            absurd (cc)
      ]

  -- a vertex is in the batch of its number
  stands : (u : ℕ) (a : Tx) → slice_get g.vertices u ≡ Some a → StandsIn (lists_of numbers count g.vertices) (get_or numbers u 0) a
  stands u a at =
      let inside : u < length g.vertices = slice_get_within g.vertices u a at in
      let below : get_or numbers u 0 < count = line.below u inside in
      rw (batch_at (get_or numbers u 0) below)
      (wanted_holds (map (λ n. n == get_or numbers u 0) numbers) g.vertices u a at
      (get_or-map (λ n. n == get_or numbers u 0) numbers u 0 false (omega arith) ∙ eq-eqb (get_or numbers u 0) (get_or numbers u 0) refl))

  -- the number of a vertex is that of its batch
  number_is : (u i : ℕ) (a : Tx) → slice_get g.vertices u ≡ Some a → StandsIn (lists_of numbers count g.vertices) i a → get_or numbers u 0 ≡ i
  number_is u i a at stand =
      let there = shows i a stand in
      ap (λ (k : ℕ). get_or numbers k 0) (one_place g.vertices u there.0 a graph.ascending at there.1) ∙ there.2

  pub are_batches : AreBatches g (lists_of numbers count g.vertices)
  are_batches = record {
    ascending = All-from_get_or (IsStrictlySortedBy tx_cmp) (lists_of numbers count g.vertices) []
        (λ c inside.
        let below : c < count = omega (arith, batches_long) in
        rw (batch_at c below) ((IsGraph-kept_of (map (λ n. n == c) numbers) g graph).ascending));
    some = λ c inside.
        let below : c < count = omega (arith, batches_long) in
        let u = line.used c below in
        let d : Tx = record { client = 0; number = 0; payload = 0 } in
        let stand : StandsIn (lists_of numbers count g.vertices) (get_or numbers u.0 0) (get_or g.vertices u.0 d) =
        stands u.0 (get_or g.vertices u.0 d) (slice_get-get_or g.vertices u.0 d u.1) in
        (get_or g.vertices u.0 d, subst (λ (k : ℕ). StandsIn (lists_of numbers count g.vertices) k (get_or g.vertices u.0 d)) u.2 stand);
    each = λ u a at.
        let below : get_or numbers u 0 < count = line.below u (slice_get_within g.vertices u a at) in
        (get_or numbers u 0, omega (arith, batches_long), stands u a at);
    vertices = λ i a stand. (let there = shows i a stand in (there.0, there.1));
    same = λ u v i j a b one other here there.
        let from : u < length g.vertices = slice_get_within g.vertices u a one in
        let to : v < length g.vertices = slice_get_within g.vertices v b other in
        let left : get_or numbers u 0 ≡ i = number_is u i a one here in
        let right : get_or numbers v 0 ≡ j = number_is v j b other there in
        let report = line.numbering.same u v from to in
        ((λ same. report.0 (left ∙ same ∙ sym right)), (λ both. sym left ∙ report.1 both ∙ right));
    earlier = λ u v i j a b one other here there.
        let from : u < length g.vertices = slice_get_within g.vertices u a one in
        let to : v < length g.vertices = slice_get_within g.vertices v b other in
        let left : get_or numbers u 0 ≡ i = number_is u i a one here in
        let right : get_or numbers v 0 ≡ j = number_is v j b other there in (
          (λ less. lower_is_earlier g (λ k. get_or numbers k 0) graph complete line.numbering u v from to (omega arith)),
          (λ early. (let less : get_or numbers u 0 < get_or numbers v 0 =
              earlier_is_lower g (λ k. get_or numbers k 0) graph line.numbering u v from to early in omega arith)),
        );
  }
