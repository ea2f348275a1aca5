-- The computed lists of candidates and of kept transactions are those of the definitions.
use Rattle.std.proofs.Common.{◌≡◌, ℕ, ◌+◌, ◌<◌, ◌≤◌, List, Bool, true, false, Some, length, map, get_or, sym, ap, ◌∙◌, arith, inl, inr}
use Rattle.std.specs.Prelude.{◌&&◌, nat_le, slice_get, ◌↔◌}
use Rattle.std.specs.List.{range_with_len}
use Rattle.std.proofs.lemmas.Bool.{cases_lt, and_parts, and_from, leb-true, le-leb, false≢true}
use Rattle.std.proofs.lemmas.List.{get_or_past, get_or-map, length-map}
use Rattle.std.proofs.lemmas.List.Folds.{Any-from_list_any, list_any_at}
use Rattle.std.proofs.lemmas.List.FromFn.{length-range_with_len, get_or-range_with_len}
use Rattle.std.proofs.lemmas.List.Kept.{IsStrictlySortedBy-filter}
use Rattle.std.proofs.lemmas.List.Sums.{length-filter, count_by-le-length}
use Rattle.std.proofs.lemmas.Map.Views.{any-filter_same}
use Rattle.std.proofs.lemmas.Option.{slice_get_within, slice_get-get_or, get_or_from_slice_get}
use Rattle.seq_base.specs.declared.tx.Tx.{Tx}
use Rattle.seq_base.specs.Lists.{AreFresh, holds, listed}
use Rattle.seq_base.specs.Tx.{tx_cmp, tx_eq, tx_eq_decides}
use Rattle.seq_base.specs.Setting.{Parameters, threshold_of, solid_of}
use Rattle.seq_base.proofs.Members.{holds_place, place_holds}
use Rattle.majority_graph.specs.Graph.{wanted_of, Graph, IsGraph, HasEdge, graph_of}
use Rattle.majority_graph.specs.Walks.{Walks}
use Rattle.majority_graph.proofs.EdgeLaws.{IsGraph-graph_of}
use Rattle.majority_graph.proofs.Wanted.{length-wanted_of-le}
use Rattle.batch_laws.specs.Reached.{reaches}
use Rattle.batch_laws.proofs.Reachability.{reaches_show}
use Rattle.batch_laws.proofs.WalkJoins.{walk_keeps}
use Rattle.tx_class.specs.Listed.{listed_in}
use Rattle.tx_class.proofs.ListedTxs.{are_listed}
use Rattle.tx_class.proofs.Sizes.{few_listed}
use Rattle.fair_laws.specs.Kept.{IsCandidate, LeadsOn, IsKept, AreCandidates, AreKept, candidates_of, leads_to_solid, kept_by, proposal_of}
use Rattle.fair_laws.proofs.CutComponents.{graph, walk_up, walk_down, wanted_are_kept, kept_are_one}

abbrev is_candidate : Parameters → List (List Tx) → Tx → Bool
is_candidate s lists t = nat_le (threshold_of s) (listed lists t)

abbrev is_solid : Parameters → List (List Tx) → Tx → Bool
is_solid s lists t = nat_le (solid_of s) (listed lists t)

pub are_candidates : (s : Parameters) (lists : List (List Tx)) → AreCandidates s lists (candidates_of s lists)
are_candidates s lists = record {
  ascending = IsStrictlySortedBy-filter tx_cmp (is_candidate s lists) (listed_in lists) (are_listed lists).ascending;
  each = λ t.
      let split : holds t (candidates_of s lists) ≡ (is_candidate s lists t && holds t (listed_in lists)) =
      any-filter_same (λ x. tx_eq x t) (is_candidate s lists) (is_candidate s lists t)
      (λ k same. ap (is_candidate s lists) ((tx_eq_decides k t).0 same)) (listed_in lists) in (
        (λ held. leb-true (threshold_of s) (listed lists t) (and_parts (is_candidate s lists t) (holds t (listed_in lists)) (sym split ∙ held)).0),
        (λ candidate.
            let low : threshold_of s ≤ listed lists t = candidate in
            split
            ∙ and_from (is_candidate s lists t) (holds t (listed_in lists)) (le-leb (threshold_of s) (listed lists t) low)
            (((are_listed lists).each t).1 (omega arith))),
      );
}

pub few_candidates : (s : Parameters) (lists : List (List Tx)) → AreFresh lists → length (candidates_of s lists) ≤ 2048
few_candidates s lists fresh =
    omega (arith, length-filter (is_candidate s lists) (listed_in lists), count_by-le-length (is_candidate s lists) (listed_in lists), few_listed lists fresh)

module _ (s : Parameters) (lists : List (List Tx)) (fresh : AreFresh lists) where
  abbrev txs : List Tx
  txs = candidates_of s lists

  few : length txs ≤ 2048
  few = few_candidates s lists fresh

  abbrev g : Graph
  g = graph_of s lists txs

  pub is_graph : IsGraph g
  is_graph = graph s lists txs (are_candidates s lists) few

  solid_at : (v : ℕ) (b : Tx) → slice_get txs v ≡ Some b → get_or (map (is_solid s lists) txs) v false ≡ is_solid s lists b
  solid_at v b at =
      get_or-map (is_solid s lists) txs v b false (slice_get_within txs v b at)
      ∙ ap (is_solid s lists) (get_or_from_slice_get txs v b b at)

  abbrev solid : List Bool
  solid = map (is_solid s lists) txs

  -- a candidate is kept where a walk leads from it to a solid one
  pub walks_are_kept : (u : ℕ) (a : Tx) → slice_get txs u ≡ Some a → (v : ℕ) × (get_or solid v false ≡ true) × Walks (HasEdge g) u v → IsKept s lists a
  walks_are_kept u a at led =
      let v : ℕ = led.0 in
      let inside : v < length txs = elim (cases_lt v (length txs)) [
        | inl inside ↦ inside
        | inr past ↦ absurd (false≢true (sym (get_or_past solid v false (omega (arith, length-map txs (is_solid s lists)))) ∙ led.1))
      ] in
      let b : Tx = get_or txs v a in
      let found : slice_get txs v ≡ Some b = slice_get-get_or txs v a inside in
      let enough : solid_of s ≤ listed lists b = leb-true (solid_of s) (listed lists b) (sym (solid_at v b found) ∙ led.1) in
      record {
        candidate = ((are_candidates s lists).each a).0 (place_holds txs u a at);
        leads = (b, enough, walk_up s lists txs (are_candidates s lists) few u v a b at found led.2);
      }

  pub kept_walks : (u : ℕ) (a : Tx) → slice_get txs u ≡ Some a → IsKept s lists a → (v : ℕ) × (get_or solid v false ≡ true) × Walks (HasEdge g) u v
  kept_walks u a at kept =
      let x : Tx = kept.leads.0 in
      let candidate : IsCandidate s lists x = walk_keeps (LeadsOn s lists) (IsCandidate s lists) (λ p q here step. step.to) a x kept.leads.2 kept.candidate in
      let place = holds_place txs x (((are_candidates s lists).each x).1 candidate) in (
        place.0,
        solid_at place.0 x place.1 ∙ le-leb (solid_of s) (listed lists x) kept.leads.1,
        walk_down s lists txs (are_candidates s lists) few u place.0 a x at place.1 kept.leads.2,
      )

  -- for any answers that agree with such walks, the wanted ones are all that is kept
  pub wanted_is_kept : (wanted : List Bool)
      → ((u : ℕ) → u < length txs → (get_or wanted u false ≡ true) ↔ ((v : ℕ) × (get_or solid v false ≡ true) × Walks (HasEdge g) u v))
      → AreKept s lists (wanted_of wanted txs)
  wanted_is_kept wanted report =
      wanted_are_kept s lists txs wanted (are_candidates s lists) few
      (λ k t at. (let reported = report k (slice_get_within txs k t at) in
      ((λ is. walks_are_kept k t at (reported.0 is)), (λ kept. reported.1 (kept_walks k t at kept)))))

  abbrev leads : ℕ → ℕ → Bool
  leads u v = get_or solid v false && reaches g u v

  number_at : (u : ℕ) → u < length txs → get_or (range_with_len 0 (length txs)) u 0 ≡ u
  number_at u inside = get_or-range_with_len 0 (length txs) u 0 inside ∙ (let same : 0 + u ≡ u = omega arith in same)

  led_walks : (u : ℕ) → u < length txs → leads_to_solid s lists txs u ≡ true → (v : ℕ) × (get_or solid v false ≡ true) × Walks (HasEdge g) u v
  led_walks u «from» led =
      let some = Any-from_list_any (leads u) (range_with_len 0 (length txs)) led in
      let below : some.0 < length txs = omega (arith, some.2, length-range_with_len 0 (length txs)) in
      let number : some.1 ≡ some.0 = sym some.3 ∙ get_or-range_with_len 0 (length txs) some.0 some.1 below
      ∙ (let same : 0 + some.0 ≡ some.0 = omega arith in same) in
      let parts = and_parts (get_or solid some.1 false) (reaches g u some.1) some.4 in
      (some.1, parts.0, (reaches_show g is_graph u some.1 «from» (omega arith)).0 parts.1)

  walks_lead : (u : ℕ) → u < length txs → (v : ℕ) × (get_or solid v false ≡ true) × Walks (HasEdge g) u v → leads_to_solid s lists txs u ≡ true
  walks_lead u «from» led =
      let inside : led.0 < length txs = elim (cases_lt led.0 (length txs)) [
        | inl inside ↦ inside
        | inr past ↦ absurd (false≢true (sym (get_or_past solid led.0 false (omega (arith, length-map txs (is_solid s lists)))) ∙ led.1))
      ] in
      list_any_at (leads u) (range_with_len 0 (length txs)) led.0 0 (omega (arith, length-range_with_len 0 (length txs)))
      (ap (leads u) (number_at led.0 inside)
      ∙ and_from (get_or solid led.0 false) (reaches g u led.0) led.1 ((reaches_show g is_graph u led.0 «from» inside).1 led.2))

  pub are_kept_of : AreKept s lists (kept_by s lists)
  are_kept_of =
      wanted_is_kept (map (leads_to_solid s lists txs) (range_with_len 0 (length txs)))
      (λ u inside.
      let reported : get_or (map (leads_to_solid s lists txs) (range_with_len 0 (length txs))) u false ≡ leads_to_solid s lists txs u =
      get_or-map (leads_to_solid s lists txs) (range_with_len 0 (length txs)) u 0 false (omega (arith, length-range_with_len 0 (length txs)))
      ∙ ap (leads_to_solid s lists txs) (number_at u inside) in
      ((λ is. led_walks u inside (sym reported ∙ is)), (λ led. reported ∙ walks_lead u inside led)))

  -- so they are the computed ones
  pub wanted_is_computed : (wanted : List Bool)
      → ((u : ℕ) → u < length txs → (get_or wanted u false ≡ true) ↔ ((v : ℕ) × (get_or solid v false ≡ true) × Walks (HasEdge g) u v))
      → wanted_of wanted txs ≡ kept_by s lists
  wanted_is_computed wanted report = kept_are_one s lists (wanted_of wanted txs) (kept_by s lists) (wanted_is_kept wanted report) are_kept_of

  pub few_kept : length (kept_by s lists) ≤ 2048
  few_kept = omega (arith, few, length-wanted_of-le (map (leads_to_solid s lists txs) (range_with_len 0 (length txs))) txs)

  pub proposal_is_graph : IsGraph (proposal_of s lists)
  proposal_is_graph = IsGraph-graph_of s lists (kept_by s lists) are_kept_of.ascending few_kept

  pub kept_are_listed : (t : Tx) → holds t (kept_by s lists) ≡ true → 1 ≤ listed lists t
  kept_are_listed t held =
      let low : threshold_of s ≤ listed lists t = ((are_kept_of.each t).0 held).candidate in
      omega arith
