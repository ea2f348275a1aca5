-- The batches of the example's chain.
use Rattle.std.proofs.Common.{◌≡◌, ℕ, suc, zero, ◌<◌, ◌≤◌, List, [], ◌∷◌, Some, true, refl, subst, inl, inr, arith}
use Rattle.std.specs.Prelude.{◌↔◌, All, slice_get, slice_index}
use Rattle.std.specs.List.Sorted.{IsStrictlySortedBy}
use Rattle.std.proofs.lemmas.Bool.{false≢true, or_cases}
use Rattle.std.proofs.lemmas.List.Elements.{All-from_recursion}
use Rattle.std.proofs.lemmas.Option.{same_Some}
use Rattle.seq_base.specs.declared.tx.Tx.{Tx}
use Rattle.seq_base.specs.Tx.{tx_cmp, tx_eq, tx_eq_decides}
use Rattle.seq_base.specs.Lists.{holds, listed}
use Rattle.seq_base.specs.Setting.{threshold_of, solid_of}
use Rattle.majority_graph.specs.Examples.{first, second, five}
use Rattle.majority_graph.specs.Graph.{Graph, IsComplete, HasEdge, graph_of}
use Rattle.majority_graph.specs.Walks.{Walks}
use Rattle.majority_graph.proofs.EdgeLaws.{IsGraph-graph_of}
use Rattle.batch_laws.specs.Batches.{InOneBatch, IsLine, AreBatches}
use Rattle.batch_laws.proofs.LineLists.{are_batches}
use Rattle.batch_laws.proofs.WalkJoins.{walk_same, walk_keeps}
use Rattle.fair_laws.specs.Kept.{IsKept}
use Rattle.fair_laws.proofs.Lateness.{fresh_edges}
use Rattle.chain_laws.specs.Drawn.{Placed}
use Rattle.chain_laws.specs.Lifetime.{IsCompleteProposal}
use Rattle.chain_laws.specs.Chain.{AreFinal, IsFinalised}
use Rattle.chain_laws.specs.Examples.{opening}
use Rattle.chain_laws.proofs.Once.{listed_has}

abbrev both : List Tx
both = first ∷ second ∷ []

abbrev lists : List (List Tx)
lists = both ∷ both ∷ (first ∷ []) ∷ (second ∷ first ∷ []) ∷ []

abbrev g : Graph
g = graph_of five lists both

threshold : threshold_of five ≡ 2
threshold = refl

solid_count : solid_of five ≡ 3
solid_count = refl

first_count : listed lists first ≡ 4
first_count = refl

second_count : listed lists second ≡ 3
second_count = refl

solid_is_kept : (t : Tx) → 3 ≤ listed lists t → IsKept five lists t
solid_is_kept t many =
    let solid : solid_of five ≤ listed lists t = omega (arith, solid_count) in
    record { candidate = (omega (arith, threshold)); leads = (t, solid, ([], refl)) }

ascending : IsStrictlySortedBy tx_cmp both
unfolding IsStrictlySortedBy
ascending = ((refl, tt), (tt, tt))

held_is_kept : (t : Tx) → holds t both ≡ true → IsKept five lists t
held_is_kept t held =
    elim (or_cases (tx_eq first t) (holds t (second ∷ [])) held) [
      | inl here ↦ subst (λ (x : Tx). IsKept five lists x) ((tx_eq_decides first t).0 here) (solid_is_kept first (omega (arith, first_count)))
      | inr there ↦ elim (or_cases (tx_eq second t) (holds t []) there) [
        | inl here ↦ subst (λ (x : Tx). IsKept five lists x) ((tx_eq_decides second t).0 here) (solid_is_kept second (omega (arith, second_count)))
        | inr none ↦ absurd (false≢true none)
      ]
    ]

kept_is_held : (t : Tx) → IsKept five lists t → holds t both ≡ true
kept_is_held t kept =
    let many : threshold_of five ≤ listed lists t = kept.candidate in
    listed_has (λ (x : Tx). holds x both ≡ true) lists t
    (All-from_recursion (λ (list : List Tx). All (λ (x : Tx). holds x both ≡ true) list) lists (
      in_both,
      (
        in_both,
        (
          All-from_recursion (λ (x : Tx). holds x both ≡ true) (first ∷ []) (refl, tt),
          (All-from_recursion (λ (x : Tx). holds x both ≡ true) (second ∷ first ∷ []) (refl, (refl, tt)), tt),
        ),
      ),
    ))
    (omega (arith, threshold))
  where
    in_both : All (λ (x : Tx). holds x both ≡ true) both
    in_both = All-from_recursion (λ (x : Tx). holds x both ≡ true) both (refl, (refl, tt))

complete : IsComplete g
complete zero zero one other apart = absurd (apart refl)
complete zero (suc zero) one other apart = λ same. (cc)
complete zero (suc (suc v)) one other apart = absurd (omega arith)
complete (suc zero) zero one other apart = λ same. (cc)
complete (suc zero) (suc zero) one other apart = absurd (apart refl)
complete (suc zero) (suc (suc v)) one other apart = absurd (omega arith)
complete (suc (suc u)) v one other apart = absurd (omega arith)

proposal : IsCompleteProposal five opening [] g
proposal = record {
  kept = record { ascending = ascending; each = λ t. (held_is_kept t, kept_is_held t) };
  edges = fresh_edges five lists both;
  complete = complete;
}

step : (u v : ℕ) → 1 ≤ u → HasEdge g u v → 1 ≤ v
step u (suc v) inside edge = omega arith
step zero zero inside edge = inside
step (suc zero) zero inside edge = absurd (cc)
step (suc (suc u)) zero inside edge = absurd (cc)

none_back : Walks (HasEdge g) 1 0 → ⊥
none_back walk = let low : 1 ≤ 0 = walk_keeps (HasEdge g) (λ (u : ℕ). 1 ≤ u) step 1 0 walk (omega arith) in absurd (omega arith)

own : (u : ℕ) → InOneBatch g u u
own u = (walk_same (HasEdge g) u u refl, walk_same (HasEdge g) u u refl)

abbrev number : ℕ → ℕ
number u = slice_index (0 ∷ 1 ∷ []) u

rises : (u v : ℕ) → u < 2 → v < 2 → HasEdge g u v → number u ≤ number v
rises zero v one other edge = omega arith
rises (suc u) zero one other edge = let low : 1 ≤ 0 = step (suc u) 0 (omega arith) edge in absurd (omega arith)
rises (suc zero) (suc zero) one other edge = omega arith
rises (suc u) (suc (suc v)) one other edge = absurd (omega arith)
rises (suc (suc u)) (suc zero) one other edge = absurd (omega arith)

same : (u v : ℕ) → u < 2 → v < 2 → (number u ≡ number v) ↔ InOneBatch g u v
same zero zero one other = ((λ e. own 0), (λ w. refl))
same zero (suc zero) one other = ((λ e. absurd (omega arith)), (λ w. absurd (none_back w.1)))
same zero (suc (suc v)) one other = absurd (omega arith)
same (suc zero) zero one other = ((λ e. absurd (omega arith)), (λ w. absurd (none_back w.0)))
same (suc zero) (suc zero) one other = ((λ e. own 1), (λ w. refl))
same (suc zero) (suc (suc v)) one other = absurd (omega arith)
same (suc (suc u)) v one other = absurd (omega arith)

line : IsLine g number 2
line = record {
  numbering = record { rises = rises; same = same };
  below = below;
  used = used;
}
  where
    below : (u : ℕ) → u < 2 → number u < 2
    below zero inside = omega arith
    below (suc zero) inside = omega arith
    below (suc (suc u)) inside = absurd (omega arith)

    used : (c : ℕ) → c < 2 → (u : ℕ) × (u < 2) × (number u ≡ c)
    used zero inside = (0, (omega arith), refl)
    used (suc zero) inside = (1, (omega arith), refl)
    used (suc (suc c)) inside = absurd (omega arith)

abbrev batches : List (List Tx)
batches = (first ∷ []) ∷ (second ∷ []) ∷ []

batched : AreBatches g batches
batched = are_batches g (IsGraph-graph_of five lists both ascending (omega arith)) complete (0 ∷ 1 ∷ []) 2 refl line

are_final : AreFinal five (opening ∷ []) 0 batches
are_final = record { block = opening; stands = refl; graph = g; proposal = proposal; batched = batched }

each : (number : ℕ) (one : List (List Tx)) → slice_get (batches ∷ []) number ≡ Some one → AreFinal five (opening ∷ []) number one
each zero one found = subst (λ (x : List (List Tx)). AreFinal five (opening ∷ []) 0 x) (same_Some batches one found) are_final
each (suc number) one found = absurd (cc)

pub opening_is_final : IsFinalised five (opening ∷ []) (batches ∷ [])
opening_is_final = record { each = each; ends = λ more are. no_more are.block are.stands }
  where
    no_more : (block : Placed) → slice_get (opening ∷ []) 1 ≡ Some block → ⊥
    no_more block stands = (cc)
