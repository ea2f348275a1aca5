-- Fairness, in terms of lists of batches.
use Rattle.std.proofs.Common.{◌≡◌, ℕ, ◌+◌, ◌*◌, ◌<◌, ◌≤◌, List, Some, inl, inr}
use Rattle.std.specs.Prelude.{All, slice_get}
use Rattle.std.proofs.lemmas.Bool.{cases_lt}
use Rattle.seq_base.specs.declared.tx.Tx.{Tx}
use Rattle.seq_base.specs.Setting.{Parameters, threshold_of, solid_of}
use Rattle.majority_graph.specs.Graph.{Graph, IsComplete, HasEdge, graph_of}
use Rattle.majority_graph.specs.Walks.{Walks}
use Rattle.batch_laws.specs.Batches.{StandsIn, AreBatches}
use Rattle.seq_base.proofs.Members.{holds_place}
use Rattle.fair_laws.specs.Kept.{AreKept}
use Rattle.fair_laws.specs.Earlier.{IsOwed, without_earlier}
use Rattle.majority_graph.specs.Later.{HasFirstEdges}
use Rattle.fair_laws.proofs.OwedEdges.{is_kept, no_later_batch}
use Rattle.fair_laws.proofs.Lateness.{walk_forward}

-- where a walk leads from u to v, u is not in a later list
pub not_later : (g : Graph) (batches : List (List Tx)) (u v i j : ℕ) (a b : Tx) → AreBatches g batches → slice_get g.vertices u ≡ Some a
    → slice_get g.vertices v ≡ Some b
    → StandsIn batches i a → StandsIn batches j b → Walks (HasEdge g) u v → i ≤ j
not_later g batches u v i j a b are one other here there walk =
    elim (cases_lt j i) [
      | inl less ↦ (let early = (are.earlier v u j i b a other one there here).0 less in absurd (early.1 walk))
      | inr low ↦ low
    ]

pub fair_in_batches : (s : Parameters) (lists : List (List Tx)) (a b : Tx) (kept : List Tx) (batches : List (List Tx))
    → 2 * threshold_of s ≤ solid_of s + 1 → IsOwed s lists a b
    → AreKept s lists kept → IsComplete (graph_of s lists kept) → AreBatches (graph_of s lists kept) batches
    → (i j : ℕ) × StandsIn batches i a × StandsIn batches j b × (i ≤ j)
fair_in_batches s lists a b kept batches half owed are complete batched =
    let u = holds_place kept a ((are.each a).1 (is_kept s lists a b half owed)) in
    let v = holds_place kept b ((are.each b).1 owed.kept) in
    let here = batched.each u.0 a u.1 in
    let there = batched.each v.0 b v.1 in (
      here.0,
      there.0,
      here.2,
      there.2,
      not_later (graph_of s lists kept) batches u.0 v.0 here.0 there.0 a b batched u.1 v.1 here.2 there.2
          (no_later_batch s lists a b half owed kept u.0 v.0 complete u.1 v.1),
    )

pub late_in_batches : (s : Parameters) (blocks : List (List (List Tx))) (g : Graph) (batches : List (List Tx)) (i j : ℕ) (a b : Tx)
    → All (λ lists. without_earlier lists b a < threshold_of s) blocks → HasFirstEdges s blocks g → IsComplete g → AreBatches g batches
    → StandsIn batches i a → StandsIn batches j b → i ≤ j
late_in_batches s blocks g batches i j a b few edges complete batched here there =
    let u = batched.vertices i a here in
    let v = batched.vertices j b there in
    not_later g batches u.0 v.0 i j a b batched u.1 v.1 here there (walk_forward s blocks g u.0 v.0 a b few edges complete u.1 v.1)
