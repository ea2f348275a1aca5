-- The chain of placed blocks, and the batches of its final list.
use Rattle.std.proofs.Common.{◌≡◌, ℕ, suc, ◌+◌, ◌<◌, List, ◌∷◌, length, get_or, map, take, drop, Bool, true, Some, sym, ap, subst, ◌∙◌}
use Rattle.std.specs.Prelude.{◌↔◌, slice_get, All}
use Rattle.std.proofs.lemmas.List.{length-map, length-take-le}
use Rattle.std.proofs.lemmas.List.Folds.{flat_map-map}
use Rattle.std.proofs.lemmas.Option.{slice_get_within, slice_get-get_or, get_or_from_slice_get}
use Rattle.seq_base.specs.declared.tx.Tx.{Tx}
use Rattle.seq_base.specs.declared.order.SealedOrder.{SealedOrder}
use Rattle.seq_base.specs.Setting.{Parameters, IsValid}
use Rattle.seq_base.proofs.Members.{any_tx}
use Rattle.majority_graph.specs.Graph.{Graph, IsGraph, IsComplete, edge_at}
use Rattle.majority_graph.specs.Later.{HasFirstEdges}
use Rattle.batch_laws.specs.Batches.{AreBatches}
use Rattle.batch_laws.specs.Reached.{batches_of}
use Rattle.fair_laws.specs.Kept.{AreKept, kept_by}
use Rattle.chain_state.specs.Lists.{BlockLists}
use Rattle.chain_state.specs.Proposals as state
use Rattle.chain_state.specs.Proposals.{proposals, final_of}
use Rattle.chain_state.specs.Standings.{finals, standing_for}
use Rattle.chain_laws.specs.Received.{Arrivals}
use Rattle.chain_laws.specs.Drawn.{Placed, IsBlock}
use Rattle.chain_laws.specs.Lifetime.{lists_of_lifetime, IsCompleteProposal}
use Rattle.chain_laws.specs.Chain.{IsProposedBefore, IsMissingBefore, IsChain, AreFinal, IsFinalised, batch_list}
use Rattle.chain_laws.specs.Blocks.{Chain, fresh_in, lists_in, final_list, placed_over, placed}
use Rattle.chain_laws.specs.Keeping.{AreBlocks}
use Rattle.chain_laws.proofs.Positions.{place_in_prefix, at_place, all_places, image_place}
use Rattle.chain_laws.proofs.PlacedBlocks.{late_of, placed_place, place_placed, lates_from, graph_with, proposal_place, place_proposal}
use Rattle.chain_laws.proofs.Prefixes.{AreFreshBlocks, fresh_chain}
use Rattle.chain_laws.proofs.ChainPremises.{Answers, is_block, kept_list, used_forward, used_backward}
use Rattle.chain_laws.proofs.MissingPairs.{waiting_forward, waiting_backward}

-- what the layers below prove of final lists and their batches
pub record Finishes (s : Parameters) : Type 0 where
  pub finals : (blocks : List BlockLists) → finals (standing_for s blocks) ≡ final_of s blocks
  pub finals_read : (blocks : List BlockLists) → AreFreshBlocks blocks → (many : ℕ) × state.AreFinalBatches (proposals s blocks) (final_of s blocks) many
  pub graphs : (blocks : List BlockLists) → AreFreshBlocks blocks → All IsGraph (proposals s blocks)
  pub batches : (g : Graph) → IsGraph g → IsComplete g → AreBatches g (batches_of g)
  pub one_kept : (lists : List (List Tx)) (one other : List Tx) → AreKept s lists one → AreKept s lists other → one ≡ other

-- of two graphs with the same vertices, where each pair has its first edge, both are complete or neither is
same_complete : (s : Parameters) (blocks : List (List (List Tx))) (g h : Graph) → g.vertices ≡ h.vertices → HasFirstEdges s blocks g
    → HasFirstEdges s blocks h → IsComplete g → IsComplete h
same_complete s blocks g h same one other complete u v from to apart missing =
    let a : Tx = get_or h.vertices u any_tx in
    let b : Tx = get_or h.vertices v any_tx in
    let at_u : slice_get h.vertices u ≡ Some a = slice_get-get_or h.vertices u any_tx from in
    let at_v : slice_get h.vertices v ≡ Some b = slice_get-get_or h.vertices v any_tx to in
    let back : h.vertices ≡ g.vertices = sym same in
    let edge : edge_at g u v ≡ edge_at h u v =
    one u v a b (ap (λ (vs : List Tx). slice_get vs u) same ∙ at_u) (ap (λ (vs : List Tx). slice_get vs v) same ∙ at_v) ∙ sym (other u v a b at_u at_v) in
    complete u v (subst (λ (vs : List Tx). u < length vs) back from) (subst (λ (vs : List Tx). v < length vs) back to) apart (edge ∙ missing)

module _ (s : Parameters) (valid : IsValid s) (faulty : ℕ → Bool) (arrivals : Arrivals) (chain : Chain)
    (blocks : AreBlocks s faulty arrivals chain) (answers : Answers s) where
  pub is_chain : IsChain s faulty arrivals (placed s chain)
  is_chain = record {
    each = all_places (IsBlock s faulty arrivals) (placed s chain) (λ k block found.
        let at = place_placed s chain k block found in
        subst (IsBlock s faulty arrivals) (sym at.2) (is_block s valid faulty arrivals chain blocks k at.0 at.1));
    used = λ number block t found.
        let at = place_placed s chain number block found in
        subst (λ (x : Placed). (x.used t ≡ true) ↔ IsProposedBefore s (placed s chain) number t) (sym at.2)
        (used_forward s valid faulty arrivals chain blocks answers number t, used_backward s valid faulty arrivals chain blocks answers number t);
    waiting = λ number block t found.
        let at = place_placed s chain number block found in
        subst (λ (x : Placed). (x.waiting t ≡ true) ↔ IsMissingBefore s (placed s chain) number t) (sym at.2)
        (waiting_forward s valid faulty arrivals chain blocks answers number t, waiting_backward s valid faulty arrivals chain blocks answers number t);
  }

  -- the graph of a block's proposal in the whole chain
  abbrev graph_at : ℕ → List SealedOrder → Graph
  graph_at k orders = graph_with s (lists_in orders) (drop (suc k) (map lists_in chain))

  edges_at : (k : ℕ) (orders : List SealedOrder)
      → HasFirstEdges s (lists_of_lifetime (placed_over s (take k chain) orders) (drop (k + 1) (placed s chain))) (graph_at k orders)
  edges_at k orders =
      subst (λ (later : List (List (List Tx))). HasFirstEdges s (fresh_in orders ∷ later) (graph_at k orders)) (sym (lates_from s chain k))
      (answers.edges (kept_by s (fresh_in orders)) (fresh_in orders ∷ map late_of (drop (suc k) (map lists_in chain))))

  kept_at : (k : ℕ) (orders : List SealedOrder) → slice_get chain k ≡ Some orders → AreKept s (fresh_in orders) (kept_by s (fresh_in orders))
  kept_at = kept_list s valid faulty arrivals chain blocks answers

  proposal_at : (k : ℕ) (orders : List SealedOrder) → slice_get chain k ≡ Some orders → IsComplete (graph_at k orders)
      → IsCompleteProposal s (placed_over s (take k chain) orders) (drop (k + 1) (placed s chain)) (graph_at k orders)
  proposal_at k orders stands complete = record { kept = kept_at k orders stands; edges = edges_at k orders; complete = complete }

  module _ (finishes : Finishes s) where
    short : AreFreshBlocks (map lists_in chain)
    short = fresh_chain s valid faulty arrivals chain blocks

    abbrev graphs : List Graph
    graphs = proposals s (map lists_in chain)

    module _ (many : ℕ) (read : state.AreFinalBatches graphs (final_of s (map lists_in chain)) many) where
      abbrev parts : List (List (List Tx))
      parts = map batches_of (take many graphs)

      are_final : (number : ℕ) (batches : List (List Tx)) → slice_get parts number ≡ Some batches → AreFinal s (placed s chain) number batches
      are_final number batches found =
          let own = image_place batches_of (take many graphs) number batches found in
          let prefix : (number < many) × (slice_get graphs number ≡ Some own.0) = place_in_prefix graphs many number own.0 own.1 in
          let at = place_proposal s chain number own.0 prefix.1 in
          let complete : IsComplete own.0 = at_place IsComplete (take many graphs) number own.0 read.complete own.1 in
          let graph : IsGraph own.0 = at_place IsGraph graphs number own.0 (finishes.graphs (map lists_in chain) short) prefix.1 in
          record {
            block = placed_over s (take number chain) at.0;
            stands = placed_place s chain number at.0 at.1;
            graph = graph_at number at.0;
            proposal = proposal_at number at.0 at.1 (subst IsComplete at.2 complete);
            batched = subst (λ (g : Graph). AreBatches g batches) at.2 (subst (AreBatches own.0) own.2 (finishes.batches own.0 graph complete));
          }

      ends : (batches : List (List Tx)) → AreFinal s (placed s chain) many batches → ⊥
      ends batches are =
          let at = place_placed s chain many are.block are.stands in
          let proposal : IsCompleteProposal s (placed_over s (take many chain) at.0) (drop (many + 1) (placed s chain)) are.graph =
          subst (λ (x : Placed). IsCompleteProposal s x (drop (many + 1) (placed s chain)) are.graph) at.2 are.proposal in
          let stands : slice_get graphs many ≡ Some (graph_at many at.0) = proposal_place s chain many at.0 at.1 in
          let same : are.graph.vertices ≡ kept_by s (fresh_in at.0) =
          finishes.one_kept (fresh_in at.0) are.graph.vertices (kept_by s (fresh_in at.0)) proposal.kept (kept_at many at.0 at.1) in
          let complete : IsComplete (graph_at many at.0) =
          same_complete s (lists_of_lifetime (placed_over s (take many chain) at.0) (drop (many + 1) (placed s chain))) are.graph
          (graph_at many at.0) same proposal.edges (edges_at many at.0) proposal.complete in
          subst (λ (g : Graph). IsComplete g → ⊥) (get_or_from_slice_get graphs many (graph_at many at.0) (graph_at many at.0) stands)
          (read.next (slice_get_within graphs many (graph_at many at.0) stands) (graph_at many at.0)) complete

      as_read : (finals : List (List (List Tx))) × IsFinalised s (placed s chain) finals × (final_list s chain ≡ batch_list finals)
      as_read =
          let long : many ≡ length parts = sym (length-map (take many graphs) batches_of ∙ length-take-le many graphs read.inside) in (
            parts,
            record { each = are_final; ends = λ batches are. ends batches (subst (λ (n : ℕ). AreFinal s (placed s chain) n batches) (sym long) are) },
            finishes.finals (map lists_in chain) ∙ read.theirs ∙ sym (flat_map-map (λ (batches : List (List Tx)). batches) batches_of (take many graphs)),
          )

    pub final_parts : (finals : List (List (List Tx))) × IsFinalised s (placed s chain) finals × (final_list s chain ≡ batch_list finals)
    final_parts = let found = finishes.finals_read (map lists_in chain) short in as_read found.0 found.1
