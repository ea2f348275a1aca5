-- A chain of blocks meets the premises of the laws on chains.
use Rattle.std.proofs.Common.{◌≡◌, ℕ, suc, ◌<◌, List, map, take, drop, Bool, true, false, Some, sym, ap, subst, ◌∙◌}
use Rattle.std.specs.Prelude.{slice_get, All, Contains}
use Rattle.std.specs.Bool.{Decides}
use Rattle.std.proofs.lemmas.List.Elements.{All-weaker}
use Rattle.std.proofs.lemmas.Option.{slice_get_within, slice_get-get_or, get_or_from_slice_get}
use Rattle.seq_base.specs.declared.tx.Tx.{Tx}
use Rattle.seq_base.specs.declared.order.LocalOrder.{LocalOrder}
use Rattle.seq_base.specs.declared.order.SealedOrder.{SealedOrder}
use Rattle.seq_base.specs.Lists.{AreFresh}
use Rattle.seq_base.specs.Setting.{Parameters, IsValid}
use Rattle.seq_base.proofs.Members.{holds_place, place_holds}
use Rattle.majority_graph.specs.Graph.{Graph}
use Rattle.majority_graph.specs.Later.{HasFirstEdges}
use Rattle.fair_laws.specs.Kept.{IsKept, AreKept, kept_by}
use Rattle.chain_state.specs.Lists.{BlockLists}
use Rattle.chain_state.specs.Proposals.{graph_over, proposals, used_in, waiting_in, IsUsed, IsWaiting}
use Rattle.chain_state.specs.Standings.{is_used, is_waiting, standing_for}
use Rattle.chain_laws.specs.Received.{Arrivals}
use Rattle.chain_laws.specs.Drawn.{Placed, IsDrawn, IsDrawnIfHonest, IsBlock, fresh_lists}
use Rattle.chain_laws.specs.Chain.{IsProposedBefore, FreshAreUnused}
use Rattle.chain_laws.specs.Blocks.{Chain, fresh_in, lists_in, standing_of, placed_over, placed}
use Rattle.chain_laws.specs.Keeping.{IsDrawnOver, IsHonestOver, IsBlockOver, AreBlocks}
use Rattle.chain_laws.proofs.Prefixes.{AreFreshBlocks, fresh_at, fresh_prefix, unused_at}
use Rattle.chain_laws.proofs.Positions.{place_in_prefix, prefix_place, all_places, any_place, place_any}
use Rattle.chain_laws.proofs.PlacedBlocks.{placed_place, place_placed, graph_with, proposal_place, place_proposal}

-- The state of a chain answers as the chain does.
pub record Stands (s : Parameters) : Type 0 where
  pub used : (blocks : List BlockLists) (t : Tx) → AreFreshBlocks blocks → is_used (standing_for s blocks) t ≡ used_in s blocks t
  pub waiting : (blocks : List BlockLists) (t : Tx) → AreFreshBlocks blocks → is_waiting (standing_for s blocks) t ≡ waiting_in s blocks t

-- what the layers below prove of used, waiting and kept
pub record Answers (s : Parameters) : Type 0 where
  pub stands : Stands s
  pub used_read : (blocks : List BlockLists) (t : Tx) → Decides (used_in s blocks t) (IsUsed s blocks t)
  pub waiting_read : (blocks : List BlockLists) (t : Tx) → AreFreshBlocks blocks → Decides (waiting_in s blocks t) (IsWaiting s blocks t)
  pub edges : (vertices : List Tx) (lists : List (List (List Tx))) → HasFirstEdges s lists (graph_over s vertices lists)
  pub kept : (lists : List (List Tx)) → AreFresh lists → AreKept s lists (kept_by s lists)

contains_place : (xs : List Tx) (t : Tx) → Contains xs t → (k : ℕ) × (slice_get xs k ≡ Some t)
contains_place xs t found = (found.0, slice_get-get_or xs found.0 t found.1 ∙ ap Some found.2)

place_contains : (xs : List Tx) (k : ℕ) (t : Tx) → slice_get xs k ≡ Some t → Contains xs t
place_contains xs k t found = (k, slice_get_within xs k t found, get_or_from_slice_get xs k t t found)

module _ (s : Parameters) (valid : IsValid s) (faulty : ℕ → Bool) (arrivals : Arrivals) (chain : Chain) (blocks : AreBlocks s faulty arrivals chain) where
  pub unused : FreshAreUnused (placed s chain)
  unused =
      all_places (λ (block : Placed). All (λ list. All (λ t. block.used t ≡ false) list) (fresh_lists block)) (placed s chain) (λ k block found.
      let at = place_placed s chain k block found in
      subst (λ (x : Placed). All (λ list. All (λ t. x.used t ≡ false) list) (fresh_lists x)) (sym at.2)
      (unused_at s valid faulty arrivals chain blocks k at.0 at.1))

  pub is_block : (k : ℕ) (orders : List SealedOrder) → slice_get chain k ≡ Some orders → IsBlock s faulty arrivals (placed_over s (take k chain) orders)
  is_block k orders found =
      let over : IsBlockOver s faulty arrivals (take k chain) orders = blocks k orders found in
      record {
        replicas = over.replicas;
        quorum = over.quorum;
        honest = All-weaker (λ (sealed : SealedOrder). IsHonestOver s faulty arrivals (take k chain) sealed.order)
            (λ (sealed : SealedOrder). IsDrawnIfHonest faulty arrivals (placed_over s (take k chain) orders) sealed.order)
            (λ sealed over honest. drawn sealed.order (over honest)) orders over.honest;
      }
    where
      drawn : (order : LocalOrder) → IsDrawnOver s (take k chain) (arrivals order.replica) order
          → IsDrawn (placed_over s (take k chain) orders) (arrivals order.replica) order
      drawn order over = record { known = over.known; fresh = ap (λ (o : LocalOrder). o.fresh) over.is; late = ap (λ (o : LocalOrder). o.late) over.is }

  module _ (answers : Answers s) where
    pub kept_list : (k : ℕ) (orders : List SealedOrder) → slice_get chain k ≡ Some orders → AreKept s (fresh_in orders) (kept_by s (fresh_in orders))
    kept_list k orders found = answers.kept (fresh_in orders) (fresh_at s valid faulty arrivals chain blocks k orders found)

    -- what a block of the prefix proposes
    proposed_from : (number k : ℕ) (t : Tx) (g : Graph) (orders : List SealedOrder) (later : List BlockLists) → g ≡ graph_with s (lists_in orders) later
        → slice_get (take number chain) k ≡ Some orders → Contains g.vertices t → IsProposedBefore s (placed s chain) number t
    proposed_from number k t g orders later is own found =
        let there : (k < number) × (slice_get chain k ≡ Some orders) = place_in_prefix chain number k orders own in
        let vertices : g.vertices ≡ kept_by s (fresh_in orders) = ap (λ (h : Graph). h.vertices) is in
        let place : (i : ℕ) × (slice_get (kept_by s (fresh_in orders)) i ≡ Some t) =
        contains_place (kept_by s (fresh_in orders)) t (subst (λ (txs : List Tx). Contains txs t) vertices found) in
        record {
          proposer = k;
          before = there.0;
          proposes = record {
            block = placed_over s (take k chain) orders;
            stands = placed_place s chain k orders there.1;
            kept = ((kept_list k orders there.1).each t).0 (place_holds (kept_by s (fresh_in orders)) place.0 t place.1);
          };
        }

    -- a used transaction was proposed before
    pub used_forward : (number : ℕ) (t : Tx) → is_used (standing_of s (take number chain)) t ≡ true → IsProposedBefore s (placed s chain) number t
    used_forward number t is =
        let prefix : List BlockLists = map lists_in (take number chain) in
        let found : IsUsed s prefix t = (answers.used_read prefix t).0
        (sym (answers.stands.used prefix t (fresh_prefix s valid faulty arrivals chain blocks number)) ∙ is) in
        let at = any_place (λ (g : Graph). Contains g.vertices t) (proposals s prefix) found in
        let own = place_proposal s (take number chain) at.0 at.1 at.2 in
        proposed_from number at.0 t at.1 own.0 (drop (suc at.0) prefix) own.2 own.1 at.3

    pub used_backward : (number : ℕ) (t : Tx) → IsProposedBefore s (placed s chain) number t → is_used (standing_of s (take number chain)) t ≡ true
    used_backward number t earlier =
        let prefix : List BlockLists = map lists_in (take number chain) in
        let k : ℕ = earlier.proposer in
        let at = place_placed s chain k earlier.proposes.block earlier.proposes.stands in
        let kept : IsKept s (fresh_in at.0) t = subst (λ (x : Placed). IsKept s (fresh_lists x) t) at.2 earlier.proposes.kept in
        let place = holds_place (kept_by s (fresh_in at.0)) t (((kept_list k at.0 at.1).each t).1 kept) in
        let stands = proposal_place s (take number chain) k at.0 (prefix_place chain number k at.0 earlier.before at.1) in
        answers.stands.used prefix t (fresh_prefix s valid faulty arrivals chain blocks number)
        ∙ (answers.used_read prefix t).1 (place_any (λ (g : Graph). Contains g.vertices t) (proposals s prefix) k
        (graph_with s (lists_in at.0) (drop (suc k) prefix)) stands (place_contains (kept_by s (fresh_in at.0)) place.0 t place.1))
