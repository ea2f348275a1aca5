-- The blocks of a chain, each over those before it, and their proposals.
use Rattle.std.proofs.Common.{◌≡◌, ℕ, zero, suc, ◌+◌, List, [], ◌∷◌, ◌++◌, map, take, drop, Some, refl, sym, ap, ap₂, ◌∙◌, append_assoc, arith}
use Rattle.std.specs.Prelude.{slice_get}
use Rattle.std.proofs.lemmas.List.{append-nil, take-map, drop-map, drop-take}
use Rattle.std.proofs.lemmas.Option.{none-some, same_Some}
use Rattle.seq_base.specs.declared.tx.Tx.{Tx}
use Rattle.seq_base.specs.declared.order.SealedOrder.{SealedOrder}
use Rattle.seq_base.specs.Setting.{Parameters}
use Rattle.majority_graph.specs.Graph.{Graph}
use Rattle.fair_laws.specs.Kept.{kept_by}
use Rattle.chain_state.specs.Lists.{BlockLists}
use Rattle.chain_state.specs.Proposals.{graph_over, proposals}
use Rattle.chain_laws.specs.Drawn.{Placed, late_lists}
use Rattle.chain_laws.specs.Blocks.{Chain, late_in, lists_in, placed_over, placed_after, placed}
use Rattle.chain_laws.proofs.Positions.{image_place, place_image}

abbrev pub late_of : BlockLists → List (List Tx)
late_of b = b.late

-- the late lists of each block
abbrev lates : Chain → List (List (List Tx))
lates chain = map late_of (map lists_in chain)

module _ (s : Parameters) where
  -- The element at each index is the block over those before it.
  placed_from : (before later : Chain) (k : ℕ) (orders : List SealedOrder) → slice_get later k ≡ Some orders
      → slice_get (placed_after s before later) k ≡ Some (placed_over s (before ++ take k later) orders)
  placed_from before [] k orders found = absurd (none-some orders found)
  placed_from before (x ∷ later) zero orders found =
      ap₂ (λ (b : Chain) (o : List SealedOrder). Some (placed_over s b o)) (sym (append-nil before)) (same_Some x orders found)
  placed_from before (x ∷ later) (suc k) orders found =
      placed_from (before ++ x ∷ []) later k orders found ∙ ap (λ (b : Chain). Some (placed_over s b orders)) (append_assoc before (x ∷ []) (take k later))

  pub placed_place : (chain : Chain) (k : ℕ) (orders : List SealedOrder) → slice_get chain k ≡ Some orders
      → slice_get (placed s chain) k ≡ Some (placed_over s (take k chain) orders)
  placed_place chain = placed_from [] chain

  from_placed : (before later : Chain) (k : ℕ) (block : Placed) → slice_get (placed_after s before later) k ≡ Some block
      → (orders : List SealedOrder) × (slice_get later k ≡ Some orders) × (block ≡ placed_over s (before ++ take k later) orders)
  from_placed before [] k block found = absurd (none-some block found)
  from_placed before (x ∷ later) zero block found =
      (x, refl, sym (same_Some (placed_over s before x) block found) ∙ ap (λ (b : Chain). placed_over s b x) (sym (append-nil before)))
  from_placed before (x ∷ later) (suc k) block found =
      let rest = from_placed (before ++ x ∷ []) later k block found in
      (rest.0, rest.1, rest.2 ∙ ap (λ (b : Chain). placed_over s b rest.0) (append_assoc before (x ∷ []) (take k later)))

  pub place_placed : (chain : Chain) (k : ℕ) (block : Placed) → slice_get (placed s chain) k ≡ Some block
      → (orders : List SealedOrder) × (slice_get chain k ≡ Some orders) × (block ≡ placed_over s (take k chain) orders)
  place_placed chain = from_placed [] chain

  lates_after : (before later : Chain) → map late_lists (placed_after s before later) ≡ lates later
  lates_after before [] = refl
  lates_after before (x ∷ later) = ap (λ (rest : List (List (List Tx))). late_in x ∷ rest) (lates_after (before ++ x ∷ []) later)

  -- for the blocks from an index on
  pub lates_from : (chain : Chain) (k : ℕ) → map late_lists (drop (k + 1) (placed s chain)) ≡ map late_of (drop (suc k) (map lists_in chain))
  lates_from chain k =
      let next : k + 1 ≡ suc k = omega arith in
      sym (drop-map late_lists (k + 1) (placed s chain))
      ∙ ap (drop (k + 1)) (lates_after [] chain)
      ∙ ap (λ (n : ℕ). drop n (lates chain)) next
      ∙ drop-map late_of (suc k) (map lists_in chain)

  -- for the given number of them
  pub lates_between : (chain : Chain) (k rest : ℕ)
      → map late_lists (take rest (drop (k + 1) (placed s chain))) ≡ map late_of (drop (suc k) (map lists_in (take (k + 1 + rest) chain)))
  lates_between chain k rest =
      let next : k + 1 ≡ suc k = omega arith in
      sym (take-map late_lists rest (drop (k + 1) (placed s chain)))
      ∙ ap (take rest) (sym (drop-map late_lists (k + 1) (placed s chain)) ∙ ap (drop (k + 1)) (lates_after [] chain))
      ∙ sym (drop-take (k + 1) rest (lates chain))
      ∙ ap (drop (k + 1)) (take-map late_of (k + 1 + rest) (map lists_in chain) ∙ ap (map late_of) (take-map lists_in (k + 1 + rest) chain))
      ∙ ap (λ (n : ℕ). drop n (lates (take (k + 1 + rest) chain))) next
      ∙ drop-map late_of (suc k) (map lists_in (take (k + 1 + rest) chain))

  -- the proposal of a block that is followed by these blocks
  abbrev pub graph_with : BlockLists → List BlockLists → Graph
  graph_with b later = graph_over s (kept_by s b.fresh) (b.fresh ∷ map late_of later)

  proposal_from : (blocks : List BlockLists) (k : ℕ) (b : BlockLists) → slice_get blocks k ≡ Some b
      → slice_get (proposals s blocks) k ≡ Some (graph_with b (drop (suc k) blocks))
  proposal_from [] k b found = absurd (none-some b found)
  proposal_from (x ∷ later) zero b found = ap (λ (y : BlockLists). Some (graph_with y later)) (same_Some x b found)
  proposal_from (x ∷ later) (suc k) b found = proposal_from later k b found

  from_proposal : (blocks : List BlockLists) (k : ℕ) (g : Graph) → slice_get (proposals s blocks) k ≡ Some g
      → (b : BlockLists) × (slice_get blocks k ≡ Some b) × (g ≡ graph_with b (drop (suc k) blocks))
  from_proposal [] k g found = absurd (none-some g found)
  from_proposal (x ∷ later) zero g found = (x, refl, sym (same_Some (graph_with x later) g found))
  from_proposal (x ∷ later) (suc k) g found = from_proposal later k g found

  -- the proposal of the orders at an index
  pub proposal_place : (chain : Chain) (k : ℕ) (orders : List SealedOrder) → slice_get chain k ≡ Some orders
      → slice_get (proposals s (map lists_in chain)) k ≡ Some (graph_with (lists_in orders) (drop (suc k) (map lists_in chain)))
  proposal_place chain k orders found = proposal_from (map lists_in chain) k (lists_in orders) (place_image lists_in chain k orders found)

  pub place_proposal : (chain : Chain) (k : ℕ) (g : Graph) → slice_get (proposals s (map lists_in chain)) k ≡ Some g
      → (orders : List SealedOrder) × (slice_get chain k ≡ Some orders) × (g ≡ graph_with (lists_in orders) (drop (suc k) (map lists_in chain)))
  place_proposal chain k g found =
      let at = from_proposal (map lists_in chain) k g found in
      let orders = image_place lists_in chain k at.0 at.1 in
      (orders.0, orders.1, at.2 ∙ ap (λ (b : BlockLists). graph_with b (drop (suc k) (map lists_in chain))) (sym orders.2))
