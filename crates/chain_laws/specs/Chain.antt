-- A chain of blocks, numbered from 0: what it has proposed and which pairs are missing before each block, and its
-- batches.
use Rattle.std.specs.Prelude.{ℕ, ◌≡◌, ◌≢◌, ◌+◌, ◌<◌, ◌≤◌, ◌⊎◌, ◌↔◌, List, Bool, Some, true, false, length, take, drop, flat_map, slice_get, All}
use Rattle.seq_base.specs.declared.tx.Tx.{Tx}
use Rattle.seq_base.specs.Setting.{Parameters}
use Rattle.majority_graph.specs.declared.edge.Edge.TheVariants.{Missing}
use Rattle.majority_graph.specs.Graph.{Graph}
use Rattle.batch_laws.specs.Batches.{StandsIn, AreBatches}
use Rattle.fair_laws.specs.Kept.{IsKept}
use Rattle.majority_graph.specs.Later.{first_edge}
use Rattle.chain_laws.specs.Received.{Arrivals}
use Rattle.chain_laws.specs.Drawn.{Placed, IsBlock, fresh_lists}
use Rattle.chain_laws.specs.Lifetime.{lists_of_lifetime, IsCompleteProposal}

-- the block of that number proposes it
pub record Proposes (s : Parameters) (blocks : List Placed) (number : ℕ) (t : Tx) : Type 0 where
  pub block : Placed
  pub stands : slice_get blocks number ≡ Some block
  pub kept : IsKept s (fresh_lists block) t

-- a block before that number does
pub record IsProposedBefore (s : Parameters) (blocks : List Placed) (number : ℕ) (t : Tx) : Type 0 where
  pub proposer : ℕ
  pub before : proposer < number
  pub proposes : Proposes s blocks proposer t

-- The transaction belongs to a pair of a proposal that has no edge from its own block and the `rest` later ones
-- before that number.
pub record IsMissingBefore (s : Parameters) (blocks : List Placed) (number : ℕ) (t : Tx) : Type 0 where
  pub proposer : ℕ
  pub rest : ℕ
  pub before : proposer + 1 + rest ≡ number
  pub block : Placed
  pub stands : slice_get blocks proposer ≡ Some block
  pub kept : IsKept s (fresh_lists block) t
  pub other : Tx
  pub differs : t ≢ other
  pub other_kept : IsKept s (fresh_lists block) other
  pub missing : first_edge s (lists_of_lifetime block (take rest (drop (proposer + 1) blocks))) t other ≡ Missing

-- Blocks as above. In each of them, a transaction is used where an earlier block proposed it, and waiting where it
-- belongs to a missing pair.
pub record IsChain (s : Parameters) (faulty : ℕ → Bool) (arrivals : Arrivals) (blocks : List Placed) : Type 0 where
  pub each : All (IsBlock s faulty arrivals) blocks
  pub used : (number : ℕ) (block : Placed) (t : Tx) → slice_get blocks number ≡ Some block → (block.used t ≡ true) ↔ IsProposedBefore s blocks number t
  pub waiting : (number : ℕ) (block : Placed) (t : Tx) → slice_get blocks number ≡ Some block → (block.waiting t ≡ true) ↔ IsMissingBefore s blocks number t

-- the batches of the proposal of that number, which is complete by the blocks after it
pub record AreFinal (s : Parameters) (blocks : List Placed) (number : ℕ) (batches : List (List Tx)) : Type 0 where
  pub block : Placed
  pub stands : slice_get blocks number ≡ Some block
  pub graph : Graph
  pub proposal : IsCompleteProposal s block (drop (number + 1) blocks) graph
  pub batched : AreBatches graph batches

-- The batches of the proposals in turn, up to but not including the first that is not complete.
pub record IsFinalised (s : Parameters) (blocks : List Placed) (finals : List (List (List Tx))) : Type 0 where
  pub each : (number : ℕ) (batches : List (List Tx)) → slice_get finals number ≡ Some batches → AreFinal s blocks number batches
  pub ends : (batches : List (List Tx)) → AreFinal s blocks (length finals) batches → ⊥

-- a is in an earlier proposal, or in the same proposal in that batch or an earlier one
pub record StandsNoLater (finals : List (List (List Tx))) (a : Tx) (number batch : ℕ) : Type 0 where
  pub proposal : ℕ
  pub batches : List (List Tx)
  pub found : slice_get finals proposal ≡ Some batches
  pub place : ℕ
  pub stands : StandsIn batches place a
  pub order : (proposal < number) ⊎ ((proposal ≡ number) × (place ≤ batch))

-- the list of batches: those of all the proposals in turn
abbrev pub batch_list : List (List (List Tx)) → List (List Tx)
batch_list finals = flat_map (λ batches. batches) finals

-- no fresh entry of a block is in a proposal before it
abbrev pub FreshAreUnused : List Placed → Type 0
FreshAreUnused blocks = All (λ block. All (λ list. All (λ t. block.used t ≡ false) list) (fresh_lists block)) blocks
