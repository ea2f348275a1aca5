-- The rules for the blocks of a chain, where replicas that are not faulty draw their orders from their arrival lists.
use Rattle.std.specs.Prelude.{◌≡◌, ℕ, List, length, map, take, Bool, true, false, Some, slice_get, All}
use Rattle.seq_base.specs.declared.tx.Tx.{Tx}
use Rattle.seq_base.specs.declared.order.LocalOrder.{LocalOrder}
use Rattle.seq_base.specs.declared.order.SealedOrder.{SealedOrder}
use Rattle.seq_base.specs.Limits.{IsShort}
use Rattle.seq_base.specs.Setting.{Parameters, quorum_of}
use Rattle.count_set.specs.Sets.{AreReplicas}
use Rattle.chain_state.specs.Standings.{fits, order_drawn}
use Rattle.chain_laws.specs.Received.{Arrivals}
use Rattle.chain_laws.specs.Blocks.{Chain, standing_of}

-- The order is the one drawn over the chain from a prefix of the arrival list.
pub record IsDrawnOver (s : Parameters) (chain : Chain) (arrived : List Tx) (order : LocalOrder) : Type 0 where
  pub known : ℕ
  pub is : order ≡ order_drawn order.replica order.view order.parent (take known arrived) (standing_of s chain)

-- the same for the order of a replica, if it is not faulty
abbrev pub IsHonestOver : Parameters → (ℕ → Bool) → Arrivals → Chain → LocalOrder → Type 0
IsHonestOver s faulty arrivals chain order = faulty order.replica ≡ false → IsDrawnOver s chain (arrivals order.replica) order

-- A block over a chain: n-f orders of distinct replicas. Each is within the limits and fits the chain, and honest
-- ones are drawn over it.
pub record IsBlockOver (s : Parameters) (faulty : ℕ → Bool) (arrivals : Arrivals) (chain : Chain) (orders : List SealedOrder) : Type 0 where
  pub quorum : length orders ≡ quorum_of s
  pub replicas : AreReplicas s.n (map (λ sealed. sealed.order.replica) orders)
  pub short : All (λ sealed. IsShort sealed.order) orders
  pub fit : All (λ sealed. fits (standing_of s chain) sealed.order ≡ true) orders
  pub honest : All (λ sealed. IsHonestOver s faulty arrivals chain sealed.order) orders

-- The block of each number, counted from 0, is a block over those before it.
abbrev pub AreBlocks : Parameters → (ℕ → Bool) → Arrivals → Chain → Type 0
AreBlocks s faulty arrivals chain = (number : ℕ) (orders : List SealedOrder) → slice_get chain number ≡ Some orders
    → IsBlockOver s faulty arrivals (take number chain) orders
