-- The orders of a block at its position in a chain, and how an honest replica draws its order from its arrival list.
use Rattle.std.specs.Prelude.{ℕ, ◌≡◌, List, Bool, false, not, length, map, take, filter, All}
use Rattle.seq_base.specs.declared.tx.Tx.{Tx}
use Rattle.seq_base.specs.declared.order.LocalOrder.{LocalOrder}
use Rattle.seq_base.specs.declared.order.SealedOrder.{SealedOrder}
use Rattle.seq_base.specs.Setting.{Parameters, quorum_of}
use Rattle.count_set.specs.Sets.{AreReplicas}
use Rattle.chain_laws.specs.Received.{Arrivals}

-- A block's orders, and which transactions are used and which are waiting in the chain that it extends: those in a
-- proposal, and those that belong to a missing pair.
pub record Placed : Type 0 where
  pub used : Tx → Bool
  pub waiting : Tx → Bool
  pub orders : List SealedOrder

abbrev pub replicas_of : Placed → List ℕ
replicas_of block = map (λ sealed. sealed.order.replica) block.orders

abbrev pub fresh_lists : Placed → List (List Tx)
fresh_lists block = map (λ sealed. sealed.order.fresh) block.orders

abbrev pub late_lists : Placed → List (List Tx)
late_lists block = map (λ sealed. sealed.order.late) block.orders

-- the first `most` of the wanted among the first `known` that arrived
abbrev pub drawn_from : ℕ → (Tx → Bool) → ℕ → List Tx → List Tx
drawn_from most wanted known arrived = take most (filter wanted (take known arrived))

-- From a prefix of the arrival list, fresh are the first 128 that are not used, and late the first 256 that are
-- waiting.
pub record IsDrawn (block : Placed) (arrived : List Tx) (order : LocalOrder) : Type 0 where
  pub known : ℕ
  pub fresh : order.fresh ≡ drawn_from 128 (λ t. not (block.used t)) known arrived
  pub late : order.late ≡ drawn_from 256 block.waiting known arrived

-- the order is drawn where its replica is honest
abbrev pub IsDrawnIfHonest : (ℕ → Bool) → Arrivals → Placed → LocalOrder → Type 0
IsDrawnIfHonest faulty arrivals block order = faulty order.replica ≡ false → IsDrawn block (arrivals order.replica) order

-- n-f orders of distinct replicas, where those of honest ones are drawn from their arrival lists. Nothing is required
-- of the orders of faulty ones.
pub record IsBlock (s : Parameters) (faulty : ℕ → Bool) (arrivals : Arrivals) (block : Placed) : Type 0 where
  pub replicas : AreReplicas s.n (replicas_of block)
  pub quorum : length block.orders ≡ quorum_of s
  pub honest : All (λ sealed. IsDrawnIfHonest faulty arrivals block sealed.order) block.orders
