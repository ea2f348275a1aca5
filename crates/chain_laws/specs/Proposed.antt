-- What a block of a chain proposes, and what is solid there. Blocks are numbered from 0.
use Rattle.std.specs.Prelude.{◌≡◌, ℕ, List, Some, slice_get}
use Rattle.seq_base.specs.declared.tx.Tx.{Tx}
use Rattle.seq_base.specs.declared.order.SealedOrder.{SealedOrder}
use Rattle.seq_base.specs.Setting.{Parameters}
use Rattle.fair_laws.specs.Kept.{IsSolid, IsKept}
use Rattle.chain_laws.specs.Blocks.{Chain, fresh_in}

-- the block of that number proposes it: its fresh lists keep it
pub record IsProposedAt (s : Parameters) (chain : Chain) (number : ℕ) (t : Tx) : Type 0 where
  pub orders : List SealedOrder
  pub stands : slice_get chain number ≡ Some orders
  pub kept : IsKept s (fresh_in orders) t

-- at least n-2f of its fresh lists hold it
pub record IsSolidAt (s : Parameters) (chain : Chain) (number : ℕ) (t : Tx) : Type 0 where
  pub orders : List SealedOrder
  pub stands : slice_get chain number ≡ Some orders
  pub solid : IsSolid s (fresh_in orders) t
