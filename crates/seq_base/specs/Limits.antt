-- Size limits of local orders and blocks.
use Rattle.std.specs.Prelude.{◌≤◌, length, All}
use Rattle.seq_base.specs.declared.order.LocalOrder.{LocalOrder}
use Rattle.seq_base.specs.declared.block.Block.{Block}

-- at most 128 fresh transactions and 256 late ones
pub record IsShort (order : LocalOrder) : Type 0 where
  pub fresh : length order.fresh ≤ 128
  pub late : length order.late ≤ 256

-- at most 16 local orders, each within its own limits
pub record IsWithin (block : Block) : Type 0 where
  pub few : length block.orders ≤ 16
  pub short : All (λ sealed. IsShort sealed.order) block.orders
