-- The part of a block that proposals depend on: the fresh lists and the late lists of its orders, in their order.
use Rattle.std.specs.Prelude.{List, map}
use Rattle.seq_base.specs.declared.tx.Tx.{Tx}
use Rattle.seq_base.specs.declared.block.Block.{Block}

abbrev pub fresh_of : Block → List (List Tx)
fresh_of block = map (λ sealed. sealed.order.fresh) block.orders

abbrev pub late_of : Block → List (List Tx)
late_of block = map (λ sealed. sealed.order.late) block.orders

pub record BlockLists : Type 0 where
  pub fresh : List (List Tx)
  pub late : List (List Tx)

abbrev pub lists_of : Block → BlockLists
lists_of block = record { fresh = fresh_of block; late = late_of block }
