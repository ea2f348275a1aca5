-- The lists of a block within its limits.
use Rattle.std.proofs.Common.{◌≤◌, List, length, arith}
use Rattle.std.proofs.lemmas.List.{length-map}
use Rattle.std.proofs.lemmas.List.Elements.{All-map}
use Rattle.seq_base.specs.declared.block.Block.{Block}
use Rattle.seq_base.specs.declared.tx.Tx.{Tx}
use Rattle.seq_base.specs.declared.order.SealedOrder.{SealedOrder}
use Rattle.seq_base.specs.Limits.{IsWithin}
use Rattle.seq_base.specs.Lists.{AreFresh}
use Rattle.chain_state.specs.Lists.{fresh_of}

abbrev fresh_list : SealedOrder → List Tx
fresh_list sealed = sealed.order.fresh

pub lists_are_fresh : (block : Block) → IsWithin block → AreFresh (fresh_of block)
lists_are_fresh block within = record {
  few = omega (arith, length-map block.orders fresh_list, within.few);
  short = All-map (λ (list : List Tx). length list ≤ 128) fresh_list block.orders (λ k d inside. (within.short k d inside).fresh);
}
