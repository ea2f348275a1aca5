use Rattle.std.proofs.Common.{◌≡◌, ◌++◌, length, take}
use Rattle.std.specs.List.{flat_map}
use Rattle.std.specs.Int.{w8, w32, to_be_bytes}
use Rattle.seq_base.specs.Spelling.{cert_spelling, sealed_order_spelling}
use Rattle.wire_write.proofs.parts.put_block.Given as goal

abbrev pub invariant-loop-order : goal.invariant-loop-order
invariant-loop-order l = l.out.items ≡ l.fn.out.items ++ (to_be_bytes w32 l.block.view ++ cert_spelling l.block.cert
    ++ to_be_bytes w8 (length l.orders) ++ flat_map sealed_order_spelling (take l.order-index l.orders))
