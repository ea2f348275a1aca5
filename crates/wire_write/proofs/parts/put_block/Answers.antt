use Rattle.std.proofs.Common.{ℕ, List, ◌++◌, length, ap, ◌∙◌}
use Rattle.std.specs.Int.{w8, w32, to_be_bytes}
use Rattle.std.specs.List.{flat_map}
use Rattle.std.proofs.lemmas.List.{take_all}
use Rattle.seq_base.specs.declared.order.SealedOrder.{SealedOrder}
use Rattle.seq_base.specs.Spelling.{cert_spelling, sealed_order_spelling}
use Rattle.wire_write.proofs.Puts.{three_put, none_put, one_more_put}
use Rattle.wire_write.proofs.parts.put_block.Goals as goal

pub loop-order-init : goal.loop-order-init
loop-order-init c =
    let block = c.args.block.now in
    let out : List ℕ = c.args.out.now.items in
    let view = to_be_bytes w32 block.view in
    let count = to_be_bytes w8 (length c.as_slice-orders.result.now) in
    none_put out (view ++ cert_spelling block.cert ++ count) c.put_u8_count.new.out.items
    (three_put out view (cert_spelling block.cert) count c.put_u32.new.out.items c.put_cert.new.out.items c.put_u8_count.new.out.items
    c.in_ok-put_u32.ensures c.in_ok-put_cert.ensures c.in_ok-put_u8_count.ensures)

pub loop-order-preserved : goal.loop-order-preserved
loop-order-preserved c =
    let block = c.args.block.now in
    let orders = c.as_slice-orders.result.now in
    one_more_put sealed_order_spelling c.args.out.now.items
    (to_be_bytes w32 block.view ++ cert_spelling block.cert ++ to_be_bytes w8 (length orders)) c.loop-order.out.items
    c.put_sealed_order.new.out.items
    orders c.loop-order.order-index c.order-item.result c.loop-order-test.true c.loop-order.invariant
    (c.in_ok-put_sealed_order.ensures ∙ ap (λ (order : SealedOrder). c.loop-order.out.items ++ sealed_order_spelling order) c.order-item.is)

pub returns : goal.returns
returns c =
    let block = c.args.block.now in
    let out : List ℕ = c.args.out.now.items in
    let prefix : List ℕ = to_be_bytes w32 block.view ++ cert_spelling block.cert in
    let orders = c.as_slice-orders.result.now in
    c.loop-order.invariant
    ∙ ap (λ (os : List SealedOrder). out ++ (prefix ++ to_be_bytes w8 (length orders) ++ flat_map sealed_order_spelling os))
    (take_all c.loop-order.order-index orders c.loop-order-test.false)
    ∙ ap (λ (os : List SealedOrder). out ++ (prefix ++ to_be_bytes w8 (length os) ++ flat_map sealed_order_spelling os)) c.as_slice-orders.ensures
