use Rattle.std.proofs.Common.{◌≡◌, ◌∙◌, map, arith}
use Rattle.std.specs.List.{range_with_len}
use Rattle.std.proofs.lemmas.List.{with_items_is}
use Rattle.std.proofs.lemmas.List.FromFn.{length-map-range_with_len}
use Rattle.plan_maker.specs.Order.{made_tx}
use Rattle.plan_maker.proofs.order.order_of.Goals as goal

pub returns : goal.returns
returns c =
    let first : c.in_ok-txs.txs.items ≡ map made_tx (range_with_len 0 c.args.count) = c.in_ok-txs.ensures in
    with_items_is c.in_ok-txs.txs c.exchange.new.txs (omega arith)
    ∙ rw (c.exchange.ensures, c.stream_seed.ensures, c.deref_mut.ensures.value, first, length-map-range_with_len made_tx 0 c.args.count)
