use Rattle.std.proofs.Common.{rules}
use Rattle.std.proofs.lemmas.List.FromFn.{map-range_with_len_more}
use Rattle.plan_maker.specs.Order.{made_tx}
use Rattle.plan_maker.proofs.order.first_txs.Goals as goal

pub loop-k-preserved : goal.loop-k-preserved
loop-k-preserved c = rw (map-range_with_len_more made_tx 0 c.loop-k.k c.loop-k.k (search rules)) (search rules)
