use Rattle.wire_view.proofs.Lists.{length-txs_in}
use Rattle.wire_view.proofs.txs.TxsView.of.Goals as goal

pub invariant_of-result : goal.invariant_of-result
invariant_of-result c = (c.requires, length-txs_in c.args.count c.args.bytes.now)

pub returns-clause-count : goal.returns-clause-count
returns-clause-count c = length-txs_in c.args.count c.args.bytes.now
