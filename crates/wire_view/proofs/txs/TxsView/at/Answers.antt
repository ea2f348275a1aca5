use Rattle.std.proofs.Common.{◌<◌, length, arith, ap}
use Rattle.wire_view.proofs.Steps.{tx_at}
use Rattle.wire_view.proofs.txs.TxsView.at.Goals as goal

pub returns : goal.returns
returns c =
    let view = c.self.view_is in
    let within : c.args.k < c.self.inside.count = omega (arith, c.requires, ap length view, c.self.invariant.1) in
    rw (← view, c.read_tx.ensures, c.split_at.ensures.back) (tx_at c.self.inside.count c.self.inside.bytes.now c.args.k within)
