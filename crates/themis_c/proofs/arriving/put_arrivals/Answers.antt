use Rattle.std.proofs.Common.{arith}
use Rattle.themis_c.specs.Calls.{c_tx}
use Rattle.themis_c.proofs.Copies.{both_written}
use Rattle.themis_c.proofs.arriving.put_arrivals.Goals as goal

pub returns : goal.returns
returns c =
    both_written c_tx c.args.arrivals.now.txs.items c.args.arrivals.now.given.items _ _ c.args.into.now _ _ _ c.as_slice.ensures.value
    c.as_slice-2.ensures.value
    (omega (arith, c.len-size.ensures, c.as_slice.ensures.len)) (omega (arith, c.requires)) c.put_txs.ensures c.put_from.ensures
