use Rattle.std.proofs.Common.{not, arith}
use Rattle.std.specs.Prelude.{filter}
use Rattle.std.proofs.lemmas.List.{length-take}
use Rattle.seq_base.specs.declared.tx.Tx.{Tx}
use Rattle.chain_state.specs.Standings.{is_used, is_waiting}
use Rattle.chain_state.proofs.drawing.make_order.Goals as goal

pub returns-clause-short : goal.returns-clause-short
returns-clause-short c = record {
  fresh = rw (c.of.ensures, c.in_ok-fresh.ensures) (omega (arith, length-take 128 (filter (λ (t : Tx). not (is_used c.args.chain.now t)) c.args.prefix.now)));
  late = rw (c.of-2.ensures, c.in_ok-late.ensures) (omega (arith, length-take 256 (filter (is_waiting c.args.chain.now) c.args.prefix.now)));
}
