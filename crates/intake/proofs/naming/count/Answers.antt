use Rattle.std.proofs.Common.{◌∷◌, [], ◌++◌, List, sym, subst, take, arith}
use Rattle.std.proofs.lemmas.List.{take_all, take_more}
use Rattle.seq_base.specs.declared.tx.Tx.{Tx}
use Rattle.intake.specs.Naming.{AreCounted}
use Rattle.intake.proofs.Counts.{counted_none}
use Rattle.intake.proofs.naming.count.Goals as goal

pub loop-tx-init : goal.loop-tx-init
loop-tx-init c lists all = counted_none lists _ all

pub loop-tx-preserved : goal.loop-tx-preserved
loop-tx-preserved c lists all =
    subst (λ (txs : List Tx). AreCounted (lists ++ txs ∷ []) c.count_one.new.counts.entries)
    (sym (take_more c.args.txs.now c.loop-tx.tx-index _ c.loop-tx-test.true))
    (c.in_ok-count_one.ensures lists (take c.loop-tx.tx-index c.args.txs.now) (c.loop-tx.invariant lists all))

pub returns : goal.returns
returns c lists all =
    subst (λ (txs : List Tx). AreCounted (lists ++ txs ∷ []) c.loop-tx.counts.entries)
    (take_all c.loop-tx.tx-index c.args.txs.now (omega (arith, c.loop-tx-test.false)))
    (c.loop-tx.invariant lists all)
