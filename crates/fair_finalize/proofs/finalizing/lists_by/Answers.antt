use Rattle.std.proofs.Common.{◌<◌, List, length, ap, ◌∙◌, arith, get_or}
use Rattle.seq_base.specs.declared.tx.Tx.{Tx}
use Rattle.fair_finalize.specs.Filling.{with_one_more}
use Rattle.fair_finalize.proofs.FilledLists.{as_many, filled}
use Rattle.fair_finalize.proofs.finalizing.lists_by.Goals as goal

abbrev some_tx : Tx
some_tx = record { client = 0; number = 0; payload = 0 }

pub put-requires : goal.put-requires
put-requires c =
    omega (arith, as_many c.loop-at.lists.items _ c.args.count _ c.loop-at.invariant, c.requires.below c.loop-at.at (omega (arith, c.requires.each)))

pub loop-at-preserved : goal.loop-at-preserved
loop-at-preserved c =
    let numbers = c.args.numbers.now in
    let txs = c.args.txs.now in
    let at = c.loop-at.at in
    let here : c.loop-at.at < length c.args.numbers.now = omega (arith, c.requires.each) in
    c.in_ok-put.ensures
    ∙ ap (λ (lists : List (List Tx)). with_one_more lists (get_or numbers at 0) (get_or txs at some_tx)) c.loop-at.invariant
    ∙ filled numbers txs at some_tx here (omega arith) c.args.count (c.requires.below at here)
