use Rattle.std.proofs.Common.{◌≡◌, ◌≤◌, length, take}
use Rattle.std.specs.List.{list_any}
use Rattle.std.proofs.lemmas.List.{take_all}
use Rattle.seq_base.specs.declared.tx.Tx.{Tx}
use Rattle.seq_base.specs.Tx.{tx_eq}
use Rattle.run_record.specs.Done.{is_finalised}
use Rattle.run_record.proofs.Dues.{same_all}
use Rattle.run_record.proofs.done.holds_each.Goals as goal

pub returns : goal.returns
returns c =
    let batches = c.args.batches.now in
    let past : length batches ≤ c.loop-batch.batch-index = rw c.as_slice-batch-items.ensures at c.loop-batch-test.false in
    let all : take c.loop-batch.batch-index batches ≡ batches = take_all c.loop-batch.batch-index batches past in
    rw (c.are_held.ensures, c.as_slice-2.ensures)
    (same_all (λ (tx : Tx). list_any (tx_eq tx) c.loop-batch.held.keys) (is_finalised batches) (λ tx. rw all at (c.loop-batch.invariant tx)) c.args.due.now)
