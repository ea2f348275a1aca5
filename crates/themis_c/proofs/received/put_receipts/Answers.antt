use Rattle.std.proofs.Common.{◌<◌, ◌≤◌, ◌++◌, List, length, map, take, drop, ap, ◌∙◌, arith}
use Rattle.std.proofs.Math.ListN.{set}
use Rattle.intake.specs.declared.slot.Receipt.{Receipt}
use Rattle.themis_c.specs.declared.CReceipt.{CReceipt}
use Rattle.themis_c.specs.Receipts.{c_receipt}
use Rattle.themis_c.proofs.Copies.{written_more}
use Rattle.themis_c.proofs.received.put_receipts.Goals as goal

pub loop-at-preserved : goal.loop-at-preserved
loop-at-preserved c =
    let receipts : List Receipt = c.args.receipts.now in
    let into : List CReceipt = c.args.into.now in
    let written : List CReceipt = map c_receipt (take c.loop-at.at receipts) ++ drop c.loop-at.at into in
    let there : c.loop-at.at < length receipts = omega arith in
    let room : length receipts ≤ length into = c.requires in
    ap (λ (l : List CReceipt). set l c.loop-at.at c.c_receipt.result) c.loop-at.invariant
    ∙ ap (λ (x : CReceipt). set written c.loop-at.at x) c.c_receipt.ensures
    ∙ written_more c_receipt receipts into c.loop-at.at (record { tx = record { client = 0; number = 0; payload = 0 }; stamp = 0 }) there room
