use Rattle.std.proofs.Common.{◌<◌, ◌≤◌, ◌+◌, ◌++◌, ℕ, List, length, map, take, drop, ap, ◌∙◌, arith}
use Rattle.std.proofs.Math.ListN.{set}
use Rattle.seq_base.specs.declared.tx.Tx.{Tx}
use Rattle.themis_c.specs.declared.CTx.{CTx}
use Rattle.themis_c.specs.Calls.{c_tx}
use Rattle.themis_c.proofs.Copies.{written_from}
use Rattle.themis_c.proofs.arriving.put_from.Goals as goal

pub loop-at-preserved : goal.loop-at-preserved
loop-at-preserved c =
    let txs : List Tx = c.args.txs.now in
    let into : List CTx = c.args.into.now in
    let start : ℕ = c.args.start in
    let written : List CTx = take start into ++ map c_tx (take c.loop-at.at txs) ++ drop (start + c.loop-at.at) into in
    let there : c.loop-at.at < length txs = omega arith in
    let room : start + length txs ≤ length into = c.requires in
    ap (λ (l : List CTx). set l (start + c.loop-at.at) c.c_tx.result) c.loop-at.invariant
    ∙ ap (λ (x : CTx). set written (start + c.loop-at.at) x) c.c_tx.ensures
    ∙ written_from c_tx txs into start c.loop-at.at (record { client = 0; number = 0; payload = 0 }) there room
