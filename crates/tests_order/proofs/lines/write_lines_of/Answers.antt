use Rattle.std.proofs.Common.{◌≡◌, ◌<◌, List, [], length, get_or, true, sym, subst, ◌∙◌}
use Rattle.std.specs.Prelude.{All}
use Rattle.std.proofs.lemmas.List.{get_or_default}
use Rattle.seq_base.specs.declared.tx.Tx.{Tx}
use Rattle.seq_base.specs.Lists.{holds}
use Rattle.line_up.proofs.Batches.{held_by_batch}
use Rattle.tests_order.proofs.lines.write_lines_of.Goals as goal

pub line_of_batch-requires-clause-vertices : goal.line_of_batch-requires-clause-vertices
line_of_batch-requires-clause-vertices c =
    let vertices : List Tx = c.args.graph.now.vertices in
    let batches : List (List Tx) = c.args.batches.now in
    let inside : c.loop-batch.batch-index < length batches = rw c.as_slice-batches.ensures at c.loop-batch-test.true in
    let item : c.batch-item.result ≡ get_or batches c.loop-batch.batch-index c.batch-item.result = rw c.as_slice-batches.ensures at c.batch-item.is in
    let is : c.as_slice.result.now ≡ get_or batches c.loop-batch.batch-index [] =
    c.as_slice.ensures ∙ item ∙ get_or_default batches c.loop-batch.batch-index c.batch-item.result [] inside in
    subst (λ (txs : List Tx). All (λ t. holds t vertices ≡ true) txs) (sym is)
    (held_by_batch c.args.graph.now batches c.loop-batch.batch-index c.requires.batches)
