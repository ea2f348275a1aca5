use Rattle.std.proofs.Common.{◌≡◌, ◌<◌, List, [], length, get_or, true, sym, subst, ◌∙◌}
use Rattle.std.specs.Prelude.{All}
use Rattle.std.proofs.lemmas.List.{get_or_default}
use Rattle.seq_base.specs.declared.tx.Tx.{Tx}
use Rattle.seq_base.specs.Lists.{holds}
use Rattle.line_up.proofs.Batches.{held_by_batch}
use Rattle.report_text.proofs.line.write_lined_batches.Goals as goal

pub write_lined_batch-requires-clause-vertices : goal.write_lined_batch-requires-clause-vertices
write_lined_batch-requires-clause-vertices c =
    let vertices : List Tx = c.args.proposal.now.vertices in
    let batches : List (List Tx) = c.args.batches.now in
    let inside : c.loop-at.at < length batches = rw c.as_slice-batches.ensures at c.loop-at-test.true in
    let item : c.index-batches-at.result ≡ get_or batches c.loop-at.at c.index-batches-at.result = rw c.as_slice-batches.ensures at c.index-batches-at.is in
    let is : c.as_slice.result.now ≡ get_or batches c.loop-at.at [] =
    c.as_slice.ensures ∙ item ∙ get_or_default batches c.loop-at.at c.index-batches-at.result [] inside in
    subst (λ (txs : List Tx). All (λ t. holds t vertices ≡ true) txs) (sym is) (held_by_batch c.args.proposal.now batches c.loop-at.at c.requires.batches)
