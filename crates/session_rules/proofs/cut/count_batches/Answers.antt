use Rattle.std.proofs.Common.{◌≡◌, ◌<◌, [], length, get_or, sym, ap, ◌∙◌, arith}
use Rattle.std.proofs.lemmas.List.{get_or_read}
use Rattle.seq_base.specs.Lists.{holds}
use Rattle.session_rules.proofs.CutBatches.{cut_here, cut_later}
use Rattle.session_rules.proofs.cut.count_batches.Goals as goal

pub returns-then-contains-clause-cut : goal.returns-then-contains-clause-cut
returns-then-contains-clause-cut c =
    let at = c.loop-batch.batch-index in
    let inside : at < length c.args.batches.now = omega arith in
    let batch : c.batch-item.result ≡ get_or c.args.batches.now at [] =
    get_or_read c.args.batches.now at c.batch-item.result inside c.batch-item.is [] in
    cut_here c.args.marker.now c.args.batches.now at inside c.loop-batch.invariant.rest
    (ap (holds c.args.marker.now) (sym (c.as_slice.ensures ∙ batch)) ∙ sym c.contains.ensures.value ∙ c.if-contains.true)
    c.loop-batch.count c.loop-batch.invariant.count

pub loop-batch-preserved : goal.loop-batch-preserved
loop-batch-preserved c =
    let at = c.loop-batch.batch-index in
    let inside : at < length c.args.batches.now = omega arith in
    let batch : c.batch-item.result ≡ get_or c.args.batches.now at [] =
    get_or_read c.args.batches.now at c.batch-item.result inside c.batch-item.is [] in
    record {
      count = omega (arith, c.loop-batch.invariant.count);
      rest = cut_later c.args.marker.now c.args.batches.now at inside c.loop-batch.invariant.rest
          (ap (holds c.args.marker.now) (sym (c.as_slice.ensures ∙ batch)) ∙ sym c.contains.ensures.value ∙ c.if-contains.false);
    }
