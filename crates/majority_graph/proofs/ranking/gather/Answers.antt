use Rattle.std.proofs.Common.{◌∙◌, arith, sym}
use Rattle.std.proofs.lemmas.List.Edits.{length-swap}
use Rattle.majority_graph.proofs.WantedFirst.{gathered, others_left}
use Rattle.majority_graph.proofs.Wanted.{wanted_no}
use Rattle.majority_graph.proofs.ranking.gather.Goals as goal
use Rattle.majority_graph.proofs.ranking.gather.Goals.{then-wanted-at, else-wanted-at}

pub loop-at-preserved : goal.loop-at-preserved
loop-at-preserved c =
    let ws = c.args.wanted.now in
    let old = c.args.ranked.now in
    let xs = c.loop-at.ranked in
    let count = c.loop-at.count in
    let at = c.loop-at.at in
    elim c.if-wanted-at.branch [
      | then-wanted-at w ↦
          rw (w.ranked-is, w.count-is, w.swap.ensures.after) (record {
            prefix = gathered ws old xs count at c.requires (omega arith) c.loop-at.invariant.few c.loop-at.invariant.same_length
                w.if-wanted-at.true c.loop-at.invariant.prefix c.loop-at.invariant.rest;
            rest = others_left old xs count at (omega (arith, c.requires, c.loop-at.invariant.same_length)) c.loop-at.invariant.few c.loop-at.invariant.rest;
            few = omega (arith, c.loop-at.invariant.few);
            same_length = length-swap xs count at ∙ c.loop-at.invariant.same_length;
          })
      | else-wanted-at w ↦
          rw (w.ranked-is, w.count-is) (record {
            prefix = c.loop-at.invariant.prefix ∙ (sym (wanted_no ws old at (omega arith) w.if-wanted-at.false));
            rest = λ k d after. c.loop-at.invariant.rest k d (omega (arith, after));
            few = omega (arith, c.loop-at.invariant.few);
            same_length = c.loop-at.invariant.same_length;
          })
    ]
