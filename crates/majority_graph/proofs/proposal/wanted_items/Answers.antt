use Rattle.std.proofs.Common.{arith}
use Rattle.majority_graph.proofs.Wanted.{wanted_yes, wanted_no}
use Rattle.majority_graph.proofs.proposal.wanted_items.Goals as goal
use Rattle.majority_graph.proofs.proposal.wanted_items.Goals.{then-is_wanted+in_ok-push, else-is_wanted}

pub loop-at-preserved : goal.loop-at-preserved
loop-at-preserved g c =
    elim c.if-is_wanted.branch [
      | then-is_wanted+in_ok-push w ↦
          let more = wanted_yes c.args.wanted.now c.args.items.now c.loop-at.at w.index-items-at.result (omega arith)
          (omega (arith, c.requires)) w.if-is_wanted.true in
          rw (w.kept-is, more, ← w.index-items-at.is, ← c.loop-at.invariant) w.in_ok-push.ensures.items
      | else-is_wanted w ↦
          let same = wanted_no c.args.wanted.now c.args.items.now c.loop-at.at (omega arith) w.if-is_wanted.false in
          rw (w.kept-is, same) c.loop-at.invariant
    ]
