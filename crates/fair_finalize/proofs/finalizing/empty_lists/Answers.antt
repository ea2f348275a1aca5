use Rattle.std.proofs.Common.{ap, ◌∙◌}
use Rattle.fair_finalize.proofs.FilledLists.{items_of, one_empty_more}
use Rattle.fair_finalize.proofs.finalizing.empty_lists.Goals as goal

pub loop-preserved : goal.loop-preserved
loop-preserved c =
    ap items_of c.in_ok-push.ensures.items ∙ one_empty_more c.loop.lists.items c.loop.counter c.new.result c.new.ensures.items c.loop.invariant
