use Rattle.fair_finalize.proofs.FilledLists.{one_is_put}
use Rattle.fair_finalize.proofs.finalizing.put.Goals as goal

pub returns : goal.returns
returns c =
    one_is_put c.args.lists.now.items c.args.number c.index_mut-list.result.now c.push.new.self c.args.tx c.requires
    c.index_mut-list.ensures.value c.in_ok-push.ensures.items
