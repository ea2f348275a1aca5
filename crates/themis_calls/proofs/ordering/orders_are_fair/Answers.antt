use Rattle.plan_text.specs.OrderGrammar.{AreOrders}
use Rattle.batch_laws.specs.Reached.{batches_of}
use Rattle.fair_laws.specs.Kept.{kept_by, proposal_of}
use Rattle.themis_calls.proofs.Asked.{orders_are_fresh}
use Rattle.themis_calls.proofs.ordering.orders_are_fair.Goals as goal

pub returns : goal.returns
returns c = λ bytes orders is a b owed.
    let s = orders.setting in
    let lists = orders.lists in
    let are : AreOrders s lists = (c.order_texts_are_read_as_spelled.ensures.read bytes orders is).0 in
    let fresh = orders_are_fresh s lists are in (
      c.fair_one.ensures.kept s lists a b are.setting owed,
      λ complete. c.fair_one_in_batches.ensures s lists a b (kept_by s lists) (batches_of (proposal_of s lists)) are.setting owed
          (c.computed_lists_are_kept.ensures.kept s lists fresh) complete
          (c.computed_lists_are_batches.ensures (proposal_of s lists) (c.computed_lists_are_kept.ensures.graph s lists fresh) complete),
    )
