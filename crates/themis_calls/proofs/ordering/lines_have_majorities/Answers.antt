use Rattle.std.proofs.Common.{List, [], get_or}
use Rattle.seq_base.specs.declared.tx.Tx.{Tx}
use Rattle.batch_laws.specs.Reached.{batches_of}
use Rattle.fair_laws.specs.Kept.{kept_by, proposal_of}
use Rattle.plan_text.specs.OrderGrammar.{AreOrders}
use Rattle.themis_calls.proofs.Asked.{orders_are_fresh}
use Rattle.themis_calls.proofs.ordering.lines_have_majorities.Goals as goal

pub returns : goal.returns
returns c = λ bytes orders is complete i inside.
    let s = orders.setting in
    let lists = orders.lists in
    let are : AreOrders s lists = (c.order_texts_are_read_as_spelled.ensures.read bytes orders is).0 in
    let graph = c.computed_lists_are_kept.ensures.graph s lists (orders_are_fresh s lists are) in
    let batches : List (List Tx) = batches_of (proposal_of s lists) in (
      c.neighbours_have_majorities.ensures.each s lists (get_or batches i []),
      c.lines_of_batches_have_majorities.ensures s lists (kept_by s lists) batches i complete
          (c.computed_lists_are_batches.ensures (proposal_of s lists) graph complete) inside,
    )
